use Rattle.client_script.proofs.Telling.{line_now}
use Rattle.client_script.proofs.player.Player.tell.Goals as goal

pub line_of-requires : goal.line_of-requires
line_of-requires g c = line_now c.args.self.now.known _ _ _ c.requires c.in_ok-learn_of.ensures
