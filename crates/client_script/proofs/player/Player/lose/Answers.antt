use Rattle.client_script.proofs.Finding.{tells_lost}
use Rattle.client_script.proofs.player.Player.lose.Goals as goal

pub returns-in-Ok : goal.returns-in-Ok
returns-in-Ok g c =
    tells_lost c.args.self.now c.tell_lost.new.self c.args.name c.args.at c.index.result.now c.is_calling-called.result c.requires c.index.ensures c.is_calling-called.ensures c.in-Ok.ensures.tells.0 c.in-Ok.ensures.tells.1
