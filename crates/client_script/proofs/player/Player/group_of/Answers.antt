use Rattle.client_script.proofs.Finding.{asks_of}
use Rattle.client_script.proofs.player.Player.group_of.Goals as goal

pub returns : goal.returns
returns g c = asks_of c.args.self.now c.args.name c.in_ok-at.at c.index.result.now c.in_ok-at.ensures c.index.ensures
