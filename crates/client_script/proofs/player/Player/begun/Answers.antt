use Rattle.client_script.proofs.Finding.{begun_not}
use Rattle.client_script.proofs.player.Player.begun.Goals as goal

pub returns-in-Err : goal.returns-in-Err
returns-in-Err g c = begun_not c.args.self.now c.args.name c.args.at c.args.begun c.in-Err.halt c.unbegun.result c.unbegun.new.self c.in-Err.is c.unbegun.ensures
