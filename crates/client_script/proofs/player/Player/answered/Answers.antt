use Rattle.client_script.proofs.Finding.{answered_not}
use Rattle.client_script.proofs.player.Player.answered.Goals as goal

pub returns-in-Err : goal.returns-in-Err
returns-in-Err g c = answered_not c.args.self.now c.args.name c.args.at c.args.answer c.in-Err.halt c.stopped.result c.stopped.new.self c.in-Err.is c.stopped.ensures
