use Rattle.client_script.proofs.Finding.{stops_lost}
use Rattle.client_script.proofs.player.Player.stopped.Goals as goal

pub returns-in-Lost : goal.returns-in-Lost
returns-in-Lost g c = stops_lost c.args.self.now c.args.name c.args.at c.args.halt c.lose.result c.lose.new.self c.in-Lost.is c.lose.ensures
