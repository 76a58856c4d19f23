use Rattle.std.proofs.Common.{sym}
use Rattle.replay.proofs.Each.{unsent}
use Rattle.replay.proofs.send.send_to.Goals as goal

pub returns-in-Closed : goal.returns-in-Closed
returns-in-Closed c = unsent c.args.octets.now c.args.player.now c.args.played.now c.in-Closed.is
