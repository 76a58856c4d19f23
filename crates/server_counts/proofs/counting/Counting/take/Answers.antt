use Rattle.server_counts.proofs.Sums.{took}
use Rattle.server_counts.proofs.counting.Counting.take.Goals as goal

pub returns : goal.returns
returns c = took c.args.self.now c.args.octets.now c.push-new.new.self c.push-new.result c.shown-calls.result c.shown-packets.result c.add.new.self c.push-new.ensures c.shown-calls.ensures c.shown-packets.ensures c.add.ensures
