use Rattle.server_counts.proofs.Sums.{puts}
use Rattle.server_counts.proofs.counting.Counting.put.Goals as goal

pub returns : goal.returns
returns c = puts c.args.self.now c.args.octets.now c.push-new.new.self c.push-new.result c.shown-packets.result c.add.new.self c.push-new.ensures c.shown-packets.ensures c.add.ensures
