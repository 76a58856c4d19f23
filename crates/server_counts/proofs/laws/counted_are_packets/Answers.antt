use Rattle.server_counts.proofs.Fronts.{counted_are_packets}
use Rattle.server_counts.proofs.laws.counted_are_packets.Goals as goal

pub returns : goal.returns
returns c = counted_are_packets
