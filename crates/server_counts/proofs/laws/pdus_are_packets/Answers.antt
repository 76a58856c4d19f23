use Rattle.server_counts.proofs.Pieces.{pdus_are_packets}
use Rattle.server_counts.proofs.laws.pdus_are_packets.Goals as goal

pub returns : goal.returns
returns c = pdus_are_packets
