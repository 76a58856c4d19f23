use Rattle.server_counts.proofs.Pieces.{pdus_go_on}
use Rattle.server_counts.proofs.laws.pdus_go_on.Goals as goal

pub returns : goal.returns
returns c = pdus_go_on
