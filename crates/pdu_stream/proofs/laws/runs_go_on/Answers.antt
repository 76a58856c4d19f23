use Rattle.pdu_stream.proofs.RunLaws.{runs_go_on}
use Rattle.pdu_stream.proofs.laws.runs_go_on.Goals as goal

pub returns : goal.returns
returns c = runs_go_on
