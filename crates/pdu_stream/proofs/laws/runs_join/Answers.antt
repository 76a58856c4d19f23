use Rattle.pdu_stream.proofs.RunLaws.{runs_join, whole_taken}
use Rattle.pdu_stream.proofs.laws.runs_join.Goals as goal

pub returns : goal.returns
returns c = record { joins = runs_join; taken = whole_taken }
