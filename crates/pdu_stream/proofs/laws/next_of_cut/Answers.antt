use Rattle.pdu_stream.proofs.Given.{tells, goes_on}
use Rattle.pdu_stream.proofs.laws.next_of_cut.Goals as goal

pub returns : goal.returns
returns c = record {
  tells = λ stream given cut is_cut old new answer has gives. tells stream given old new answer cut has gives is_cut;
  goes_on = goes_on;
}
