use Rattle.pdu_stream.proofs.Given.{push_goes_on}
use Rattle.pdu_stream.proofs.laws.push_goes_on.Goals as goal

pub returns : goal.returns
returns c = push_goes_on
