use Rattle.desk_kit.proofs.Suits.{number_and_status_is}
use Rattle.desk_kit.proofs.laws.number_and_status_is_of.Goals as goal

pub returns : goal.returns
returns c = λ types op asked number status e wide lt. number_and_status_is types op asked number status e wide lt
