use Rattle.desk_kit.proofs.Suits.{handle_and_status_is}
use Rattle.desk_kit.proofs.laws.handle_and_status_is_of.Goals as goal

pub returns : goal.returns
returns c = λ types op asked kind status e lt. handle_and_status_is types op asked kind status e lt
