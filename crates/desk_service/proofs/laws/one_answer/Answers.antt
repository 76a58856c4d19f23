use Rattle.desk_service.proofs.Once.{one_answer}
use Rattle.desk_service.proofs.laws.one_answer.Goals as goal

pub returns : goal.returns
returns c = one_answer
