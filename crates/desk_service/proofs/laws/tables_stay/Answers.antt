use Rattle.desk_service.proofs.Once.{tables_stay}
use Rattle.desk_service.proofs.laws.tables_stay.Goals as goal

pub returns : goal.returns
returns c = tables_stay
