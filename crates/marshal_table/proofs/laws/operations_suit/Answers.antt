use Rattle.marshal_table.proofs.Suiting.{operations_suited}
use Rattle.marshal_table.proofs.laws.operations_suit.Goals as goal

pub returns : goal.returns
returns c = operations_suited
