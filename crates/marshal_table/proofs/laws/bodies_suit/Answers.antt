use Rattle.marshal_table.proofs.Suiting.{bodies_suited}
use Rattle.marshal_table.proofs.laws.bodies_suit.Goals as goal

pub returns : goal.returns
returns c = bodies_suited
