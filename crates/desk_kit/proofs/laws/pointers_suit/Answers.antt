use Rattle.desk_kit.proofs.Parts.{pointers_suit}
use Rattle.desk_kit.proofs.laws.pointers_suit.Goals as goal

pub returns : goal.returns
returns c = λ types call room body s items n p q at there each. pointers_suit types call room body s items n p q at there each
