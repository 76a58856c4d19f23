use Rattle.desk_kit.proofs.Parts.{uuid_suits}
use Rattle.desk_kit.proofs.laws.uuid_suits.Goals as goal

pub returns : goal.returns
returns c = λ types call room body id p q at is. uuid_suits types call room body id p q at is
