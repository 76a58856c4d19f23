use Rattle.desk_kit.proofs.Parts.{syntax_suits}
use Rattle.desk_kit.proofs.laws.syntax_suits.Goals as goal

pub returns : goal.returns
returns c = λ types call room body n s p q uuid at is. syntax_suits types call room body n s p q uuid at is
