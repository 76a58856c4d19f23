use Rattle.presentation.proofs.Backed.{backed}
use Rattle.presentation.proofs.laws.serves_what_it_accepts.Goals as goal

pub returns : goal.returns
returns c ids elements context k h = backed ids elements context k h
