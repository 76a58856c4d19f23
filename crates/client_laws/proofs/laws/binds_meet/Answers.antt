use Rattle.client_laws.proofs.Binding.{binds_meet}
use Rattle.client_laws.proofs.laws.binds_meet.Goals as goal

pub returns : goal.returns
returns c = binds_meet
