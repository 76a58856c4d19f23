use Rattle.epm_manager.proofs.Owed.{steps_owe}
use Rattle.epm_manager.proofs.laws.steps_owe.Goals as goal

pub returns : goal.returns
returns c = λ s call whole lt request. steps_owe s call whole lt request
