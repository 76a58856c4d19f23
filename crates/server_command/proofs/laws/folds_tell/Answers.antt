use Rattle.server_command.proofs.Folding.{folds_tell}
use Rattle.server_command.proofs.laws.folds_tell.Goals as goal

pub returns : goal.returns
returns c = folds_tell
