use Rattle.handle_model.proofs.Least.{goes_on}
use Rattle.handle_model.proofs.waiting.least_goes_on.Goals as goal

pub returns : goal.returns
returns c = goes_on
