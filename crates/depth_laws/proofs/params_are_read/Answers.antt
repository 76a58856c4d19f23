use Rattle.depth_laws.proofs.Nesting.{params_are_read}
use Rattle.depth_laws.proofs.params_are_read.Goals as goal

pub returns : goal.returns
returns c = params_are_read
