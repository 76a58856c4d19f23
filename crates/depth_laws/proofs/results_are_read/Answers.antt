use Rattle.depth_laws.proofs.Nesting.{results_are_read}
use Rattle.depth_laws.proofs.results_are_read.Goals as goal

pub returns : goal.returns
returns c = results_are_read
