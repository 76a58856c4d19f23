use Rattle.depth_laws.proofs.Nesting.{shapes_are_read}
use Rattle.depth_laws.proofs.shapes_are_read.Goals as goal

pub returns : goal.returns
returns c = shapes_are_read
