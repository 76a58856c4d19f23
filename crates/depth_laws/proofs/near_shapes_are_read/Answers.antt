use Rattle.depth_laws.proofs.Through.{near_shapes_are_read}
use Rattle.depth_laws.proofs.near_shapes_are_read.Goals as goal

pub returns : goal.returns
returns c = near_shapes_are_read
