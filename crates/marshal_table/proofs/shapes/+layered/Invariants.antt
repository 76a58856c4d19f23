use Rattle.std.proofs.Common.{length}
use Rattle.marshal_table.proofs.shapes.+layered.Given as goal

abbrev pub decreases-layered : goal.decreases-layered
decreases-layered l = length l.layers.now
