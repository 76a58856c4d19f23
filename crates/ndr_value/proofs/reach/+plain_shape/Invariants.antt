use Rattle.ndr_value.proofs.reach.+plain_shape.Given as goal

abbrev pub decreases-plain_shape : goal.decreases-plain_shape
decreases-plain_shape l = l.names
