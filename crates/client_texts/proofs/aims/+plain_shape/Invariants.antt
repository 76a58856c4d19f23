use Rattle.client_texts.proofs.aims.+plain_shape.Given as goal

abbrev pub decreases-plain_shape : goal.decreases-plain_shape
decreases-plain_shape l = l.names
