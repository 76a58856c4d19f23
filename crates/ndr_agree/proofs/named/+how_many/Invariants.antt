use Rattle.ndr_agree.proofs.named.+how_many.Given as goal

abbrev pub decreases-how_many : goal.decreases-how_many
decreases-how_many l = l.index
