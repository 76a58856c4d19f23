use Rattle.ndr_write.proofs.bytes.+flat_byte.Given as goal

abbrev pub decreases-flat_byte : goal.decreases-flat_byte
decreases-flat_byte l = l.fuel
