use Rattle.std.proofs.Common.{◌≡◌, drop, map}
use Rattle.ndr_value.specs.Forms.{form}
use Rattle.ndr_table.specs.Tails.{tails_past, tails_of}
use Rattle.ndr_table.proofs.tails.tails_of.Given as goal

abbrev pub invariant-loop-ty : goal.invariant-loop-ty
invariant-loop-ty l = tails_past l.tails (map form (drop l.ty-index l.types)) ≡ tails_of (map form l.types)
