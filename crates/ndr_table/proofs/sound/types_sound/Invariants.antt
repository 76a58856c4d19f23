use Rattle.std.proofs.Common.{◌≡◌, drop, map}
use Rattle.std.specs.List.{list_all}
use Rattle.ndr_value.specs.Forms.{form}
use Rattle.ndr_table.specs.Sound.{is_sound}
use Rattle.ndr_table.proofs.sound.types_sound.Given as goal

abbrev pub invariant-loop-ty : goal.invariant-loop-ty
invariant-loop-ty l = list_all is_sound (map form (drop l.ty-index l.types)) ≡ list_all is_sound (map form l.types)
