use Rattle.std.proofs.Common.{◌≡◌, drop}
use Rattle.std.specs.List.{flat_map}
use Rattle.idl_rules.specs.Least.{least, lesser}
use Rattle.idl_rules.specs.OutsideProfile.{declared_places}
use Rattle.idl_check.proofs.profile.field_place.Given as goal

abbrev pub invariant-loop-declared : goal.invariant-loop-declared
invariant-loop-declared l = lesser l.found (least (flat_map (declared_places l.field) (drop l.declared-index l.field.declared))) ≡ least (flat_map (declared_places l.field) l.field.declared)
