use Rattle.std.proofs.Common.{◌≡◌, drop}
use Rattle.std.specs.List.{flat_map}
use Rattle.idl_rules.specs.Least.{least, lesser}
use Rattle.idl_rules.specs.OutsideProfile.{field_places}
use Rattle.idl_check.proofs.profile.each_place.Given as goal

abbrev pub invariant-loop-field : goal.invariant-loop-field
invariant-loop-field l = lesser l.found (least (flat_map field_places (drop l.field-index l.fields))) ≡ least (flat_map field_places l.fields)
