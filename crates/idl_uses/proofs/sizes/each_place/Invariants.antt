use Rattle.std.proofs.Common.{◌≡◌, drop}
use Rattle.std.specs.List.{flat_map}
use Rattle.idl_rules.specs.Least.{least, lesser}
use Rattle.idl_rules.specs.SizeName.{listed_places}
use Rattle.idl_uses.proofs.sizes.each_place.Given as goal

abbrev pub invariant-loop-field : goal.invariant-loop-field
invariant-loop-field l = lesser l.found (least (flat_map (listed_places l.list) (drop l.field-index l.list))) ≡ least (flat_map (listed_places l.list) l.list)
