use Rattle.std.proofs.Common.{◌≡◌, drop}
use Rattle.std.specs.List.{flat_map}
use Rattle.idl_rules.specs.Least.{least, lesser}
use Rattle.idl_rules.specs.SizeName.{attribute_places}
use Rattle.idl_uses.proofs.sizes.field_place.Given as goal

abbrev pub invariant-loop-attribute : goal.invariant-loop-attribute
invariant-loop-attribute l = lesser l.found (least (flat_map (attribute_places l.list l.field) (drop l.attribute-index l.field.attributes))) ≡ least (flat_map (attribute_places l.list l.field) l.field.attributes)
