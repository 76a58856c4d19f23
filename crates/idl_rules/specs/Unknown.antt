-- Rule 1, Unknown: a name used as a type, a constant or a tag isn't declared before, as one of that kind. A structure's own tag may
-- be used in its body behind a pointer.
use Rattle.std.specs.Prelude.{ℕ, List, [], is_none}
use Rattle.idl_outline.specs.declared.event.Event.{Event}
use Rattle.idl_outline.specs.declared.event.Event.TheVariants as events
use Rattle.idl_outline.specs.Names.{type_named, constant_named, tag_named}
use Rattle.idl_rules.specs.Places.{at_if}

abbrev pub unknown : List Event → Event → List ℕ
unknown past (events.TypeUsed i) = at_if (is_none (type_named i.text past)) i.at
unknown past (events.ConstantUsed i) = at_if (is_none (constant_named i.text past)) i.at
unknown past (events.TagUsed i pointed) = at_if (is_none (tag_named pointed i.text past)) i.at
unknown past _ = []
