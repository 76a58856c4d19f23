-- Rule 7, Recursion: a type holds itself without a pointer between. Only a structure's own tag names a type that isn't yet declared
-- as a whole, so only a structure can hold itself.
use Rattle.std.specs.Prelude.{ℕ, List, []}
use Rattle.idl_outline.specs.declared.event.Event.{Event}
use Rattle.idl_outline.specs.declared.event.Event.TheVariants as events
use Rattle.idl_rules.specs.Places.{at_if}

abbrev pub recursion : List Event → Event → List ℕ
recursion past (events.StructBegins i itself number) = at_if itself i.at
recursion past _ = []
