-- What was said last in a journal.
use Rattle.std.specs.Prelude.{Option, Some, None, List, [], ◌∷◌}
use Rattle.handle_model.specs.declared.entry.Said.{Said}
use Rattle.handle_model.specs.declared.entry.Entry.{Entry}
use Rattle.handle_model.specs.declared.entry.Entry.TheVariants.{End, Shut}

-- what the End said that came last, with nothing but a Shut behind it
abbrev pub said_by : List Entry → Option Said
said_by (End k results said ∷ past) = Some said
said_by _ = None

abbrev pub said_last : List Entry → Option Said
said_last (Shut items ∷ past) = said_by past
said_last past = said_by past
