-- A group's journal as the group keeps it: each connection that joined folded what came before.
use Rattle.std.specs.Prelude.{List, [], ◌∷◌}
use Rattle.handle_model.specs.declared.entry.Home.{Home}
use Rattle.handle_model.specs.declared.entry.Entry.{Entry}
use Rattle.handle_model.specs.declared.entry.Entry.TheVariants.{Join}
use Rattle.handle_model.specs.Bases.{empty_base}
use Rattle.handle_model.specs.Folds.{folded}
use Rattle.handle_model.specs.History.{History, since, with_entry}

abbrev pub kept_with : Entry → History → History
kept_with (Join c) x = with_entry (folded x) (Join c)
kept_with e x = with_entry x e

abbrev pub kept_since : Home → List Entry → History
kept_since home [] = since home empty_base []
kept_since home (e ∷ past) = kept_with e (kept_since home past)

-- of the whole journal, whose base is empty
abbrev pub kept : History → History
kept j = kept_since j.home j.past
