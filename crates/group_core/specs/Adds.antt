-- What the calls of a group add to its history.
use Rattle.std.specs.Prelude.{◌≡◌, List, ◌++◌}
use Rattle.handle_model.specs.declared.entry.Entry.{Entry}
use Rattle.handle_model.specs.History.{History, since}

-- these entries come, the newest first, and nothing else changes
abbrev pub Adds : History → List Entry → History → Type 0
Adds old entries new = new ≡ since old.home old.base (entries ++ old.past)
