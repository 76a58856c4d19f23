-- A history that goes on.
use Rattle.std.specs.Prelude.{ℕ, Bool, true, false, List, ◌++◌}
use Rattle.handle_model.specs.declared.entry.Entry.{Entry}
use Rattle.handle_model.specs.History.{History, since}

-- with further entries, the newest first
abbrev pub with_entries : History → List Entry → History
with_entries j newer = since j.home j.base (newer ++ j.past)

-- what stands in the base counts once, beside the entries
abbrev pub once_where : Bool → ℕ
once_where true = 1
once_where false = 0
