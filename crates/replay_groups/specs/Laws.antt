-- Which groups there are.
use Rattle.std.specs.Prelude.{ℕ, ◌-◌, ◌≤◌, ◌<◌, List, length}
use Rattle.handle_model.specs.declared.entry.Entry.{Entry}
use Rattle.replay_groups.specs.Keeps.{GroupsView, Keeps, Has}

-- the group of an id was opened where there are so many journals
abbrev pub HasWhere : Type 0
HasWhere = (x : GroupsView) (pasts : List (List Entry)) (g : ℕ) → Keeps x pasts → 1 ≤ g → g - 1 < length pasts → Has x g
