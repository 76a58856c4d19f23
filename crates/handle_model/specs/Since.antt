-- A group's history: a base, and the entries since then, the newest first, so that each entry stands on
-- those that came before it.
use Rattle.std.specs.Prelude.{ℕ, ◌+◌, suc, Bool, ◌||◌, if◌then◌else◌, List, [], ◌∷◌, length, reverse}
use Rattle.handle_model.specs.declared.entry.Home.{Home}
use Rattle.handle_model.specs.declared.entry.Entry.{Entry}
use Rattle.handle_model.specs.declared.base.Base.{Base}

-- whose history it is, what it goes on from, and the entries since then
pub record History : Type 0 where
  pub home : Home
  pub base : Base
  pub past : List Entry

abbrev pub since : Home → Base → List Entry → History
since home base past = record { home = home; base = base; past = past }

-- one entry more
abbrev pub with_entry : History → Entry → History
with_entry j e = since j.home j.base (e ∷ j.past)

-- the history of entries that come oldest first
abbrev pub history_of : Home → Base → List Entry → History
history_of home base entries = since home base (reverse entries)

-- how many entries there ever were
abbrev pub size : History → ℕ
size j = j.base.count + length j.past

-- so from the base on, or by an entry
abbrev pub any_since : Bool → (Entry → Bool) → List Entry → Bool
any_since start p [] = start
any_since start p (e ∷ past) = p e || any_since start p past

-- the base's number, and one for each such entry
abbrev pub count_since : ℕ → (Entry → Bool) → List Entry → ℕ
count_since start p [] = start
count_since start p (e ∷ past) = if p e then suc (count_since start p past) else count_since start p past
