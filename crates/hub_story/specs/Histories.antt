-- The history of a shard: its items, the oldest first. The journal of a group is what it says of that group, whole.
use Rattle.std.specs.Prelude.{◌≡◌, ◌≤◌, ℕ, true, false, ◌==◌, Option, Some, None, if◌then◌else◌, List, [], ◌∷◌, length, map, reverse, take}
use Rattle.std.specs.List.{list_any, filter_map}
use mathlib.Core.Option.{some}
use lib.ListN.{get_elem?}
use Rattle.handle_model.specs.declared.entry.Home.{Home}
use Rattle.handle_model.specs.declared.entry.Entry.{Entry}
use Rattle.handle_model.specs.Bases.{empty_base}
use Rattle.handle_model.specs.Journal.{is_shut, is_join}
use Rattle.handle_model.specs.History.{History, IsSound, since}
use Rattle.hub_story.specs.declared.item.Mark.{Mark}
use Rattle.hub_story.specs.declared.item.Mark.TheVariants.{Retired}
use Rattle.hub_story.specs.declared.item.Item.{Item}
use Rattle.hub_story.specs.declared.item.Item.TheVariants.{Begun, Listed, Of}
use Rattle.hub_story.specs.Directories.{opened_ids, open_ids, is_opened_id, first_ids}

-- OF ONE ITEM

abbrev pub mark_of : Item → Option Mark
mark_of (Listed m) = Some m
mark_of (Of g e) = None
mark_of (Begun boot s) = None

abbrev pub entry_of : ℕ → Item → Option Entry
entry_of g (Listed m) = None
entry_of g (Begun boot s) = None
entry_of g (Of h e) = if h == g then Some e else None

-- OF A HISTORY

-- the marks of its directory, the newest first
abbrev pub marks_in : List Item → List Mark
marks_in log = reverse (filter_map mark_of log)

-- the entries of a group, the newest first
abbrev pub past_in : ℕ → List Item → List Entry
past_in g log = reverse (filter_map (entry_of g) log)

-- whose journal it is, at a server with that boot word
abbrev pub home_of : ℕ → ℕ → Home
home_of boot g = record { boot = boot; group = g }

-- the group's journal, from its first entry on
abbrev pub journal_in : ℕ → ℕ → List Item → History
journal_in boot g log = since (home_of boot g) empty_base (past_in g log)

-- the boot word with which it begins
abbrev pub boot_in : List Item → ℕ
boot_in (Begun boot s ∷ log) = boot
boot_in _ = 0

-- the items that a group's entries are, the newest of them first
abbrev pub items_of : ℕ → List Entry → List Item
items_of g es = map (Of g) (reverse es)

-- WHAT HOLDS OF EACH HISTORY of the shard s

-- it begins with whose it is
abbrev pub Begins : ℕ → ℕ → List Item → Type 0
Begins boot s log = (rest : List Item) × (log ≡ Begun boot s ∷ rest)

pub record IsStory (boot s : ℕ) (log : List Item) : Type 0 where
  pub begins : Begins boot s log
  -- each journal is legal, and no Shut is due
  pub sound : (g : ℕ) → IsSound (journal_in boot g log)
  -- the ids that were opened are the shard's first
  pub ids : opened_ids (marks_in log) ≡ first_ids s (length (opened_ids (marks_in log)))
  -- at most 64 are open
  pub few : length (open_ids (marks_in log)) ≤ 64
  -- no other group has an entry
  pub unopened : (g : ℕ) → is_opened_id (marks_in log) g ≡ false → past_in g log ≡ []
  -- a connection joined each group that was opened
  pub joined : (g : ℕ) → is_opened_id (marks_in log) g ≡ true → list_any is_join (past_in g log) ≡ true
  -- a group was retired behind its Shut
  pub ended : (q g : ℕ) → get_elem? log q ≡ some (Listed (Retired g)) → list_any is_shut (past_in g (take q log)) ≡ true
