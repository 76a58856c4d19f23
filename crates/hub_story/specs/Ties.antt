-- Which earlier item each item of a shard's history follows: only the pass that entered the one may enter the other.
use Rattle.std.specs.Prelude.{◌≡◌, ℕ, Option, Some, None, List}
use mathlib.Core.Option.{some}
use lib.ListN.{get_elem?}
use Rattle.handle_model.specs.declared.entry.Asked.{Asked}
use Rattle.handle_model.specs.declared.entry.DueItem.{DueItem}
use Rattle.handle_model.specs.declared.entry.Entry.{Entry}
use Rattle.handle_model.specs.declared.entry.Entry.TheVariants.{Join, Accept, Take, Deny, Cancel, Orphan, End, Leave, Shut}
use Rattle.handle_model.specs.Bases.{empty_base}
use Rattle.handle_model.specs.Journal.{asked_since}
use Rattle.hub_story.specs.declared.item.Mark.TheVariants.{Opened, Missed, Retired}
use Rattle.hub_story.specs.declared.item.Item.{Item}
use Rattle.hub_story.specs.declared.item.Item.TheVariants.{Begun, Listed, Of}
use Rattle.hub_story.specs.Histories.{past_in}

-- the Join of the connection of what was asked
abbrev pub IsJoinOf : ℕ → Option Asked → Item → Type 0
IsJoinOf g None a = ⊥
IsJoinOf g (Some asked) a = a ≡ Of g (Join asked.conn)

-- a Take of the call, a Shut of the group
abbrev pub IsTakeOf : ℕ → ℕ → Item → Type 0
IsTakeOf g k a = (cookies : List (Option ℕ)) × (a ≡ Of g (Take k cookies))

abbrev pub IsShutOf : ℕ → Item → Type 0
IsShutOf g a = (items : List DueItem) × (a ≡ Of g (Shut items))

-- An entry of a connection or of its calls follows the connection's Join, an End its call's Take. `past` is the journal before it.
abbrev pub EntryFollows : ℕ → List Entry → Entry → Item → Type 0
EntryFollows g past (Join c) a = ⊥
EntryFollows g past (Accept k asked) a = a ≡ Of g (Join asked.conn)
EntryFollows g past (Take k cookies) a = IsJoinOf g (asked_since empty_base past k) a
EntryFollows g past (Deny k slot) a = IsJoinOf g (asked_since empty_base past k) a
EntryFollows g past (Cancel k) a = IsJoinOf g (asked_since empty_base past k) a
EntryFollows g past (Orphan k) a = IsJoinOf g (asked_since empty_base past k) a
EntryFollows g past (End k results said) a = IsTakeOf g k a
EntryFollows g past (Leave c) a = a ≡ Of g (Join c)
EntryFollows g past (Shut items) a = ⊥

-- and a Retired its group's Shut
abbrev pub Follows : List Item → Item → Item → Type 0
Follows before (Of g e) a = EntryFollows g (past_in g before) e a
Follows before (Listed (Retired g)) a = IsShutOf g a
Follows before (Begun boot s) a = ⊥
Follows before (Listed (Opened g)) a = ⊥
Follows before (Listed (Missed g)) a = ⊥

abbrev pub ties : List Item → Item → ℕ → Type 0
ties before e p = (a : Item) × (get_elem? before p ≡ some a) × Follows before e a
