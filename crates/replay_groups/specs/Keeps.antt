-- The groups of a replay, and the whole journals that they keep.
use Rattle.std.specs.Prelude.{◌≡◌, ℕ, ◌+◌, ◌-◌, ◌^◌, ◌<◌, ◌≤◌, false, suc, Result, Ok, Err, List, [], ◌∷◌, ◌++◌, ◌⊎◌, length, filter, get_or, slice_set, slice_index_or, ⊤}
use Rattle.std.specs.List.{list_any}
use Rattle.handle_model.specs.declared.entry.Home.{Home}
use Rattle.handle_model.specs.declared.entry.Entry.{Entry}
use Rattle.handle_model.specs.declared.entry.Entry.TheVariants.{Join, Shut}
use Rattle.handle_model.specs.Bases.{empty_base}
use Rattle.handle_model.specs.Entries.{is_shut}
use Rattle.handle_model.specs.History.{History, IsSound, since}
use Rattle.group_core.specs.declared.answer.Rest.{Rest}
use Rattle.group_core.specs.declared.answer.Rest.TheVariants as rest
use Rattle.group_core.specs.Conns.{Joins}
use Rattle.replay_script.specs.declared.counts.Counts.{Counts}
use Rattle.replay_script.specs.Counting.{TellsJournals, Adds, AddsGroup}
use Rattle.replay_world.specs.Groups.{most_groups}
use Rattle.replay_world.specs.Worlds.{goes_on}
use Rattle.replay_world.specs.Replays.{journals_from}
use Rattle.replay_groups.specs.declared.opening.OpenRefusal.{OpenRefusal}
use Rattle.replay_groups.specs.declared.opening.OpenRefusal.TheVariants.{Full, Memory}

-- the server's boot word, the journals as the groups keep them, by id from 1, how many groups are open, and how many entries of
-- each kind their whole journals have
pub record GroupsView : Type 0 where
  pub boot : ℕ
  pub groups : List History
  pub open_groups : ℕ
  pub counts : Counts

abbrev pub home_in : ℕ → ℕ → Home
home_in boot g = record { boot = boot; group = g }

-- the whole journal of a group
abbrev pub whole_of : ℕ → ℕ → List Entry → History
whole_of boot g past = since (home_in boot g) empty_base past

abbrev pub past_at : List (List Entry) → ℕ → List Entry
past_at pasts g = get_or pasts (g - 1) []

-- the whole journals are legal and settled, by their ids
abbrev pub AllSound : ℕ → ℕ → List (List Entry) → Type 0
AllSound boot id [] = ⊤
AllSound boot id (past ∷ more) = IsSound (whole_of boot id past) × AllSound boot (suc id) more

-- The groups keep the journals of these entries.
pub record Keeps (x : GroupsView) (pasts : List (List Entry)) : Type 0 where
  pub journals : x.groups ≡ journals_from x.boot 1 pasts
  pub sound : AllSound x.boot 1 pasts
  pub open_is : x.open_groups ≡ length (filter goes_on pasts)
  pub counted : TellsJournals x.counts pasts

-- the group of that id was opened
abbrev pub Has : GroupsView → ℕ → Type 0
Has x g = (1 ≤ g) × (g - 1 < length x.groups)

abbrev pub no_journal : History
no_journal = whole_of 0 0 []

abbrev pub group_at : GroupsView → ℕ → History
group_at x g = slice_index_or x.groups (g - 1) no_journal

-- P of the whole journal of the group, where the groups keep these journals
abbrev pub At : List (List Entry) → GroupsView → ℕ → (History → Type 0) → Type 0
At pasts x g P = P (whole_of x.boot g (past_at pasts g))

-- what a caller knows of it by some journals that the groups keep, and what is so by any
abbrev pub Known : GroupsView → ℕ → (History → Type 0) → Type 0
Known x g P = (pasts : List (List Entry)) × Keeps x pasts × At pasts x g P

abbrev pub Told : GroupsView → ℕ → (History → Type 0) → Type 0
Told x g P = (pasts : List (List Entry)) → Keeps x pasts → At pasts x g P

-- the group has not ended
abbrev pub GoesOn : GroupsView → ℕ → Type 0
GoesOn x g = Known x g (λ j. list_any is_shut j.past ≡ false)

-- The group answers by its whole journal, which then goes on so; and no other group changes.
abbrev pub Answers : GroupsView → ℕ → (History → History → Type 0) → GroupsView → Type 0
Answers x g Says y =
    (y.boot ≡ x.boot)
    × ((pasts : List (List Entry)) → Keeps x pasts
    → (new : List Entry) × Says (whole_of x.boot g (past_at pasts g)) (whole_of x.boot g new) × Keeps y (slice_set pasts (g - 1) new))

-- the group of that id alone changed, and keeps this; so many are open then
abbrev pub Touched : GroupsView → ℕ → History → ℕ → GroupsView → Type 0
Touched x g j n y = (y ≡ record x { groups = slice_set x.groups (g - 1) j; open_groups = n; counts = y.counts }) × IsSound j

-- ---- what is counted

-- what shows the counts of journals does so once one of them went on so
abbrev pub Counted : (History → History → Type 0) → Counts → Counts → Type 0
Counted Says x y =
    (home : Home) (pasts : List (List Entry)) (i : ℕ) (new : List Entry) → i < length pasts
    → Says (since home empty_base (get_or pasts i [])) (since home empty_base new) → TellsJournals x pasts → TellsJournals y (slice_set pasts i new)

-- the group of that id alone goes on, so; as many are open then, and it is counted
abbrev pub TouchedSo : (History → History → Type 0) → GroupsView → ℕ → GroupsView → Type 0
TouchedSo Says x g y = (j : History) × Touched x g j x.open_groups y × Says (group_at x g) j × Counted Says x.counts y.counts

-- how many handles the newest entry lists to be run down
abbrev pub newest_due : List Entry → ℕ
newest_due (Shut items ∷ past) = length items
newest_due _ = 0

-- where a group ends its Shut is counted
abbrev pub AddsRest : Rest → Counts → Counts → Type 0
AddsRest rest.Stays x y = y ≡ x
AddsRest (rest.Shut items) x y = Adds (Shut items) x y

-- behind an entry that was counted
abbrev pub AddsSettled : Entry → Rest → Counts → Counts → Type 0
AddsSettled e r x y = (c : Counts) × Adds e x c × AddsRest r c y

-- a group is open no longer where it has ended
abbrev pub left_open : ℕ → Rest → ℕ
left_open n rest.Stays = n
left_open n (rest.Shut items) = n - 1

-- the same by an entry behind which it may end
abbrev pub TouchedSettled : (History → History → Type 0) → Entry → Rest → GroupsView → ℕ → GroupsView → Type 0
TouchedSettled Says e r x g y = (j : History) × Touched x g j (left_open x.open_groups r) y × Says (group_at x g) j × AddsSettled e r x.counts y.counts

-- ---- a group is opened

-- a new group, which its first connection joined
pub record IsFirst (home : Home) (j : History) : Type 0 where
  pub conn : ℕ
  pub joins : Joins (since home empty_base []) (Ok conn) j
  pub sound : IsSound j

-- the next id is opened
pub record OpensAs (x : GroupsView) (id : ℕ) (y : GroupsView) : Type 0 where
  pub room : x.open_groups < most_groups
  pub id_is : id ≡ length x.groups + 1
  pub small : id < 2 ^ 32
  pub first : History
  pub is_first : IsFirst (home_in x.boot id) first
  pub is : y ≡ record x { groups = x.groups ++ first ∷ []; open_groups = x.open_groups + 1; counts = y.counts }
  pub counted : AddsGroup x.counts y.counts

abbrev pub OpensAt : GroupsView → Result ℕ OpenRefusal → GroupsView → Type 0
OpensAt x (Ok id) y = OpensAs x id y
OpensAt x (Err Full) y = ((most_groups ≤ x.open_groups) ⊎ (2 ^ 32 ≤ length x.groups + 1)) × (y ≡ x)
OpensAt x (Err Memory) y = y ≡ x

-- so many groups are open that none more may be, or no id is left
abbrev pub IsFull : List (List Entry) → Type 0
IsFull pasts = (most_groups ≤ length (filter goes_on pasts)) ⊎ (2 ^ 32 ≤ length pasts + 1)

-- The group of the next id is opened, and its first connection has joined it; or no further group may be; or memory ran out.
abbrev pub Opens : GroupsView → Result ℕ OpenRefusal → GroupsView → Type 0
Opens x (Ok id) y =
    (y.boot ≡ x.boot)
    × ((pasts : List (List Entry)) → Keeps x pasts → (IsFull pasts → ⊥) × (id ≡ length pasts + 1) × Keeps y (pasts ++ (Join 1 ∷ []) ∷ []))
Opens x (Err Full) y = (y ≡ x) × ((pasts : List (List Entry)) → Keeps x pasts → IsFull pasts)
Opens x (Err Memory) y = y ≡ x
