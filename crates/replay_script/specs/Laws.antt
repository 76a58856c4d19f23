-- How counts go on.
use Rattle.std.specs.Prelude.{◌≡◌, ℕ, ◌<◌, List, [], ◌∷◌, ◌++◌, length, get_or, slice_set}
use Rattle.handle_model.specs.declared.entry.Entry.{Entry}
use Rattle.handle_model.specs.declared.entry.Entry.TheVariants.{Join, Orphan, Leave}
use Rattle.replay_script.specs.declared.counts.Counts.{Counts}
use Rattle.replay_script.specs.Counting.{counts_of, with_entry, with_group, TellsJournals, Adds, AddsGroup}

-- the journals, with an entry more in one of them
abbrev pub and_entry : List (List Entry) → ℕ → Entry → List (List Entry)
and_entry pasts i e = slice_set pasts i (e ∷ get_or pasts i [])

abbrev pub EntryCounts : Type 0
EntryCounts = (pasts : List (List Entry)) (i : ℕ) (e : Entry) → i < length pasts → counts_of (and_entry pasts i e) ≡ with_entry e (counts_of pasts)

-- a further journal without entries
abbrev pub GroupCounts : Type 0
GroupCounts = (pasts : List (List Entry)) → counts_of (pasts ++ [] ∷ []) ≡ with_group (counts_of pasts)

-- Entries of connections, and an orphaning, count nothing.
abbrev pub QuietCount : Type 0
QuietCount = (x : Counts) (n : ℕ) → (with_entry (Join n) x ≡ x) × (with_entry (Leave n) x ≡ x) × (with_entry (Orphan n) x ≡ x)

-- What shows the counts does, as entries and journals are added.
pub record TellsMore : Type 0 where
  pub entry : (pasts : List (List Entry)) (i : ℕ) (e : Entry) (x y : Counts) → i < length pasts → TellsJournals x pasts → Adds e x y → TellsJournals y (and_entry pasts i e)
  pub group : (pasts : List (List Entry)) (x y : Counts) → TellsJournals x pasts → AddsGroup x y → TellsJournals y (pasts ++ [] ∷ [])
