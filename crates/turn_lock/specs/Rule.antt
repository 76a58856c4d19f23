-- The rule of a turn lock. Its parts are word 0, the turn, word 1, the number of entries that were entered modulo 2 ^ 64, fourteen
-- words that nothing uses, the slot, where the value is at home, and the view of each pass. `first` is what the history began with.
use Rattle.std.specs.Prelude.{◌≡◌, ◌≢◌, ℕ, ◌+◌, ◌%◌, ◌^◌, ◌≤◌, Bool, true, false, List, [], length, slice_index, Option, Some}
use mathlib.Core.Option.{some}
use lib.ListN.{get_elem?}
use Rattle.atomic_table.specs.Table.{State}
use Rattle.turn_lock.specs.declared.views.View.{View}
use Rattle.turn_lock.specs.Histories.{times, total, once_below, StartsWith, Closed, Within}

abbrev pub view : {E : Type 0} → Bool → List E → List ℕ → View E
view turn seen mine = record { holds = turn; front = seen; own = mine; also_seen = [] }

module _ {T E : Type 0} (tells : T → List E → Type 0) (ties : List E → E → ℕ → Type 0) (first : List E) where
  pub record Lawful (s : State (Option T) (View E)) : Type 0 where
    -- the history of which all views speak, and who has the turn
    pub history : List E
    pub holder : ℕ
    pub wide : length s.words ≡ 16
    -- the count word counts what was entered
    pub counted : (n : ℕ) × (length history ≡ length first + n) × (slice_index s.words 1 ≡ n % 2 ^ 64)
    -- a value told the history
    pub told : (x : T) × tells x history
    -- where the turn word is 0, no view has the turn, and the value is at home and tells the history
    pub free : slice_index s.words 0 ≡ 0
        → ((x : T) × (get_elem? s.homes 0 ≡ some (some (Some x))) × tells x history)
        × ((j : ℕ) (v : View E) → get_elem? s.views j ≡ some v → v.holds ≡ false)
    -- else it is 1, and one view alone has the turn, whose front is the whole history
    pub held : slice_index s.words 0 ≢ 0
        → (slice_index s.words 0 ≡ 1)
        × ((v : View E) × (get_elem? s.views holder ≡ some v) × (v.holds ≡ true))
        × ((j : ℕ) (v : View E) → get_elem? s.views j ≡ some v → v.holds ≡ true → (j ≡ holder) × (v.front ≡ history))
    -- each front is a beginning of the history, and the view's own places are in it
    pub fronts : (j : ℕ) (v : View E) → get_elem? s.views j ≡ some v → StartsWith history v.front × Within v.own (length v.front)
    pub also : (j : ℕ) (v : View E) → get_elem? s.views j ≡ some v → StartsWith history v.also_seen
    -- no place is own in two views, nor twice in one
    pub once : (p : ℕ) → total (λ (v : View E). times p v.own) s.views ≤ once_below p (length history)
    -- what is tied to an own entry is own in the same view
    pub tied : (j : ℕ) (v : View E) → get_elem? s.views j ≡ some v → Closed ties history v.own
