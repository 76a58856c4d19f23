-- What each atomic step tells the pass that takes it.
-- `me` is what the pass has before the step, and `now` afterwards: its view, and the slots that it took the values of.
use Rattle.std.specs.Prelude.{◌≡◌, ◌≢◌, ℕ, ◌<◌, ◌≤◌, true, false, List, [], ◌∷◌, ◌++◌, length, Option, Some}
use Rattle.atomic_table.specs.Table.{Me, Step, rest}
use Rattle.turn_lock.specs.declared.views.View.{View}
use Rattle.turn_lock.specs.Histories.{times, places, StartsWith, longer, shorter, Tied, Closed, Within, AtMostOnce}
use Rattle.turn_lock.specs.Rule.{view}

-- two views become one, which has both own lists
abbrev pub joined : {E : Type 0} → View E → View E → View E
joined v w = record { holds = false; front = longer v.front w.front; own = v.own ++ w.own; also_seen = shorter v.front w.front }

module _ {T E : Type 0} where
  -- the turn goes, and the value that was taken out with it
  abbrev pub gave_turn : Step (Option T) → Me (Option T) (View E) → ℕ → Me (Option T) (View E) → Type 0
  gave_turn st me r now = now ≡ (view false me.0.front me.0.own, rest me.1)

module _ {T E : Type 0} (tells : T → List E → Type 0) (ties : List E → E → ℕ → Type 0) where
  -- the front is then the whole history, which a value told, and the own entries stand in it, each once, with what is tied to them
  abbrev pub saw_all : Step (Option T) → Me (Option T) (View E) → ℕ → Me (Option T) (View E) → Type 0
  saw_all st me r now = (whole : List E) × (now ≡ (view false whole me.0.own, me.1)) × StartsWith whole me.0.front × StartsWith whole me.0.also_seen
      × Within me.0.own (length whole) × Closed ties whole me.0.own × AtMostOnce me.0.own × ((x : T) × tells x whole)

module _ {T E : Type 0} (tells : T → List E → Type 0) (ties : List E → E → ℕ → Type 0) where
  abbrev M : Type 0
  M = Me (Option T) (View E)

  -- the pass has the turn, a value that tells its front, and the own entries that it had
  abbrev pub Gets : M → M → Type 0
  Gets me now = (now ≡ (view true now.0.front me.0.own, now.1)) × ((x : T) × (now.1 ≡ (0, Some x) ∷ me.1) × tells x now.0.front)
      × StartsWith now.0.front me.0.front × Within me.0.own (length me.0.front) × Closed ties now.0.front me.0.own × AtMostOnce me.0.own

  -- the turn word was r: the pass got the turn where that was 0
  abbrev pub got_turn : Step (Option T) → M → ℕ → M → Type 0
  got_turn st me r now = (r ≡ 0 → Gets me now) × (r ≢ 0 → now ≡ me)

  -- x tells n entries behind the front, and each of them is tied to own entries alone
  abbrev pub MayAdd : View E → T → ℕ → Type 0
  MayAdd v x n = (more : List E) × (length more ≡ n) × tells x (v.front ++ more)
      × ((q p : ℕ) → length v.front ≤ q → Tied ties (v.front ++ more) q p → 0 < times p (v.own ++ places (length v.front) n))

  -- x tells n entries behind the front, and they are in the new view's front and among its own
  abbrev pub Adds : View E → T → ℕ → View E → Type 0
  Adds v x n w = (more : List E) × (length more ≡ n) × tells x (v.front ++ more) × (w ≡ view true (v.front ++ more) (v.own ++ places (length v.front) n))

  -- the count word grew by the step's number
  abbrev pub committed : Step (Option T) → M → ℕ → M → Type 0
  committed st me r now = (now.1 ≡ me.1) × ((x : T) → me.1 ≡ (0, Some x) ∷ [] → Adds me.0 x st.first now.0)
