-- What clauses say of a pass.
use Rattle.std.specs.Prelude.{◌≡◌, ℕ, true, false, List, [], ◌∷◌, Option, None}
use Rattle.atomic_table.specs.Seated.{TableId}
use Rattle.atomic_table.specs.declared.shared.Seat.{Seat}
use Rattle.turn_lock.specs.declared.views.View.{View}

module _ {T E : Type 0} where
  -- the history as far as it was seen
  abbrev pub front : Seat (Option T) (View E) → List E
  front p = p.me.0.front

  -- the places of its own entries
  abbrev pub own : Seat (Option T) (View E) → List ℕ
  own p = p.me.0.own

  -- a pass of that lock, without the turn
  abbrev pub IsPassOf : TableId → Seat (Option T) (View E) → Type 0
  IsPassOf lock p = (p.table_id ≡ lock) × (p.me.1 ≡ []) × (p.me.0.holds ≡ false)

  -- a pass of that lock, with the turn. The slot that it took is empty, since its holder has the value.
  abbrev pub HasTurn : TableId → Seat (Option T) (View E) → Type 0
  HasTurn lock p = (p.table_id ≡ lock) × (p.me.1 ≡ (0, None) ∷ []) × (p.me.0.holds ≡ true)
