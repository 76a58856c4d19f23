-- Questions on the connections of a program, and what is known of a call that was started.
use Rattle.std.specs.Prelude.{◌≡◌, ℕ, ◌≤◌, ◌==◌, ◌&&◌, nat_lt, Bool, true, false, Option, Some, None, List, [], ◌∷◌, slice_get}
use Rattle.world_laws.specs.Moves.{Fate}
use Rattle.world_laws.specs.Ends.{Row, Line, number_at}
use Rattle.world_laws.specs.Worlds.{World, Started}
use Rattle.world_ends.specs.declared.serving.Waiting.{Waiting}
use Rattle.world_ends.specs.declared.serving.Waiting.TheVariants as waits
use Rattle.call_world.specs.declared.line.Line.{Line as Wire}

abbrev pub is_named : ℕ → Wire → Bool
is_named c t = t.name == c

abbrev pub stands_as : ℕ → Wire → Bool
stands_as c t = (t.name == c) && t.standing

-- what waits is the answer of that call
abbrev pub awaits : ℕ → Waiting → Bool
awaits k (waits.Call m) = m == k
awaits k _ = false

abbrev pub is_awaiting : ℕ → Wire → Bool
is_awaiting k t = t.standing && awaits k t.serving.waiting

-- it stands, and has a lesser name than the one that was found, if one was
abbrev pub is_lesser : Option (ℕ × ℕ) → Wire → Bool
is_lesser None t = t.standing
is_lesser (Some (name, i)) t = t.standing && nat_lt t.name name

-- the place of the connection of the least name that stands
abbrev pub FindsLeast : List Wire → Option ℕ → Type 0
FindsLeast ts (Some i) =
    (t : Wire) × (slice_get ts i ≡ Some t) × (t.standing ≡ true)
    × ((j : ℕ) (s : Wire) → slice_get ts j ≡ Some s → s.standing ≡ true → t.name ≤ s.name)
FindsLeast ts None = (j : ℕ) (s : Wire) → slice_get ts j ≡ Some s → s.standing ≡ true → ⊥

-- the group for which the next connection asks
abbrev pub wanted : List Wire → ℕ
wanted [] = 0
wanted (t ∷ ts) = 1

-- what is known of a call that was started
pub record IsFate (w : World) (at : ℕ) (f : Fate) (conn : ℕ) (call : Option ℕ) : Type 0 where
  pub started : Started
  pub is_started : slice_get w.starts at ≡ Some started
  pub line : Line
  pub is_line : slice_get w.lines started.line ≡ Some line
  pub row : Row
  pub is_row : slice_get line.caller.rows started.place ≡ Some row
  pub fate_is : f ≡ row.fate
  pub conn_is : conn ≡ line.name
  pub call_is : call ≡ number_at line started.place
