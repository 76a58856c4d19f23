-- Which calls were asked to end, by their numbers.
use Rattle.std.specs.Prelude.{◌≡◌, ℕ, ◌+◌, ◌-◌, Bool, true, false, nat_le, not, Option, Some, None, if◌then◌else◌, List, [], ◌∷◌, ◌++◌, length, drop, get_or, slice_set}
use Rattle.std.specs.List.{list_any, filter_map}
use Rattle.handle_model.specs.declared.entry.Entry.{Entry}
use Rattle.handle_model.specs.declared.entry.Entry.TheVariants.{Accept, Cancel}
use Rattle.handle_model.specs.declared.base.BaseCall.{BaseCall}
use Rattle.handle_model.specs.declared.base.Base.{Base}
use Rattle.handle_model.specs.Bases.{is_number, taken_before}
use Rattle.handle_model.specs.Journal.{any_since, count_since, takes, is_accept}
use Rattle.group_core.specs.Stages.{is_asked_since}

-- the last number of a call of the base, those of its calls that were asked to end, of each later call
-- whether it was, and how many more marks there is room for
pub record Marked : Type 0 where
  pub first : ℕ
  pub early : List ℕ
  pub later : List Bool
  pub room : ℕ

abbrev pub is_marked : Marked → ℕ → Bool
is_marked m k = if nat_le k m.first then list_any (is_number k) m.early else get_or m.later (k - m.first - 1) false

-- a further call, and a mark
abbrev pub with_call : Marked → Marked
with_call m = record { first = m.first; early = m.early; later = m.later ++ false ∷ []; room = m.room - 1 }

abbrev pub early_with : ℕ → Marked → List ℕ
early_with k m = if nat_le k m.first then m.early ++ k ∷ [] else m.early

abbrev pub later_with : ℕ → Marked → List Bool
later_with k m = if nat_le k m.first then m.later else slice_set m.later (k - m.first - 1) true

abbrev pub with_mark : ℕ → Marked → Marked
with_mark k m = record { first = m.first; early = early_with k m; later = later_with k m; room = m.room - 1 }

-- the calls of a base that are marked, and the marks from that base on
abbrev pub marked_in : Marked → BaseCall → Option ℕ
marked_in m c = if is_marked m c.call then Some c.call else None

abbrev pub marked_of : Marked → List BaseCall → List ℕ
marked_of m calls = filter_map (marked_in m) calls

abbrev pub marks_after : Marked → Base → Marked
marks_after m base = record { first = base.accepts; early = marked_of m base.calls; later = drop (base.accepts - m.first) m.later; room = 0 }

-- IN A JOURNAL

-- an entry that asks no call to end, and accepts none
abbrev pub is_quiet_since : Base → List Entry → Entry → Bool
is_quiet_since base past (Cancel k) = not (any_since (taken_before base k) (takes k) past)
is_quiet_since base past (Accept k a) = false
is_quiet_since base past _ = true

-- the marks are those of the calls that were asked to end, and there is one for each later call
pub record MarksTell (m : Marked) (base : Base) (past : List Entry) : Type 0 where
  pub first_is : m.first ≡ base.accepts
  pub counts : m.first + length m.later ≡ count_since base.accepts is_accept past
  pub marked : (k : ℕ) → is_marked m k ≡ is_asked_since base past k
