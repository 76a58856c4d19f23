-- The calls of a connection that are unanswered, told apart by their ids. They are listed in the order in which they were
-- asked.
use Rattle.std.specs.Prelude.{◌≡◌, ℕ, ◌≤◌, ◌==◌, nat_le, Bool, true, false, not, Option, Some, None, if◌then◌else◌, List, [], ◌∷◌, ◌++◌, length, filter, ⊤}
use Rattle.std.specs.List.{list_any}
use Rattle.conn_asks.specs.declared.events.Caller.{Caller}
use Rattle.mpx_asks.specs.declared.open_calls.OpenCall.{OpenCall}

-- how many may be unanswered at once
abbrev pub most_open : ℕ
most_open = 32

abbrev pub is_none : List OpenCall → Bool
is_none [] = true
is_none (o ∷ out) = false

abbrev pub is_full : List OpenCall → Bool
is_full out = nat_le most_open (length out)

-- the call has that id, or another
abbrev pub is_of : ℕ → OpenCall → Bool
is_of id o = o.caller.call_id == id

abbrev pub is_other : ℕ → OpenCall → Bool
is_other id o = not (o.caller.call_id == id)

-- a call with that id is unanswered
abbrev pub has : ℕ → List OpenCall → Bool
has id out = list_any (is_of id) out

-- the id, where a call with it is unanswered
abbrev pub named : ℕ → List OpenCall → Option ℕ
named id out = if has id out then Some id else None

-- a call is asked
abbrev pub opening : Caller → Bool → List OpenCall → List OpenCall
opening c maybe out = out ++ record { caller = c; maybe = maybe } ∷ []

-- the call with that id is answered, or no longer waited for
abbrev pub without : ℕ → List OpenCall → List OpenCall
without id out = filter (is_other id) out

-- no two have one id
abbrev pub AreApart : List OpenCall → Type 0
AreApart [] = ⊤
AreApart (o ∷ out) = (has o.caller.call_id out ≡ false) × AreApart out

-- Calls that may be unanswered at once: of different ids, and no more than that.
abbrev pub AreOpen : List OpenCall → Type 0
AreOpen out = AreApart out × (length out ≤ most_open)
