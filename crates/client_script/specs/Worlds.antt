-- What a call script has led to at a moment.
use Rattle.std.specs.Prelude.{◌≡◌, ℕ, ◌++◌, Bool, true, false, Option, Some, None, List, [], ◌∷◌, slice_get}
use Rattle.rpc_base.specs.declared.identifiers.WireHandle.{WireHandle}
use Rattle.ndr_table.specs.Tables.{TableForm}
use Rattle.client_core.specs.States.{ClientState, at_start, is_bound}
use Rattle.client_core.specs.Histories.{ClientEvent}

-- A connection: its name; whether it was neither closed nor lost, and whether it was closed; the group that its server told; what
-- happened on it, and the state where that led; and the octets that were sent and not put.
pub record Association : Type 0 where
  pub name : ℕ
  pub is_open : Bool
  pub is_closed : Bool
  pub group : ℕ
  pub events : List ClientEvent
  pub state : ClientState
  pub pending : List ℕ

-- The connections, in the order of their `bind` lines; the handles that came, in their order; what was printed; and whether a
-- bind was refused, or something failed.
pub record World : Type 0 where
  pub associations : List Association
  pub known : List WireHandle
  pub out : List ℕ
  pub failed : Bool

abbrev pub nothing_yet : World
nothing_yet = record { associations = []; known = []; out = []; failed = false }

-- a connection on which nothing happened
abbrev pub fresh : TableForm → ℕ → Association
fresh interface name = record { name = name; is_open = true; is_closed = false; group = 0; events = []; state = at_start interface; pending = [] }

-- something happened on it
abbrev pub with_event : Association → ClientEvent → ClientState → Association
with_event a event n = record a { events = a.events ++ event ∷ []; state = n }

-- The connection of that name is bound, by an answer to its bind, and neither closed nor lost: it is the one at this place.
pub record IsBound (w : World) (name at : ℕ) (a : Association) : Type 0 where
  pub there : slice_get w.associations at ≡ Some a
  pub named : a.name ≡ name
  pub is_open : a.is_open ≡ true
  pub bound : is_bound a.state ≡ true

-- none of that name is bound
abbrev pub IsFree : World → ℕ → Type 0
IsFree w name = (at : ℕ) (a : Association) → IsBound w name at a → ⊥

-- the group for which a bind asks: 0 for a new one, or that of a bound connection
abbrev pub AsksGroup : World → Option ℕ → ℕ → Type 0
AsksGroup w None group = group ≡ 0
AsksGroup w (Some other) group = (at : ℕ) × (a : Association) × IsBound w other at a × (group ≡ a.group)
