-- What the lines of a call script do.
use Rattle.std.specs.Prelude.{◌≡◌, ℕ, ◌++◌, ◌||◌, Bool, true, false, Some, List, [], ◌∷◌, slice_get, slice_set, ◌⊎◌}
use Rattle.rpc_base.specs.declared.identifiers.WireHandle.{WireHandle}
use Rattle.pdu_codec.specs.declared.pdu.Pdu.{Pdu}
use Rattle.ndr_value.specs.Values.{Msg}
use Rattle.ndr_table.specs.Tables.{OpForm, TableForm}
use Rattle.client_core.specs.Calls.{IsMessage}
use Rattle.client_core.specs.States.{Outcome, ClientState, at_start, is_calling}
use Rattle.client_core.specs.States.Outcome.{TBound, TNotBound, TDone, TFault}
use Rattle.client_core.specs.Histories.{ClientEvent, Happens, Lives}
use Rattle.client_core.specs.Histories.ClientEvent.{DidBind, DidCall, DidCancel, Received}
use Rattle.client_link.specs.Wires.{AreSilent, IsTooLong}
use Rattle.client_script.specs.declared.line.CallLine.{CallLine}
use Rattle.client_script.specs.declared.line.CallLine.TheVariants as lines
use Rattle.client_texts.specs.Handles.{with_handles}
use Rattle.client_texts.specs.Texts.{IsRequestText, inwards}
use Rattle.client_texts.specs.Answers.{IsLine}
use Rattle.client_script.specs.Worlds.{Association, World, fresh, with_event, IsBound, IsFree, AsksGroup}

-- ---- outcomes

-- the group that an outcome tells
abbrev pub group_of : Outcome → ℕ
group_of (TBound group) = group
group_of _ = 0

-- a bind is refused, or something failed
abbrev pub is_failure : Outcome → Bool
is_failure (TNotBound reason) = true
is_failure (TFault status not_run) = true
is_failure _ = false

-- the handles that came, with those of an outcome
abbrev pub known_with : List WireHandle → Outcome → List WireHandle
known_with known (TDone m) = with_handles known m.wires
known_with known _ = known

-- PDUs came to the connection, of which the last one told this outcome, and the others nothing.
pub record Hears (interface : TableForm) (a : Association) (outcome : Outcome) (b : Association) : Type 0 where
  pub before : List ClientEvent
  pub silent : AreSilent before
  pub pdu : Pdu
  pub happened : b ≡ record a { events = a.events ++ (before ++ Received pdu (Some outcome) ∷ []); state = b.state }
  pub lives : Lives (at_start interface) b.events b.state

-- the outcome of the connection of that name is printed
pub record Prints (w : World) (name : ℕ) (outcome : Outcome) (associations : List Association) (v : World) : Type 0 where
  pub line : List ℕ
  pub is_line : IsLine (known_with w.known outcome) name outcome line
  pub leads : v ≡ record { associations = associations; known = known_with w.known outcome; out = w.out ++ line; failed = w.failed || is_failure outcome }

-- ---- lines

-- what a bind's outcome leaves: the group that it tells
abbrev pub bound_as : Association → Outcome → Association
bound_as a outcome = record a { group = group_of outcome }

-- a new connection asks for the group, and hears the answer
pub record Binds (interface : TableForm) (name group : ℕ) (outcome : Outcome) (b : Association) : Type 0 where
  pub octets : List ℕ
  pub state : ClientState
  pub begins : Happens (at_start interface) (DidBind group octets) state
  pub answered : Association
  pub hears : Hears interface (with_event (fresh interface name) (DidBind group octets) state) outcome answered
  pub bound : b ≡ bound_as answered outcome

-- the operation of that number has that name
abbrev pub HasOp : TableForm → ℕ → List ℕ → Type 0
HasOp interface op name = (form : OpForm) × (slice_get interface.ops op ≡ Some form) × (form.name ≡ name)

-- the text is that of a request with the parameters that go in to the operation of that number
pub record IsRequestOf (interface : TableForm) (op : ℕ) (known : List WireHandle) (m : Msg) (text : List ℕ) : Type 0 where
  pub form : OpForm
  pub of : slice_get interface.ops op ≡ Some form
  pub has_text : IsRequestText interface.types (inwards form.params) known m text

-- The connection of that name is bound and has no call out, and the text is that of a message of the operation of that name.
pub record MayStart (w : World) (name : ℕ) (op_name text : List ℕ) (at : ℕ) (a : Association) (op : ℕ) (m : Msg) : Type 0 where
  pub bound : IsBound w name at a
  pub free : is_calling a.state ≡ false
  pub has_op : HasOp a.state.interface op op_name
  pub request : IsRequestOf a.state.interface op w.known m text
  pub message : IsMessage a.state.interface op m

-- it is bound and has a call out
pub record HasCall (w : World) (name at : ℕ) (a : Association) : Type 0 where
  pub bound : IsBound w name at a
  pub calling : is_calling a.state ≡ true

-- it is open no more, and its link is closed
abbrev pub closing : Association → Association
closing a = record a { is_open = false; is_closed = true }

-- something is begun on the connection at a place
abbrev pub Begins : World → ℕ → Association → (List ℕ → ClientEvent) → World → Type 0
Begins w at a event v =
    (octets : List ℕ) × (n : ClientState) × Happens a.state (event octets) n × (v ≡ record w { associations = slice_set w.associations at (with_event a (event octets) n) })

-- none of that name is bound, or one is that has no call out
abbrev pub HasNoCall : World → ℕ → Type 0
HasNoCall w name = IsFree w name ⊎ ((at : ℕ) × (a : Association) × IsBound w name at a × (is_calling a.state ≡ false))

-- the text is that of a request, which is a message of the operation
abbrev pub IsMessageOf : TableForm → ℕ → List WireHandle → List ℕ → Msg → Type 0
IsMessageOf interface op known text m = IsRequestOf interface op known m text × IsMessage interface op m

-- Why the text is that of no message of the operation: it is that of no request, or that of one that isn't a message of it.
pub data IsNoMessage (interface : TableForm) (op : ℕ) (known : List WireHandle) (text : List ℕ) : Type 0 where
  no_request : ((m : Msg) → IsRequestOf interface op known m text → ⊥) → IsNoMessage interface op known text
  not_of : (m : Msg) → IsRequestOf interface op known m text → (IsMessage interface op m → ⊥) → IsNoMessage interface op known text

-- What bars a call on a connection: one is out; no operation has the name; or the text is that of no message of one that has it,
-- or that of one whose octets are more than a stub may have.
pub data BarsCall (s : ClientState) (known : List WireHandle) (name text : List ℕ) : Type 0 where
  calling : is_calling s ≡ true → BarsCall s known name text
  no_op : ((op : ℕ) → HasOp s.interface op name → ⊥) → BarsCall s known name text
  no_message : (op : ℕ) → HasOp s.interface op name → IsNoMessage s.interface op known text → BarsCall s known name text
  too_long : (op : ℕ) (m : Msg) → HasOp s.interface op name → IsRequestOf s.interface op known m text → IsTooLong s.interface op m → BarsCall s known name text

-- what bars a line from coming
abbrev pub IsBarred : World → CallLine → Type 0
IsBarred w (lines.Bind name group) = ((at : ℕ) × (a : Association) × IsBound w name at a) ⊎ ((other : ℕ) × (group ≡ Some other) × IsFree w other)
IsBarred w (lines.Start name op_name text) = IsFree w name ⊎ ((at : ℕ) × (a : Association) × IsBound w name at a × BarsCall a.state w.known op_name text)
IsBarred w (lines.Cancel name) = HasNoCall w name
IsBarred w (lines.Wait name) = HasNoCall w name
IsBarred w (lines.Close name) = IsFree w name

-- A link is dialled for the line: it binds, by a name that is free, to a group for which it may ask.
abbrev pub DialsFor : World → CallLine → Type 0
DialsFor w (lines.Bind name group) = IsFree w name × (asked : ℕ) × AsksGroup w group asked
DialsFor w line = ⊥

module _ (interface : TableForm) where
  -- what a line does
  abbrev pub Steps : World → CallLine → World → Type 0
  Steps w (lines.Bind name group) v =
      IsFree w name × (asked : ℕ) × AsksGroup w group asked × (outcome : Outcome) × (b : Association) × Binds interface name asked outcome b × Prints w name outcome (w.associations ++ b ∷ []) v
  Steps w (lines.Start name op_name text) v =
      (at : ℕ) × (a : Association) × (op : ℕ) × (m : Msg) × MayStart w name op_name text at a op m × Begins w at a (DidCall op m) v
  Steps w (lines.Cancel name) v = (at : ℕ) × (a : Association) × HasCall w name at a × Begins w at a DidCancel v
  Steps w (lines.Wait name) v =
      (at : ℕ) × (a : Association) × HasCall w name at a × (outcome : Outcome) × (b : Association) × Hears interface a outcome b × Prints w name outcome (slice_set w.associations at b) v
  Steps w (lines.Close name) v =
      (at : ℕ) × (a : Association) × IsBound w name at a × (v ≡ record w { associations = slice_set w.associations at (closing a) })
