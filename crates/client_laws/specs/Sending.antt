-- What a caller that binds once asks by the octets that it sends: what it began, one thing after the other.
use Rattle.std.specs.Prelude.{◌≡◌, ℕ, ◌<◌, ◌≤◌, ◌^◌, Bool, true, false, Option, Some, None, List, [], ◌∷◌, ◌++◌, length, slice_get, ⊤}
use Rattle.std.specs.List.{list_any}
use Rattle.rpc_base.specs.declared.identifiers.SyntaxId.{SyntaxId}
use Rattle.rpc_base.specs.Fields.{FitsSyntax}
use Rattle.pdu_codec.specs.Constants.{only_frag, most_fragment}
use Rattle.pdu_codec.specs.declared.pdu.BindBody.{BindBody}
use Rattle.ndr_table.specs.Tables.{OpForm, TableForm}
use Rattle.conn_asks.specs.Asks.{AreAsksOf, caller}
use Rattle.conn_asks.specs.declared.events.Ask.{Ask}
use Rattle.conn_asks.specs.declared.events.Ask.TheVariants as asks
use Rattle.client_core.specs.States.{Calling, ClientState, at_start}
use Rattle.client_core.specs.Octets.{offer, bind_pdu}
use Rattle.client_core.specs.Histories.{ClientEvent, Happens, Lives, sent}
use Rattle.client_core.specs.Histories.ClientEvent.{DidBind, DidAlter, DidCall, DidCancel}
use Rattle.client_laws.specs.Ends.{request_of}

-- ---- one thing that is begun

-- the bind of a caller, which offers its interface
abbrev pub bind_of : SyntaxId → ℕ → BindBody
bind_of syntax group = record { max_xmit = most_fragment; max_recv = most_fragment; group = group; elements = offer syntax 0 }

abbrev pub bind_asked : ClientState → ℕ → Ask
bind_asked s group = asks.Bind (caller (bind_pdu s.interface.id group) 0) only_frag (bind_of s.interface.id group)

-- a cancel of the call that is out
abbrev pub cancel_asked : Option Calling → List Ask
cancel_asked None = []
cancel_asked (Some c) = asks.Cancel c.id ∷ []

-- what is asked where this is begun; a PDU that is received and a loss ask nothing
abbrev pub EventAsks : ClientState → ClientEvent → List Ask → Type 0
EventAsks s (DidBind group octets) asked = asked ≡ bind_asked s group ∷ []
EventAsks s (DidCall op m octets) asked = (o : OpForm) × (slice_get s.interface.ops op ≡ Some o) × (asked ≡ asks.Call (request_of s op o m) ∷ [])
EventAsks s (DidCancel octets) asked = asked ≡ cancel_asked s.call
EventAsks s _ asked = asked ≡ []

-- ---- one thing after the other

-- From one state to another this happens, and that is asked.
abbrev pub EventsAsk : ClientState → List ClientEvent → ClientState → List Ask → Type 0
EventsAsk s [] n asked = (n ≡ s) × (asked ≡ [])
EventsAsk s (event ∷ later) n asked =
    (between : ClientState) × (first : List Ask) × (others : List Ask)
    × Happens s event between × EventAsks s event first × (asked ≡ first ++ others) × EventsAsk between later n others

abbrev pub offers : ClientEvent → Bool
offers (DidBind group octets) = true
offers (DidAlter context octets) = true
offers _ = false

-- A bind comes first, and behind it neither another one nor an alter_context.
abbrev pub BindsOnce : List ClientEvent → Type 0
BindsOnce [] = ⊤
BindsOnce (DidBind group octets ∷ later) = (group < 2 ^ 32) × (list_any offers later ≡ false)
BindsOnce _ = ⊥

-- The octets that such a caller sends ask what it began, and nothing else.
abbrev pub AsksAreSent : Type 0
AsksAreSent =
    (interface : TableForm) (events : List ClientEvent) (n : ClientState) (asked : List Ask) → FitsSyntax interface.id → length interface.ops ≤ 2 ^ 16
    → EventsAsk (at_start interface) events n asked → BindsOnce events → AreAsksOf (sent events) asked

-- There is such a list.
abbrev pub SentAsks : Type 0
SentAsks =
    (interface : TableForm) (events : List ClientEvent) (n : ClientState) → FitsSyntax interface.id → length interface.ops ≤ 2 ^ 16
    → Lives (at_start interface) events n → BindsOnce events
    → (asked : List Ask) × AreAsksOf (sent events) asked × EventsAsk (at_start interface) events n asked
