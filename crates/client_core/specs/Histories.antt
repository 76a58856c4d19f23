-- What happens on a caller's connection, one thing after the other, and what it is told.
use Rattle.std.specs.Prelude.{◌≡◌, ℕ, Bool, Option, Some, None, Ok, List, [], ◌∷◌, ◌++◌}
use Rattle.pdu_codec.specs.declared.pdu.Pdu.{Pdu}
use Rattle.ndr_value.specs.Values.{Msg}
use Rattle.client_core.specs.States.{Outcome, ClientState}
use Rattle.client_core.specs.Calls.{Binds, Alters, Calls, Cancels, Loses}
use Rattle.client_core.specs.Hears.{HearsBody}

-- What happens: a bind, an alter_context, a call or a cancel is begun, and these octets are sent; a PDU is received, and
-- something is told or nothing; or the connection is lost, with a call out or without. Want of memory isn't seen here.
pub data ClientEvent : Type 0 where
  DidBind : ℕ → List ℕ → ClientEvent
  DidAlter : ℕ → List ℕ → ClientEvent
  DidCall : ℕ → Msg → List ℕ → ClientEvent
  DidCancel : List ℕ → ClientEvent
  Received : Pdu → Option Outcome → ClientEvent
  Lost : Bool → ClientEvent

abbrev pub Happens : ClientState → ClientEvent → ClientState → Type 0
Happens s (DidBind group octets) n = Binds s group (Ok octets) n
Happens s (DidAlter context octets) n = Alters s context (Ok octets) n
Happens s (DidCall op m octets) n = Calls s op m (Ok octets) n
Happens s (DidCancel octets) n = Cancels s (Ok octets) n
Happens s (Received p t) n = HearsBody s p p.body t n
Happens s (Lost called) n = Loses s called n

-- From one state to another this happens, in that order.
abbrev pub Lives : ClientState → List ClientEvent → ClientState → Type 0
Lives s [] n = n ≡ s
Lives s (event ∷ later) n = (between : ClientState) × Happens s event between × Lives between later n

-- the octets that are sent
abbrev pub sent : List ClientEvent → List ℕ
sent [] = []
sent (DidBind group octets ∷ later) = octets ++ sent later
sent (DidAlter context octets ∷ later) = octets ++ sent later
sent (DidCall op m octets ∷ later) = octets ++ sent later
sent (DidCancel octets ∷ later) = octets ++ sent later
sent (_ ∷ later) = sent later

abbrev pub with_outcome : Option Outcome → List Outcome → List Outcome
with_outcome None later = later
with_outcome (Some t) later = t ∷ later

-- what is told, in order
abbrev pub outcomes : List ClientEvent → List Outcome
outcomes [] = []
outcomes (Received p t ∷ later) = with_outcome t (outcomes later)
outcomes (_ ∷ later) = outcomes later
