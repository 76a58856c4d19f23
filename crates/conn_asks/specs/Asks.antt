-- What the PDUs that a server takes ask (C706, "Connection-oriented RPC PDUs" and the protocol machines). What a PDU
-- asks follows from those before it, which are listed with the newest first.
use Rattle.std.specs.Prelude.{◌≡◌, ◌≢◌, ℕ, ◌==◌, nat_lt, Bool, true, false, Option, Some, None, if◌then◌else◌, List, [], ◌∷◌, ◌++◌, reverse}
use Rattle.std.specs.List.{list_any}
use Rattle.pdu_codec.specs.declared.pdu.Pdu.{Pdu}
use Rattle.pdu_codec.specs.declared.pdu.Body.{Body}
use Rattle.pdu_codec.specs.declared.pdu.Body.TheVariants as bodies
use Rattle.pdu_codec.specs.declared.pdu.RequestBody.{RequestBody}
use Rattle.pdu_codec.specs.declared.pdu.BindBody.{BindBody}
use Rattle.pdu_codec.specs.declared.pdu.AlterBody.{AlterBody}
use Rattle.pdu_codec.specs.declared.pdu.Element.{Element}
use Rattle.pdu_codec.specs.declared.fault.PduFault.{PduFault}
use Rattle.pdu_codec.specs.declared.fault.PduFault.TheVariants as pdus
use Rattle.pdu_codec.specs.Constants.{bind_type, least_fragment}
use Rattle.pdu_codec.specs.Faults.{kind_at, raw_head_of}
use Rattle.pdu_stream.specs.declared.joined.Joined.{Joined}
use Rattle.pdu_stream.specs.declared.joined.JoinFault.TheVariants.{Memory}
use Rattle.pdu_stream.specs.Fragments.{Fragment, is_last, with_fragment, IsTaken, IsJoinFault}
use Rattle.pdu_stream.specs.Runs.{IsJoining}
use Rattle.pdu_stream.specs.declared.cut.Cut.{Cut}
use Rattle.pdu_stream.specs.Cuts.{IsCut}
use Rattle.conn_asks.specs.declared.events.Caller.{Caller}
use Rattle.conn_asks.specs.declared.events.ConnFault.{ConnFault}
use Rattle.conn_asks.specs.declared.events.ConnFault.TheVariants.{Join, Direction, Unbound, Rebound, Nak}
use Rattle.conn_asks.specs.declared.events.ConnFault.TheVariants as conn
use Rattle.conn_asks.specs.declared.events.Ask.{Ask}
use Rattle.conn_asks.specs.declared.events.Ask.TheVariants.{Bind, Alter, Call, Cancel, Orphan, Broken}

-- WHAT CAME BEFORE

abbrev pub is_bind : Body → Bool
is_bind (bodies.Bind b) = true
is_bind _ = false

abbrev pub binds : Pdu → Bool
binds p = is_bind p.body

-- a bind came
abbrev pub is_bound : List Pdu → Bool
is_bound past = list_any binds past

-- the elements that a bind or an alter_context offers
abbrev pub offered_by : Body → List Element
offered_by (bodies.Bind b) = b.elements
offered_by (bodies.Alter b) = b.elements
offered_by _ = []

-- the elements that were offered, the oldest first
unfoldable pub offered : List Pdu → List Element
offered [] = []
offered (p ∷ past) = offered past ++ offered_by p.body

abbrev pub request_fragment : Pdu → RequestBody → Fragment
request_fragment p r = record { order = p.order; flags = p.flags; call_id = p.call_id; part = r }

-- the call id of a whole request, where behind it nothing is asked but a cancel or an orphaning
abbrev pub called_behind : Option ℕ → Pdu → Body → Option ℕ
called_behind called p (bodies.Request r) = if is_last (request_fragment p r) then Some p.call_id else called
called_behind called p bodies.CoCancel = called
called_behind called p bodies.Orphaned = called
called_behind called p _ = None

unfoldable pub called : List Pdu → Option ℕ
called [] = None
called (p ∷ past) = called_behind (called past) p p.body

-- WHAT A PDU ASKS

abbrev pub caller : Pdu → ℕ → Caller
caller p context = record { order = p.order; call_id = p.call_id; context = context }

abbrev pub caller_of_fragment : Fragment → Caller
caller_of_fragment f = record { order = f.order; call_id = f.call_id; context = f.part.context }

-- a bind, given whether one came before
abbrev pub of_bind : Bool → Caller → ℕ → BindBody → Ask
of_bind true c flags b = Broken c Rebound
of_bind false c flags b = if nat_lt b.max_recv least_fragment then Broken c (Nak 0) else Bind c flags b

abbrev pub of_alter : Bool → Caller → AlterBody → Ask
of_alter true c b = Alter c b
of_alter false c b = Broken c Unbound

-- A fragment asks nothing before the last one, which asks a call; or it breaks the run.
abbrev pub JoinsToAsk : Option Joined → Fragment → Option Ask → Type 0
JoinsToAsk run f None = IsTaken run f × (is_last f ≡ false)
JoinsToAsk run f (Some (Call j)) = IsTaken run f × (is_last f ≡ true) × (j ≡ with_fragment run f)
JoinsToAsk run f (Some (Broken c (Join fault))) =
    (c ≡ caller_of_fragment f) × (fault ≢ Memory) × IsJoinFault run f fault
JoinsToAsk run f _ = ⊥

abbrev pub OfRequest : Bool → Option Joined → Fragment → Option Ask → Type 0
OfRequest true run f ask = JoinsToAsk run f ask
OfRequest false run f ask = ask ≡ Some (Broken (caller_of_fragment f) Unbound)

-- the call asked before has that id
abbrev pub is_called : ℕ → Option ℕ → Bool
is_called id None = false
is_called id (Some other) = other == id

-- What a PDU asks, given whether a bind came, the request that is being joined, and the call that was asked last. The
-- other PDUs are not for a server.
abbrev pub AsksWith : Bool → Option Joined → Option ℕ → Pdu → Body → Option Ask → Type 0
AsksWith bound run call p (bodies.Bind b) ask = ask ≡ Some (of_bind bound (caller p 0) p.flags b)
AsksWith bound run call p (bodies.Alter b) ask = ask ≡ Some (of_alter bound (caller p 0) b)
AsksWith bound run call p (bodies.Request r) ask = OfRequest bound run (request_fragment p r) ask
AsksWith bound run call p bodies.CoCancel ask = ask ≡ (if is_called p.call_id call then Some (Cancel p.call_id) else None)
AsksWith bound run call p bodies.Orphaned ask = ask ≡ (if is_called p.call_id call then Some (Orphan p.call_id) else None)
AsksWith bound run call p _ ask = ask ≡ Some (Broken (caller p 0) Direction)

-- What a PDU asks behind others.
pub record Asks (past : List Pdu) (p : Pdu) (ask : Option Ask) : Type 0 where
  pub run : Option Joined
  pub joining : IsJoining (reverse past) run
  pub asks : AsksWith (is_bound past) run (called past) p p.body ask

-- WHAT OCTETS ASK THAT ARE NO PDU

-- the caller, as the header says that stands in front
abbrev pub caller_at : List ℕ → Caller
caller_at octets = let head = raw_head_of octets in record { order = head.order; call_id = head.call_id; context = 0 }

abbrev pub nak_reason : PduFault → ℕ
nak_reason pdus.Version = 4
nak_reason _ = 0

-- a bind that is none is refused; else the fault stands for itself
abbrev pub broken_by : List ℕ → PduFault → ConnFault
broken_by octets fault = if kind_at octets == bind_type then Nak (nak_reason fault) else conn.Pdu fault

-- a fault of the octets, if there is one
abbrev pub broken_end : List ℕ → Option PduFault → List Ask
broken_end octets None = []
broken_end octets (Some fault) = Broken (caller_at octets) (broken_by octets fault) ∷ []

-- WHAT A STREAM ASKS

-- A PDU asks nothing, or breaks the protocol, and nothing follows; or else what it asks is followed by what later ones
-- ask.
abbrev pub AsksFirst : Option Ask → (List Ask → Type 0) → List Ask → Type 0
AsksFirst None Later asks = Later asks
AsksFirst (Some (Broken c f)) Later asks = asks ≡ Broken c f ∷ []
AsksFirst (Some ask) Later asks = (later : List Ask) × (asks ≡ ask ∷ later) × Later later

-- What PDUs ask behind others, and then what follows them.
abbrev pub AreAsks : List Pdu → List Pdu → List Ask → List Ask → Type 0
AreAsks past [] end asks = asks ≡ end
AreAsks past (p ∷ more) end asks = (ask : Option Ask) × Asks past p ask × AsksFirst ask (AreAsks (p ∷ past) more end) asks

-- What the octets of a connection ask, up to and with the first fault.
pub record AreAsksOf (stream : List ℕ) (asks : List Ask) : Type 0 where
  pub cut : Cut
  pub is_cut : IsCut stream cut
  pub asked : AreAsks [] cut.pdus (broken_end cut.rest cut.fault) asks
