-- What a PDU was found to ask, and what is being joined then.
use Rattle.std.specs.Prelude.{◌≡◌, ◌≢◌, ℕ, ◌<◌, ◌≤◌, Bool, true, false, Option, Some, None, Result, Ok, Err, List, [], length, ⊤}
use Rattle.rpc_base.specs.declared.fault.NoMemory.{NoMemory}
use Rattle.pdu_codec.specs.declared.pdu.Pdu.{Pdu}
use Rattle.pdu_codec.specs.declared.pdu.Body.{Body}
use Rattle.pdu_codec.specs.declared.pdu.Body.TheVariants as bodies
use Rattle.pdu_codec.specs.declared.pdu.Element.{Element}
use Rattle.pdu_codec.specs.Constants.{least_fragment}
use Rattle.pdu_stream.specs.declared.joined.Joined.{Joined}
use Rattle.pdu_stream.specs.declared.joined.JoinFault.{JoinFault}
use Rattle.pdu_stream.specs.declared.joined.JoinFault.TheVariants.{Memory}
use Rattle.pdu_stream.specs.Fragments.{Fragment, Joining, AddsFragment}
use Rattle.pdu_stream.specs.Runs.{Changes}
use Rattle.conn_asks.specs.declared.events.Caller.{Caller}
use Rattle.conn_asks.specs.declared.events.ConnFault.TheVariants.{Join, Unbound}
use Rattle.conn_asks.specs.declared.events.Ask.{Ask}
use Rattle.conn_asks.specs.declared.events.Ask.TheVariants.{Bind, Alter, Broken}
use Rattle.conn_asks.specs.Asks.{caller, caller_of_fragment, AsksWith, OfRequest}

-- Unless the protocol is broken, this holds of the request that is being joined then. A fault of the fragments stays.
abbrev pub Follows : (Option Joined → Type 0) → Option Ask → Joining → Type 0
Follows P (Some (Broken c (Join fault))) new = new ≡ Err fault
Follows P (Some (Broken c f)) new = ⊤
Follows P _ new = (after : Option Joined) × (new ≡ Ok after) × P after

-- a fragment joins
abbrev pub Joins : Option Joined → Fragment → Option Joined → Type 0
Joins run f after = (answer : Option Joined) × AddsFragment (Ok run) f (Ok answer) (Ok after)

-- behind a fault of the fragments a further one is answered it again, also where it was want of memory
abbrev pub AsksAgain : Caller → JoinFault → Result (Option Ask) NoMemory → Type 0
AsksAgain c fault (Ok ask) = (fault ≢ Memory) × (ask ≡ Some (Broken c (Join fault)))
AsksAgain c fault (Err _) = fault ≡ Memory

-- A fragment, behind those that joined so far or behind a fault of them. Memory runs out only where it is to be joined.
abbrev pub FindsRequest : Bool → Joining → Fragment → Result (Option Ask) NoMemory → Joining → Type 0
FindsRequest bound (Ok run) f (Ok ask) new = OfRequest bound run f ask × Follows (Joins run f) ask new
FindsRequest bound (Ok run) f (Err _) new = (bound ≡ true) × (new ≡ Err Memory)
FindsRequest true (Err fault) f result new = AsksAgain (caller_of_fragment f) fault result × (new ≡ Err fault)
FindsRequest false (Err fault) f result new = (result ≡ Ok (Some (Broken (caller_of_fragment f) Unbound))) × (new ≡ Err fault)

-- behind a fault of the fragments a PDU that is none of them asks what it asks anyway
abbrev pub AsksStill : Bool → JoinFault → Option ℕ → Pdu → Body → Result (Option Ask) NoMemory → Type 0
AsksStill true fault called p (bodies.Request r) result = AsksAgain (caller p r.context) fault result
AsksStill bound fault called p body result = (ask : Option Ask) × (result ≡ Ok ask) × AsksWith bound None called p body ask

-- memory runs out only where a fragment is to be joined, and stays so
abbrev pub RunsOut : Bool → Body → Joining → Type 0
RunsOut true (bodies.Request r) new = new ≡ Err Memory
RunsOut _ _ new = ⊥

-- A PDU, behind the fragments that joined so far or behind a fault of them.
abbrev pub Finds : Bool → Joining → Option ℕ → Pdu → Result (Option Ask) NoMemory → Joining → Type 0
Finds bound (Ok run) called p (Ok ask) new = AsksWith bound run called p p.body ask × Follows (Changes run p p.body) ask new
Finds bound (Ok run) called p (Err _) new = RunsOut bound p.body new
Finds bound (Err fault) called p result new = AsksStill bound fault called p p.body result × (new ≡ Err fault)

-- ---- what is offered

-- the elements that an ask offers
abbrev pub elements_in : Ask → List Element
elements_in (Bind c flags b) = b.elements
elements_in (Alter c b) = b.elements
elements_in _ = []

-- What is asked can be answered: as many elements as a PDU's count tells, and fragments that are long enough.
abbrev pub IsAnswerable : Ask → Type 0
IsAnswerable (Bind c flags b) = (length b.elements < 256) × (least_fragment ≤ b.max_recv)
IsAnswerable (Alter c b) = length b.elements < 256
IsAnswerable _ = ⊤
