-- The course of a connection on which several calls may be unanswered: what is heard and which calls are answered, interleaved.
-- It is listed with the newest first.
use Rattle.std.specs.Prelude.{◌≡◌, ℕ, Bool, true, false, ◌||◌, Option, Some, None, List, [], ◌∷◌}
use Rattle.rpc_base.specs.declared.identifiers.SyntaxId.{SyntaxId}
use Rattle.pdu_codec.specs.declared.pdu.Pdu.{Pdu}
use Rattle.pdu_stream.specs.declared.joined.Joined.{Joined}
use Rattle.presentation.specs.declared.verdict.Accepted.{Accepted}
use Rattle.presentation.specs.Offers.{contexts, interface_of}
use Rattle.conn_asks.specs.declared.events.Ask.{Ask}
use Rattle.conn_asks.specs.declared.events.Ask.TheVariants as asks
use Rattle.conn_asks.specs.Asks.{offered}
use Rattle.conn_asks.specs.States.{caller_of}
use Rattle.mpx_asks.specs.declared.open_calls.OpenCall.{OpenCall}
use Rattle.mpx_asks.specs.Open.{is_full, has, opening, without}
use Rattle.mpx_asks.specs.Among.{AsksAmong}

-- A PDU is heard, with what it asks; or the call with that id is answered.
pub data Moment : Type 0 where
  Heard : Pdu → Option Ask → Moment
  Answered : ℕ → Moment

-- the PDUs that were heard
abbrev pub heard_in : List Moment → List Pdu
heard_in [] = []
heard_in (Moment.Heard p ask ∷ course) = p ∷ heard_in course
heard_in (Moment.Answered id ∷ course) = heard_in course

abbrev pub breaks : Option Ask → Bool
breaks None = false
breaks (Some (asks.Bind c flags b)) = false
breaks (Some (asks.Alter c b)) = false
breaks (Some (asks.Call j)) = false
breaks (Some (asks.Cancel id)) = false
breaks (Some (asks.Orphan id)) = false
breaks (Some (asks.Broken c f)) = true

-- the protocol was broken
abbrev pub is_broken : List Moment → Bool
is_broken [] = false
is_broken (Moment.Heard p ask ∷ course) = breaks ask || is_broken course
is_broken (Moment.Answered id ∷ course) = is_broken course

-- a whole request opens a call where fewer are unanswered than may be, and its context is accepted for an interface
abbrev pub open_by : Bool → Option ℕ → Joined → List OpenCall → List OpenCall
open_by true iface j out = out
open_by false None j out = out
open_by false (Some k) j out = opening (caller_of j) j.maybe out

-- which calls are unanswered behind what a PDU asks, where these contexts are accepted
abbrev pub open_after : List Accepted → List OpenCall → Option Ask → List OpenCall
open_after a out None = out
open_after a out (Some (asks.Bind c flags b)) = out
open_after a out (Some (asks.Alter c b)) = out
open_after a out (Some (asks.Call j)) = open_by (is_full out) (interface_of a j.context) j out
open_after a out (Some (asks.Cancel id)) = out
open_after a out (Some (asks.Orphan id)) = without id out
open_after a out (Some (asks.Broken c f)) = out

-- These moments are a course of a connection to a server of these interfaces, and these calls are unanswered behind it. Each
-- PDU asks what it does while just those calls are unanswered that then are. Nothing is heard once the protocol is broken.
abbrev pub IsCourse : List SyntaxId → List Moment → List OpenCall → Type 0
IsCourse ids [] out = out ≡ []
IsCourse ids (Moment.Heard p ask ∷ course) out =
    (before : List OpenCall) × IsCourse ids course before × (is_broken course ≡ false) × AsksAmong (heard_in course) before p ask
    × (out ≡ open_after (contexts ids (offered (heard_in course))) before ask)
IsCourse ids (Moment.Answered id ∷ course) out =
    (before : List OpenCall) × IsCourse ids course before × (has id before ≡ true) × (out ≡ without id before)
