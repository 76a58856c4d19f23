-- What is done and answered on a connection, turn by turn. Turns and what calls off are listed with the newest first,
-- events and octets with the oldest first.
use Rattle.std.specs.Prelude.{ℕ, Bool, true, false, Option, Some, None, if◌then◌else◌, List, [], ◌∷◌, ◌++◌}
use Rattle.std.specs.List.{list_any}
use Rattle.handle_model.specs.declared.entry.Said.{Said}
use Rattle.handle_model.specs.declared.entry.Said.TheVariants.{Fault}
use Rattle.handle_model.specs.declared.reply.Reply.{Reply}
use Rattle.handle_model.specs.declared.reply.Reply.TheVariants.{Never, Ran, Dropped, Open}
use Rattle.handle_model.specs.Replies.{context_mismatch, cancelled}
use Rattle.conn_asks.specs.declared.events.Act.{Act}
use Rattle.conn_asks.specs.declared.events.Act.TheVariants as acts
use Rattle.conn_histories.specs.Histories.{Decision, Event}
use Rattle.conn_histories.specs.Histories.Event.{Did, Decided}
use Rattle.conn_histories.specs.declared.turn.Off.{Off}
use Rattle.conn_histories.specs.declared.turn.Off.TheVariants as off
use Rattle.conn_histories.specs.declared.turn.Fate.{Fate}
use Rattle.conn_histories.specs.declared.turn.Fate.TheVariants.{Waiting, Denied, Cancelled, Orphaned, LeftWaiting, Running, LeftRunning, Ended, LeftEnded}
use Rattle.conn_histories.specs.declared.turn.Deed.{Deed}
use Rattle.conn_histories.specs.declared.turn.Deed.TheVariants.{Pending, Refused, Accepted}
use Rattle.conn_histories.specs.declared.turn.Request.{Request}
use Rattle.conn_histories.specs.declared.turn.Turn.{Turn}
use Rattle.conn_histories.specs.declared.turn.Turn.TheVariants.{Binding, Bound, NotBound, Answered, Called, Closed}
use Rattle.conn_histories.specs.Entries.{is_orphan}

-- ---- what a call is told

-- unless the call was orphaned
abbrev pub unless_orphaned : List Off → Reply → Reply
unless_orphaned offs reply = if list_any is_orphan offs then Dropped else reply

abbrev pub fate_reply : List Off → Fate → Reply
fate_reply offs Waiting = Open
fate_reply offs (Denied slot) = Never context_mismatch
fate_reply offs Cancelled = Never cancelled
fate_reply offs Orphaned = Dropped
fate_reply offs LeftWaiting = Dropped
fate_reply offs (Running cookies) = unless_orphaned offs Open
fate_reply offs (LeftRunning cookies) = Dropped
fate_reply offs (Ended run) = unless_orphaned offs (Ran run.said)
fate_reply offs (LeftEnded run) = Dropped

abbrev pub deed_reply : List Off → Deed → Reply
deed_reply offs Pending = Open
deed_reply offs (Refused status) = Never status
deed_reply offs (Accepted k slots fate) = fate_reply offs fate

-- what is said to the client, if anything, and whether the call was executed
abbrev pub word_of : Reply → Option Said
word_of (Never status) = Some (Fault status)
word_of (Ran said) = Some said
word_of Dropped = None
word_of Open = None

abbrev pub has_run : Reply → Bool
has_run (Ran said) = true
has_run _ = false

-- ---- events

abbrev pub act_off : ℕ → Off → Act
act_off id off.Cancel = acts.Cancel id
act_off id off.Orphan = acts.Orphan id

-- what called off the call with that id
abbrev pub acts_off : ℕ → List Off → List Event
acts_off id [] = []
acts_off id (o ∷ offs) = acts_off id offs ++ Did (act_off id o) ∷ []

abbrev pub answer_events : Reply → Option (List ℕ) → List Event
answer_events reply None = []
answer_events reply (Some octets) = Decided (Decision.Reply (word_of reply) (has_run reply)) octets ∷ []

abbrev pub request_events : Request → List Event
request_events r = Did (acts.Call r.joined r.iface) ∷ (acts_off r.joined.call_id r.offs ++ answer_events (deed_reply r.offs r.deed) r.answer)

abbrev pub events_of : Turn → List Event
events_of (Binding asked) = Did (acts.Group asked) ∷ []
events_of (Bound asked group octets) = Did (acts.Group asked) ∷ Decided (Decision.ToGroup group) octets ∷ []
events_of (NotBound asked reason octets) = Did (acts.Group asked) ∷ Decided (Decision.RefuseGroup reason) octets ∷ []
events_of (Answered octets) = Did (acts.Answer octets) ∷ []
events_of (Called r) = request_events r
events_of (Closed octets fault) = Did (acts.Close octets fault) ∷ []

abbrev pub all_events : List Turn → List Event
all_events [] = []
all_events (t ∷ ts) = all_events ts ++ events_of t

-- ---- octets

-- those of an answer, if there is one yet
abbrev pub octets_in : Option (List ℕ) → List ℕ
octets_in None = []
octets_in (Some octets) = octets

abbrev pub octets_of : Turn → List ℕ
octets_of (Binding asked) = []
octets_of (Bound asked group octets) = octets
octets_of (NotBound asked reason octets) = octets
octets_of (Answered octets) = octets
octets_of (Called r) = octets_in r.answer
octets_of (Closed octets fault) = octets

abbrev pub all_octets : List Turn → List ℕ
all_octets [] = []
all_octets (t ∷ ts) = all_octets ts ++ octets_of t
