-- What an event is to the turns of its connection, where nothing comes into a journal or one call goes on.
use Rattle.std.proofs.Common.{◌≡◌, ◌≢◌, ℕ, Bool, true, false, ◌||◌, not, if◌then◌else◌, Option, Some, None, Ok, List, [], ◌∷◌, ◌++◌, refl, sym, ap, subst, ◌∙◌, ◌⊎◌, inl, inr, append_assoc}
use Rattle.std.specs.List.{list_any, AllByRecursion}
use Rattle.std.proofs.lemmas.List.{append-nil}
use Rattle.handle_model.specs.declared.entry.Home.{Home}
use Rattle.handle_model.specs.declared.entry.Slot.{Slot}
use Rattle.handle_model.specs.declared.entry.Said.{Said}
use Rattle.handle_model.specs.declared.entry.Entry.{Entry}
use Rattle.pdu_stream.specs.declared.joined.Joined.{Joined}
use Rattle.conn_histories.specs.declared.turn.Off.{Off}
use Rattle.conn_histories.specs.declared.turn.Fate.{Fate}
use Rattle.conn_histories.specs.declared.turn.Deed.{Deed}
use Rattle.conn_histories.specs.declared.turn.Turn.{Turn}
use Rattle.conn_histories.specs.Stories.{Server}
use Rattle.conn_histories.specs.declared.turn.Fate.TheVariants.{Waiting, Denied, Cancelled, Orphaned, LeftWaiting, Running, LeftRunning, Ended, LeftEnded}
use Rattle.conn_histories.specs.declared.turn.Deed.TheVariants as deeds
use Rattle.conn_histories.specs.declared.turn.Turn.TheVariants.{Answered, Closed as ClosedTurn}
use Rattle.conn_asks.specs.declared.events.ConnFault.{ConnFault}
use Rattle.conn_asks.specs.declared.events.Act.{Act}
use Rattle.conn_asks.specs.declared.events.Waits.{Waits}
use Rattle.conn_asks.specs.declared.events.Waits.TheVariants as waiting
use Rattle.conn_asks.specs.Asks.{is_bound}
use Rattle.conn_asks.specs.States.{ConnState, at_start, caller_of}
use Rattle.conn_histories.specs.Histories.{Event, Happens, Lives, seen}
use Rattle.conn_histories.specs.Requests.{ids_of}
use Rattle.replay_world.specs.declared.peer.Member.{Member}
use Rattle.replay_world.specs.declared.peer.Unanswered.{Unanswered}
use Rattle.replay_world.specs.declared.peer.Unanswered.TheVariants.{Nothing, Bind, Refused, Call}
use Rattle.replay_world.specs.declared.peer.Standing.{Standing}
use Rattle.replay_world.specs.Services.{Service}
use Rattle.replay_world.specs.Worlds.{Peer, World, home_of, past_of, journal}
use Rattle.rpc_base.specs.declared.identifiers.SyntaxId.{SyntaxId}
use Rattle.rpc_base.specs.declared.identifiers.Status.{Status}
use Rattle.rpc_base.specs.declared.identifiers.Order.{Order}
use Rattle.ndr_table.specs.Tables.{TableForm}
use Rattle.handle_model.specs.declared.reply.Reply.TheVariants as said
use Rattle.handle_model.specs.Journal.{waits, runs}
use Rattle.handle_model.specs.Replies.{replies}
use Rattle.conn_asks.specs.States.{Goes}
use Rattle.conn_histories.specs.Serving.{IsCallOff}
use Rattle.conn_histories.proofs.Along.{one_more, put_in_order}
use Rattle.conn_histories.proofs.Called.{calls_stay}
use Rattle.conn_histories.specs.Requests.{IsRefused}
use Rattle.conn_histories.specs.Requests.IsRefused.{no_operation, no_stub, no_room, full}
use Rattle.conn_histories.specs.Entries.{is_orphan, asked_as, has_left, is_open, is_running, turn_left}
use Rattle.conn_histories.specs.Events.{fate_reply, all_events}
use Rattle.conn_histories.specs.Stories.{IsDue, Made}
use Rattle.conn_turns.proofs.TaleFacts.{any_first}
use Rattle.conn_turns.proofs.Replying.{turns_are_replied}
use Rattle.replay_world.specs.Events.{is_over, lived}
use Rattle.replay_world.specs.Promised.{as_server}
use Rattle.conn_turns.proofs.Staged.{is_waiting, Stage}
use Rattle.conn_turns.proofs.Making.{called, IsPlain, made_plain}
use Rattle.conn_turns.proofs.Stepping.{staged}
use Rattle.conn_turns.specs.Quiet.{IsQuiet}
use Rattle.conn_turns.proofs.Hearing.{grouping_still}
use Rattle.conn_turns.specs.Done.{IsDone}
use Rattle.replay.proofs.Telling.{Front, Behind, BoundBy, is_gone, IsTold, TellsTurns}

-- ---- parts

pub bound_by : (mem : Option Member) (x : Unanswered) (m n : ConnState) → (is_bound m.past ≡ true → is_bound n.past ≡ true) → BoundBy mem x m → BoundBy mem x n
bound_by None Nothing m n f b = tt
bound_by None (Bind asked) m n f b = f b
bound_by None (Refused status) m n f b = tt
bound_by None (Call k) m n f b = tt
bound_by (Some g) Nothing m n f b = f b
bound_by (Some g) (Bind asked) m n f b = b
bound_by (Some g) (Refused status) m n f b = f b
bound_by (Some g) (Call k) m n f b = f b

-- of one that waits for no group
pub bound_in : (mem : Option Member) (x y : Unanswered) (m : ConnState) → ((asked : ℕ) → y ≡ Bind asked → ⊥) → ((asked : ℕ) → x ≡ Bind asked → ⊥) → BoundBy mem x m → BoundBy mem y m
bound_in None x Nothing m then_ before b = tt
bound_in None x (Bind asked) m then_ before b = absurd (then_ asked refl)
bound_in None x (Refused status) m then_ before b = tt
bound_in None x (Call k) m then_ before b = tt
bound_in (Some g) (Bind asked) y m then_ before b = absurd b
bound_in (Some g) Nothing Nothing m then_ before b = b
bound_in (Some g) Nothing (Bind asked) m then_ before b = absurd (then_ asked refl)
bound_in (Some g) Nothing (Refused s) m then_ before b = b
bound_in (Some g) Nothing (Call n) m then_ before b = b
bound_in (Some g) (Refused status) Nothing m then_ before b = b
bound_in (Some g) (Refused status) (Bind asked) m then_ before b = absurd (then_ asked refl)
bound_in (Some g) (Refused status) (Refused s) m then_ before b = b
bound_in (Some g) (Refused status) (Call n) m then_ before b = b
bound_in (Some g) (Call k) Nothing m then_ before b = b
bound_in (Some g) (Call k) (Bind asked) m then_ before b = absurd (then_ asked refl)
bound_in (Some g) (Call k) (Refused s) m then_ before b = b
bound_in (Some g) (Call k) (Call n) m then_ before b = b

abbrev pub not_off : Act → Type 0
not_off act = (id : ℕ) → IsCallOff id act → ⊥

-- the event behind those before it
module _ (service : Service) (end w b : World service.State) (p : Peer) (event : Event) (state : ConnState) (happens : Happens p.state event state) (t : TellsTurns service end w p false) where
  pub lives_on : Lives (at_start (ids_of service.tables)) (p.events ++ event ∷ []) state
  lives_on = one_more (at_start (ids_of service.tables)) p.state state p.events event t.lives happens

  pub seen_on : seen (p.events ++ event ∷ []) ≡ all_events t.turns ++ seen (event ∷ [])
  seen_on = (put_in_order p.events (event ∷ [])).0.saw ∙ ap (λ (l : List Event). l ++ seen (event ∷ [])) t.events

  pub built : (mem : Option Member) (x : Unanswered) (s : Standing) (turns : List Turn) → all_events t.turns ++ seen (event ∷ []) ≡ all_events turns → Behind s x turns state → BoundBy mem x state
      → IsTold service end b mem (is_gone s) turns → TellsTurns service end b (lived service (record p { member = mem; unanswered = x; standing = s }) event state) false
  built mem x s turns events behind bound told = record {
    turns = turns;
    lives = lives_on;
    events = seen_on ∙ events;
    behind = behind;
    bound = bound;
    told = told;
    rests = λ e. absurd cc;
  }

-- ---- what may be done

module _ (ids : List SyntaxId) (events : List Event) (m n : ConnState) (act : Act) (lives : Lives (at_start ids) events m) (goes : Goes m (Ok (Some act)) n) (turns : List Turn) where
  -- another act than one that calls off comes where nothing is waited for
  pub free_at : (x : Unanswered) → Front x turns m.waits → not_off act → (x ≡ Nothing) × AllByRecursion IsDone turns × (m.waits ≡ waiting.Nothing)
  free_at Nothing f other = (refl, f.0, f.1)
  free_at (Bind asked) f other = absurd (grouping_still m n act f.1 goes)
  free_at (Refused status) f other = absurd (other (caller_of f.0.joined).call_id (calls_stay ids events m n act (caller_of f.0.joined) f.0.joined.maybe lives f.1 goes).0)
  free_at (Call k) f other = absurd (other (caller_of f.0.joined).call_id (calls_stay ids events m n act (caller_of f.0.joined) f.0.joined.maybe lives f.1 goes).0)

pub front_same : (x : Unanswered) (turns : List Turn) (v w : Waits) → w ≡ v → Front x turns v → Front x turns w
front_same x turns v w e f = subst (Front x turns) (sym e) f

-- a turn without entries is told
pub plain_told : (service : Service) (end w : World service.State) (mem : Option Member) (gone : Bool) (t : Turn) (turns : List Turn) → ((c : ℕ) → IsPlain c t) → IsQuiet t
    → ((server : Server) (home : Home) (c : ℕ) (past : List Entry) → IsDue server home c past turns t) → IsTold service end w mem gone turns → IsTold service end w mem gone (t ∷ turns)
plain_told service end w None gone t turns plain quiet due told = ((quiet, told.0), (due (as_server service end) (home_of end 0) 0 [], told.1))
plain_told service end w (Some m) gone t turns plain quiet due told = (
  told.0,
  made_plain (as_server service end) (home_of end m.group) m.number (past_of w m.group) gone t turns told.0 (plain m.number) (due (as_server service end) (home_of end m.group) m.number (past_of w m.group)) told.1,
)

-- ---- the reply of a call that is over

over_tests : (a b : Bool) → not (a || b) ≡ true → (a ≡ false) × (b ≡ false)
over_tests true b h = absurd cc
over_tests false true h = absurd cc
over_tests false false h = (refl, refl)

open_tests : (a b : Bool) → not (a || b) ≡ false → (a ≡ true) ⊎ (b ≡ true)
open_tests true b h = inl refl
open_tests false true h = inr refl
open_tests false false h = absurd cc

ran_orphaned : (s : Said) (t : Bool) → (if t then said.Dropped else said.Ran s) ≢ said.Open
ran_orphaned s true e = absurd cc
ran_orphaned s false e = absurd cc

-- a call that is neither open nor running has a reply
pub fate_replied : (offs : List Off) (fate : Fate) → is_open fate ≡ false → is_running fate ≡ false → fate_reply offs fate ≢ said.Open
fate_replied offs Waiting o r = absurd cc
fate_replied offs (Denied slot) o r = λ e. absurd cc
fate_replied offs Cancelled o r = λ e. absurd cc
fate_replied offs Orphaned o r = λ e. absurd cc
fate_replied offs LeftWaiting o r = λ e. absurd cc
fate_replied offs (Running cookies) o r = absurd cc
fate_replied offs (LeftRunning cookies) o r = absurd cc
fate_replied offs (Ended run) o r = ran_orphaned run.said (list_any is_orphan offs)
fate_replied offs (LeftEnded run) o r = λ e. absurd cc

closed_fate : (fate : Fate) → has_left fate ≡ false → is_waiting fate ≡ false → is_running fate ≡ false → is_open fate ≡ false
closed_fate Waiting l w r = absurd cc
closed_fate (Running cookies) l w r = absurd cc
closed_fate (Denied slot) l w r = refl
closed_fate Cancelled l w r = refl
closed_fate Orphaned l w r = refl
closed_fate LeftWaiting l w r = refl
closed_fate (LeftRunning cookies) l w r = refl
closed_fate (Ended run) l w r = refl
closed_fate (LeftEnded run) l w r = refl

opened_fate : (fate : Fate) → has_left fate ≡ false → (is_waiting fate ≡ true) ⊎ (is_running fate ≡ true) → is_open fate ≡ true
opened_fate Waiting l h = refl
opened_fate (Running cookies) l h = refl
opened_fate (Denied slot) l (inl h) = absurd cc
opened_fate (Denied slot) l (inr h) = absurd cc
opened_fate Cancelled l (inl h) = absurd cc
opened_fate Cancelled l (inr h) = absurd cc
opened_fate Orphaned l (inl h) = absurd cc
opened_fate Orphaned l (inr h) = absurd cc
opened_fate LeftWaiting l h = absurd cc
opened_fate (LeftRunning cookies) l h = absurd cc
opened_fate (Ended run) l (inl h) = absurd cc
opened_fate (Ended run) l (inr h) = absurd cc
opened_fate (LeftEnded run) l h = absurd cc

-- by the turn, whether the server's word is due
module _ (server : Server) (home : Home) {S : Type 0} (w : World S) (m : Member) (j : Joined) (iface k : ℕ) (offs : List Off) (slots : List Slot) (fate : Fate) (ts : List Turn) (own : List Entry)
    (made : Made server home m.number (past_of w m.group) false (called j iface offs (deeds.Accepted k slots fate) None ∷ ts) own) where
  pub not_left : has_left fate ≡ false
  not_left = any_first (has_left fate) (list_any turn_left ts) (made.stand.none_left refl)

  pub stage_here : Stage (home_of w m.group) (past_of w m.group) k (asked_as m.number (record { joined = j; iface = iface; offs = offs; deed = deeds.Accepted k slots Waiting; answer = None }) slots) fate
  stage_here = staged server home (home_of w m.group) m.number false j iface k ts (past_of w m.group) offs slots fate own not_left made

  pub over_is : is_over w m k ≡ true → (is_open fate ≡ false) × (is_running fate ≡ false)
  over_is h =
      let both = over_tests (waits (journal w m.group) k) (runs (journal w m.group) k) h in
      let runs' : is_running fate ≡ false = sym stage_here.runs_is ∙ both.1 in
      (closed_fate fate not_left (sym stage_here.waits_is ∙ both.0) runs', runs')

  pub open_is : is_over w m k ≡ false → is_open fate ≡ true
  open_is h =
      opened_fate fate not_left
      (elim (open_tests (waits (journal w m.group) k) (runs (journal w m.group) k) h) [
        | inl a ↦ inl (sym stage_here.waits_is ∙ a)
        | inr a ↦ inr (sym stage_here.runs_is ∙ a)
      ])

  pub reply_here : replies (journal w m.group) k ≡ fate_reply offs fate
  reply_here = (turns_are_replied (home_of w m.group) m.number false (past_of w m.group) (called j iface offs (deeds.Accepted k slots fate) None ∷ ts) made.stand).0

pub quiet_called : (j : Joined) (iface : ℕ) (offs : List Off) (deed : Deed) (answer : Option (List ℕ)) (ts turns : List Turn) → turns ≡ called j iface offs deed answer ∷ ts → AllByRecursion IsQuiet turns → ⊥
quiet_called j iface offs deed answer ts turns is q = (subst (AllByRecursion IsQuiet) is q).0
