-- Each connection of a replay is served.
use Rattle.std.proofs.Common.{◌≡◌, ◌≢◌, ◌==◌, ℕ, zero, suc, ◌≤◌, Bool, true, false, if◌then◌else◌, Option, Some, None, List, [], ◌∷◌, ◌++◌, refl, sym, ap, subst, ◌∙◌, inl, inr, arith}
use Rattle.std.specs.List.{list_any, AllByRecursion}
use Rattle.replay_world.specs.declared.peer.Member.{Member}
use Rattle.replay_world.specs.declared.peer.Unanswered.{Unanswered}
use Rattle.replay_world.specs.declared.peer.Unanswered.TheVariants.{Nothing, Bind, Refused, Call}
use Rattle.replay_world.specs.declared.peer.Standing.{Standing}
use Rattle.replay_world.specs.declared.peer.Standing.TheVariants.{Open, Closed, Lost}
use Rattle.replay_world.specs.Services.{Service}
use Rattle.replay_world.specs.Worlds.{Peer, World, home_of, past_of}
use Rattle.replay_world.specs.Moments.{AreSound}
use Rattle.handle_model.specs.declared.entry.Entry.{Entry}
use Rattle.rpc_base.specs.Fields.{IsOctets}
use Rattle.conn_asks.specs.declared.events.Ask.{Ask}
use Rattle.conn_asks.specs.Asks.{AreAsksOf}
use Rattle.conn_asks.specs.States.{ConnState}
use Rattle.conn_histories.specs.Histories.{stream, put}
use Rattle.conn_histories.specs.Plays.{negotiated_at_start}
use Rattle.conn_histories.proofs.Asking.{each_asks}
use Rattle.conn_histories.specs.Requests.{ids_of}
use Rattle.conn_histories.specs.declared.turn.Turn.{Turn}
use Rattle.conn_histories.specs.declared.turn.Turn.TheVariants.{Binding, Bound, NotBound, Answered, Called, Closed as ClosedTurn}
use Rattle.conn_histories.specs.Entries.{turn_runs}
use Rattle.conn_histories.specs.Tales.{StandAll}
use Rattle.conn_histories.specs.Answers.{Answers}
use Rattle.conn_turns.specs.AnswerLaws.{IsOver, IsAllAsked}
use Rattle.conn_turns.proofs.Answering.{stories_answer}
use Rattle.replay_script.specs.declared.line.Line.{Line}
use Rattle.replay_script.specs.declared.line.Line.TheVariants as lines
use Rattle.replay_script.specs.Lines.{FitLines}
use Rattle.replay_world.specs.Printing.{answered_on}
use Rattle.replay_world.specs.Promised.{sent_to, IsAnsweredIn}
use Rattle.replay_world.proofs.Peers.{found_name}
use Rattle.replay.specs.Laws.{EachIsServedWhereSound, ReplaysServeAll}
use Rattle.conn_turns.proofs.StepEnding.{quiet_all}
use Rattle.conn_turns.proofs.Done.{done_over}
use Rattle.replay.proofs.Telling.{Behind, IsTold, TellsTurns, is_gone}
use Rattle.replay.proofs.Heard.{CameTo, puts}
use Rattle.replay.proofs.ClosedStories.{ends_over, ends_heard}

-- ---- octets

pub octets_both : (a b : List ℕ) → IsOctets a → IsOctets b → IsOctets (a ++ b)
octets_both [] b h k i = k i
octets_both (x ∷ a) b h k zero = h zero
octets_both (x ∷ a) b h k (suc i) = octets_both a b (λ j. h (suc j)) k i

octets_front : (a b : List ℕ) → IsOctets (a ++ b) → IsOctets a
octets_front [] b h i = omega arith
octets_front (x ∷ a) b h zero = h zero
octets_front (x ∷ a) b h (suc i) = octets_front a b (λ j. h (suc j)) i

none_octets : IsOctets []
none_octets i = omega arith

if_octets : (b : Bool) (octets : List ℕ) → IsOctets octets → IsOctets (if b then octets else [])
if_octets true octets h = h
if_octets false octets h = none_octets

pub sent_octets : (c : ℕ) (ls : List Line) → FitLines ls → IsOctets (sent_to c ls)
sent_octets c [] h = none_octets
sent_octets c (lines.Boot word ∷ more) h = sent_octets c more h.1
sent_octets c (lines.Open d ∷ more) h = sent_octets c more h.1
sent_octets c (lines.Send d octets ∷ more) h = octets_both (if d == c then octets else []) (sent_to c more) (if_octets (d == c) octets h.0.1) (sent_octets c more h.1)
sent_octets c (lines.Run d ∷ more) h = sent_octets c more h.1
sent_octets c (lines.Finish d ∷ more) h = sent_octets c more h.1
sent_octets c (lines.Lose d ∷ more) h = sent_octets c more h.1

-- ---- the turns of a connection that is no longer there

all_over : (s : Standing) (x : Unanswered) (turns : List Turn) (m : ConnState) → s ≢ Open → Behind s x turns m → AllByRecursion IsOver turns × IsAllAsked m turns
all_over Open x turns m gone b = absurd (gone refl)
all_over Closed x turns m gone b = (done_over turns b.2, inr (inl b.1))
all_over Lost Nothing turns m gone b = (done_over turns b.0, inl (b.1, b.2))
all_over Lost (Bind asked) turns m gone b = absurd b
all_over Lost (Refused status) turns m gone b = absurd b
all_over Lost (Call k) turns m gone b =
    let a = b.0 in
    subst (λ (ts : List Turn). AllByRecursion IsOver ts × IsAllAsked m ts) (sym a.is) ((b.1, done_over a.older a.done), inr (inr refl))

gone_is : (s : Standing) → s ≢ Open → is_gone s ≡ true
gone_is Open gone = absurd (gone refl)
gone_is Closed gone = refl
gone_is Lost gone = refl

module _ (service : Service) (end : World service.State) (p : Peer) (ends : AreSound end) (gone : p.standing ≢ Open) (t : TellsTurns service end end p true) (none : list_any turn_runs t.turns ≡ false) (asked : List Ask) (asks : AreAsksOf (stream p.events) asked) where
  over : AllByRecursion IsOver t.turns × IsAllAsked p.state t.turns
  over = all_over p.standing p.unanswered t.turns p.state gone t.behind

  answered_by : (c : ℕ) (g : ℕ) (past : List Entry) (left : Bool) → StandAll c left past t.turns → Answers (home_of end g) past (negotiated_at_start (ids_of service.tables)) asked t.turns (put p.events)
  answered_by c g past left stand =
      (stories_answer (ids_of service.tables) (home_of end g) c left past p.events p.state asked t.turns t.lives asks t.events stand over.0).all over.1

  answered : (mem : Option Member) → p.member ≡ mem → ((m : Member) → mem ≡ Some m → 1 ≤ m.group) → IsTold service end end mem true t.turns → IsAnsweredIn service end p asked t.turns mem
  answered None is low s = (s.1, answered_by 0 0 [] true (quiet_all 0 true [] t.turns refl s.0))
  answered (Some m) is low s = (
    ends m.group (low m refl),
    (s.0, record { made = s.1; none_runs = none }),
    answered_by m.number m.group (past_of end m.group) true s.1.stand,
  )

  pub is_answered : ((m : Member) → p.member ≡ Some m → 1 ≤ m.group) → IsAnsweredIn service end p asked t.turns p.member
  is_answered low = answered p.member refl low (subst (λ (b : Bool). IsTold service end end p.member b t.turns) (gone_is p.standing gone) t.told)

pub each_is_served : (service : Service) → EachIsServedWhereSound service
each_is_served service lines end c p fits ends sound at =
    let o = ends_over service lines end ends sound in
    let h = ends_heard service lines end ends in
    let q = o.quiet c p at in
    let named : p.name ≡ c = found_name c end.peers p at in
    let came : CameTo (sent_to c lines) (Some p) = subst (CameTo (sent_to c lines)) at (h.came c) in
    let octets : IsOctets (stream p.events) = octets_front (stream p.events) came.0 (subst IsOctets came.1 (sent_octets c lines fits)) in
    let asked = each_asks (stream p.events) octets in
    record {
      late = came.0;
      came = ap (λ (n : ℕ). sent_to n lines) named ∙ came.1;
      in_time = came.2;
      asked = asked.0;
      asks = asked.1;
      turns = q.tells.turns;
      answered = is_answered service end p sound (o.none_open c p at) q.tells (q.none tt) asked.0 asked.1 (λ m e. o.coheres.grouped c p m (record { there = at; member = e }));
      printed = ap (λ (n : ℕ). answered_on n end.out) named ∙ (h.printed c ∙ ap puts at);
    }

pub replays_serve_all : (service : Service) → ReplaysServeAll service
replays_serve_all service text out log r sound = record {
  replays = r;
  sound = sound;
  served = λ c p at. each_is_served service r.lines r.end c p r.fits r.ends sound at;
}
