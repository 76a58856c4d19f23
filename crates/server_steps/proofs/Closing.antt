-- How a connection ended whose link is closed.
use Rattle.std.proofs.Common.{◌≡◌, ℕ, ◌≤◌, Bool, List, [], ◌++◌, refl, sym, ap, ◌∙◌, subst, append-nil}
use Rattle.std.specs.List.{AllByRecursion}
use Rattle.std.specs.Io.KnownBytes.{append_known, prepend_known}
use Rattle.rpc_base.specs.Causes.{Rose}
use Rattle.rpc_base.specs.Fields.{IsOctets}
use Rattle.rpc_base.specs.declared.identifiers.SyntaxId.{SyntaxId}
use Rattle.rpc_outside.specs.Links.{Shown, Closes, IsNothing}
use Rattle.handle_model.specs.declared.entry.Home.{Home}
use Rattle.handle_model.specs.declared.entry.Entry.{Entry}
use Rattle.conn_asks.specs.declared.events.ConnFault.{ConnFault}
use Rattle.conn_asks.specs.declared.events.Ask.{Ask}
use Rattle.conn_asks.specs.Asks.{AreAsksOf}
use Rattle.conn_asks.specs.States.{ConnState}
use Rattle.conn_core.specs.Fields.{IsAt}
use Rattle.conn_histories.specs.Histories.{stream}
use Rattle.conn_histories.specs.Plays.{negotiated_at_start}
use Rattle.conn_histories.proofs.Asking.{each_asks}
use Rattle.conn_histories.proofs.Comes.{leaves_all}
use Rattle.conn_histories.proofs.Goes.{come_all}
use Rattle.server_steps.specs.declared.wire.Wire.{Wire}
use Rattle.server_steps.specs.Wires.{Linked}
use Rattle.conn_histories.specs.declared.turn.Turn.{Turn}
use Rattle.conn_histories.specs.Tales.{StandAll}
use Rattle.conn_histories.specs.Answers.{Answers}
use Rattle.conn_turns.specs.AnswerLaws.{IsOver, AreAnswered}
use Rattle.conn_turns.proofs.Answering.{stories_answer}
use Rattle.server_ends.specs.declared.ended.Ending.{Ending}
use Rattle.server_ends.specs.declared.ended.Ending.TheVariants as ending
use Rattle.server_ends.specs.Links.{OnLink}
use Rattle.server_ends.specs.Endings.{IsWhole, AreAnswers, Because, EndsAs}
use Rattle.server_steps.specs.declared.stop.Stop.{Stop}
use Rattle.server_steps.specs.declared.stop.Stop.TheVariants as stop
use Rattle.server_steps.specs.Stops.{IsCutAs, IsEndedAs}
use Rattle.server_steps.specs.Told.{Halted, IsThrough}

on_link : (a b c : Shown) (came done : List ℕ) → Linked a b (came ++ []) done → Closes b c → OnLink a c came done
on_link a b c came done l s =
    let same : came ++ [] ≡ came = append-nil came in
    record {
      counts = record {
        faults = subst (λ (n : ℕ). a.faults ≤ n) (sym s.faults) l.counts.faults;
        quiets = subst (λ (n : ℕ). a.quiets ≤ n) (sym s.quiets) l.counts.quiets;
        ends = subst (λ (n : ℕ). a.ends ≤ n) (sym s.ends) l.counts.ends;
      };
      taken = s.taken ∙ (l.taken_is ∙ ap (append_known a.taken) same);
      left = l.left ∙ ((λ i. prepend_known (same i) b.left) ∙ ap (prepend_known came) (sym s.left));
      put_is = s.put ∙ l.put_is;
      closed = s.closed;
    }

module _ {K : Type 0} (shows : K → Shown) (ids : List SyntaxId) (home : Home) (c : ℕ) (gone : Bool) (past : List Entry) (turns : List Turn) (w : Wire K) (k : K) (closes : Closes (shows w.link) (shows k)) where
  module _ (why : Stop) (h : Halted shows ids w why turns) (stand : StandAll c gone past turns) (over : AllByRecursion IsOver turns) where
    octets : IsOctets (stream h.events)
    octets = subst IsOctets (append-nil (stream h.events)) h.stopped.octets

    abbrev all_asks : (asked : List Ask) × AreAsksOf (stream h.events) asked
    all_asks = each_asks (stream h.events) octets

    answered : AreAnswered ids home past h.events h.state all_asks.0 turns
    answered = stories_answer ids home c gone past h.events h.state all_asks.0 turns h.stopped.lives all_asks.1 h.seen_is stand over

    -- a front is answered
    partly : (e : Ending) → (IsWhole e → ⊥) → AreAnswers ids home past turns e (stream h.events) h.stopped.done
    partly e part = record {
      asked = all_asks.0;
      asks = all_asks.1;
      done = answered.done;
      left = answered.left;
      front = answered.front;
      rest = h.pending;
      answers = subst (Answers home past (negotiated_at_start ids) answered.done turns) h.stopped.puts answered.answers;
      all = λ x. absurd (part x);
    }

    -- all is
    wholly : (e : Ending) → IsThrough shows ids turns h.state h.pending → AreAnswers ids home past turns e (stream h.events) h.stopped.done
    wholly e through = record {
      asked = all_asks.0;
      asks = all_asks.1;
      done = all_asks.0;
      left = [];
      front = sym (append-nil all_asks.0);
      rest = [];
      answers = subst (Answers home past (negotiated_at_start ids) all_asks.0 turns) (h.stopped.puts ∙ ap (λ l. h.stopped.done ++ l) through.none_left) (answered.all through.asked);
      all = λ x. (refl, refl);
    }

    ends_so : (e : Ending) → AreAnswers ids home past turns e (stream h.events) h.stopped.done → Because e (shows w.first.value) (shows k) (stream h.events) turns → EndsAs ids home past turns (shows w.first.value) e (shows k)
    ends_so e answers because = record {
      came = stream h.events;
      put = h.stopped.done;
      link = on_link (shows w.first.value) (shows w.link) (shows k) (stream h.events) h.stopped.done h.stopped.linked closes;
      answers = answers;
      because = because;
    }

  pub ends_failed : Halted shows ids w stop.Failed turns → StandAll c gone past turns → AllByRecursion IsOver turns → EndsAs ids home past turns (shows w.first.value) ending.LinkFault (shows k)
  ends_failed h stand over =
      ends_so stop.Failed h stand over ending.LinkFault (partly stop.Failed h stand over ending.LinkFault (λ x. x)) (subst (λ (n : ℕ). Rose (shows w.first.value).faults n) (sym closes.faults) h.cause)

  pub ends_short : (why : Stop) → Halted shows ids w why turns → StandAll c gone past turns → AllByRecursion IsOver turns → EndsAs ids home past turns (shows w.first.value) ending.Memory (shows k)
  ends_short why h stand over = ends_so why h stand over ending.Memory (partly why h stand over ending.Memory (λ x. x)) tt

  pub ends_refused : (f : ConnFault) → Halted shows ids w (stop.Refused f) turns → StandAll c gone past turns → AllByRecursion IsOver turns → EndsAs ids home past turns (shows w.first.value) (ending.Refused f) (shows k)
  ends_refused f h stand over = ends_so (stop.Refused f) h stand over (ending.Refused f) (wholly (stop.Refused f) h stand over (ending.Refused f) h.cause.1) h.cause.0

  -- the peer ended
  pub ends_ended : (e : Ending) → ((m : ConnState) → IsAt w.conn m → IsCutAs m.rest e) → Halted shows ids w stop.Ended turns → StandAll c gone past turns → AllByRecursion IsOver turns
      → EndsAs ids home past turns (shows w.first.value) e (shows k)
  ends_ended e cut h stand over = by e (cut h.state h.cause.1)
    where
      rose : Rose (shows w.first.value).ends (shows k).ends
      rose = subst (λ (n : ℕ). Rose (shows w.first.value).ends n) (sym closes.ends) h.cause.0.0

      nothing : IsNothing (shows k).left
      nothing = subst IsNothing (sym closes.left) h.cause.0.1

      by : (x : Ending) → IsCutAs h.state.rest x → EndsAs ids home past turns (shows w.first.value) x (shows k)
      by ending.Closed u =
          ends_so stop.Ended h stand over ending.Closed (wholly stop.Ended h stand over ending.Closed h.cause.3)
          (record { rose = rose; nothing = nothing; unclosed = h.cause.2; uncut = leaves_all (stream h.events) h.state 0 (come_all ids h.events h.state h.stopped.lives) u })
      by (ending.Cut count) u =
          ends_so stop.Ended h stand over (ending.Cut count) (wholly stop.Ended h stand over (ending.Cut count) h.cause.3)
          (u.0, record { rose = rose; nothing = nothing; unclosed = h.cause.2; uncut = leaves_all (stream h.events) h.state count (come_all ids h.events h.state h.stopped.lives) u.1 })
      by ending.Memory u = ends_short stop.Ended h stand over
      by ending.LinkFault u = absurd u
      by (ending.Refused f) u = absurd u

  pub ends_closed : (why : Stop) (e : Ending) → IsEndedAs why (λ x. (m : ConnState) → IsAt w.conn m → IsCutAs m.rest x) e → Halted shows ids w why turns → StandAll c gone past turns → AllByRecursion IsOver turns
      → EndsAs ids home past turns (shows w.first.value) e (shows k)
  ends_closed stop.Ended e is h stand over = ends_ended e is h stand over
  ends_closed stop.Failed e is h stand over = subst (λ (x : Ending). EndsAs ids home past turns (shows w.first.value) x (shows k)) (sym is) (ends_failed h stand over)
  ends_closed (stop.Refused f) e is h stand over = subst (λ (x : Ending). EndsAs ids home past turns (shows w.first.value) x (shows k)) (sym is) (ends_refused f h stand over)
  ends_closed stop.Memory e is h stand over = subst (λ (x : Ending). EndsAs ids home past turns (shows w.first.value) x (shows k)) (sym is) (ends_short stop.Memory h stand over)
