-- What was done and answered on a connection, behind one call on its wire more.
use Rattle.std.proofs.Common.{◌≡◌, ℕ, Bool, true, false, None, Ok, Err, List, [], ◌∷◌, ◌++◌, refl, sym, ap, ◌∙◌, subst, append-nil, inl, inr}
use Rattle.std.specs.List.{list_any}
use Rattle.rpc_base.specs.declared.identifiers.SyntaxId.{SyntaxId}
use Rattle.rpc_base.specs.declared.fault.Failed.{Failed}
use Rattle.rpc_base.specs.Fields.{IsOctets}
use Rattle.rpc_outside.specs.Links.{Shown}
use Rattle.conn_asks.specs.declared.events.Waits.{Waits}
use Rattle.conn_asks.specs.declared.events.Waits.TheVariants.{Nothing}
use Rattle.conn_asks.specs.Asks.{is_bound}
use Rattle.conn_asks.specs.States.{ConnState, at_start, with_octets, Goes}
use Rattle.conn_histories.specs.Histories.{Decision, Event, AnswersDecision, IsAtRest, stream, seen, put}
use Rattle.conn_histories.specs.Histories.Event.{Came, Paused, Decided}
use Rattle.conn_histories.proofs.Along.{one_more, put_in_order}
use Rattle.server_steps.specs.declared.wire.Wire.{Wire}
use Rattle.server_steps.specs.declared.wire.Heard.TheVariants as heard
use Rattle.server_steps.specs.declared.wire.Fault.TheVariants as fault
use Rattle.server_steps.specs.Wires.{Linked, Lived, Stopped, Hears, Puts, Decides}
use Rattle.conn_histories.specs.declared.turn.Turn.{Turn}
use Rattle.conn_histories.specs.Events.{all_events}
use Rattle.conn_turns.specs.AnswerLaws.{IsAllAsked}
use Rattle.conn_turns.proofs.Hearing.{paused_waits, bound_stays, paused_unbound}
use Rattle.server_ends.specs.Endings.{closes}
use Rattle.server_steps.specs.declared.stop.Stop.TheVariants as stop
use Rattle.server_steps.specs.Told.{Told, Halted}

-- ---- what is seen of one event more

pub seen_more : (events : List Event) (turns : List Turn) (e : Event) → seen events ≡ all_events turns → seen (events ++ e ∷ []) ≡ all_events turns ++ seen (e ∷ [])
seen_more events turns e is = (put_in_order events (e ∷ [])).0.saw ∙ ap (λ l. l ++ seen (e ∷ [])) is

pub seen_same : (events : List Event) (turns : List Turn) (e : Event) → seen (e ∷ []) ≡ [] → seen events ≡ all_events turns → seen (events ++ e ∷ []) ≡ all_events turns
seen_same events turns e none is = seen_more events turns e is ∙ (ap (λ l. all_events turns ++ l) none ∙ append-nil (all_events turns))

-- whether a bind came, where nothing is done
bound_kept : (m n : ConnState) (waits : Waits) (bound : Bool) → (bound ≡ false → waits ≡ Nothing) → m.waits ≡ waits → is_bound m.past ≡ bound → Goes m (Ok None) n → is_bound n.past ≡ bound
bound_kept m n waits true free w b g = bound_stays m n Paused g b
bound_kept m n waits false free w b g = paused_unbound m n (w ∙ free refl) b g

module _ {K : Type 0} (shows : K → Shown) (ids : List SyntaxId) where
  -- ---- it goes on

  told_lived : (w : Wire K) (turns : List Turn) (waits : Waits) (bound : Bool) (events : List Event) (m : ConnState) → Lived shows ids w events m [] → seen events ≡ all_events turns → m.waits ≡ waits → is_bound m.past ≡ bound
      → list_any closes turns ≡ false → Told shows ids w turns waits bound []
  told_lived w turns waits bound events m l s h b u = record { events = events; state = m; lived = l; seen_is = s; waits_is = h; bound_is = b; unclosed = u }

  module _ (v w : Wire K) (turns : List Turn) (waits : Waits) (bound : Bool) (free : bound ≡ false → waits ≡ Nothing) (t : Told shows ids v turns waits bound []) where
    pub quiet : Hears shows ids t.events t.state heard.Nothing w → Told shows ids w turns waits bound []
    quiet (n, g, inl l) =
        told_lived w turns waits bound (t.events ++ Paused ∷ []) n l (seen_same t.events turns Paused refl t.seen_is) (paused_waits t.state n g ∙ t.waits_is)
        (bound_kept t.state n waits bound free t.waits_is t.bound_is g) t.unclosed
    quiet (n, g, inr l) =
        told_lived w turns waits bound ((t.events ++ Paused ∷ []) ++ Came l.0 ∷ []) (with_octets n l.0) l.1
        (seen_same (t.events ++ Paused ∷ []) turns (Came l.0) refl (seen_same t.events turns Paused refl t.seen_is)) (paused_waits t.state n g ∙ t.waits_is)
        (bound_kept t.state n waits bound free t.waits_is t.bound_is g) t.unclosed

  -- ---- it doesn't go on

  came_none : (events : List Event) (e : Event) → stream (e ∷ []) ≡ [] → stream (events ++ e ∷ []) ≡ stream events
  came_none events e none = (put_in_order events (e ∷ [])).0.came ∙ (ap (λ l. stream events ++ l) none ∙ append-nil (stream events))

  pub stopped_so : (w : Wire K) (events : List Event) (m : ConnState) (pending : List ℕ) → Lived shows ids w events m pending → Stopped shows ids w events m pending []
  stopped_so w events m pending l = record {
    lives = l.lives;
    octets = subst IsOctets (sym (append-nil (stream events))) l.octets;
    done = l.done;
    linked = subst (λ s. Linked (shows w.first.value) (shows w.link) s l.done) (sym (append-nil (stream events))) l.linked;
    puts = l.puts;
  }

  -- octets that were lost came all the same
  lost_came : (w : Wire K) (events : List Event) (m : ConnState) (piece : List ℕ) → Stopped shows ids w events m [] piece → Stopped shows ids w (events ++ Came piece ∷ []) (with_octets m piece) [] []
  lost_came w events m piece s =
      let both = (put_in_order events (Came piece ∷ [])).0 in
      let came : stream events ++ piece ≡ stream (events ++ Came piece ∷ []) ++ [] = sym (append-nil (stream (events ++ Came piece ∷ [])) ∙ (both.came ∙ ap (λ l. stream events ++ l) (append-nil piece))) in
      record {
        lives = one_more (at_start ids) m (with_octets m piece) events (Came piece) s.lives refl;
        octets = subst IsOctets came s.octets;
        done = s.done;
        linked = subst (λ l. Linked (shows w.first.value) (shows w.link) l s.done) came s.linked;
        puts = both.puts ∙ (append-nil (put events) ∙ s.puts);
      }

  -- what there is no memory to put is what would have been
  unput : (w : Wire K) (events : List Event) (m n : ConnState) (decision : Decision) (octets : List ℕ) → Lived shows ids w events m [] → AnswersDecision m decision octets n
      → Stopped shows ids w (events ++ Decided decision octets ∷ []) n octets []
  unput w events m n decision octets l answers =
      let both = (put_in_order events (Decided decision octets ∷ [])).0 in
      let came : stream events ≡ stream (events ++ Decided decision octets ∷ []) ++ [] = sym (append-nil (stream (events ++ Decided decision octets ∷ [])) ∙ came_none events (Decided decision octets) refl) in
      record {
        lives = one_more (at_start ids) m n events (Decided decision octets) l.lives answers;
        octets = subst IsOctets came l.octets;
        done = l.done;
        linked = subst (λ s. Linked (shows w.first.value) (shows w.link) s l.done) came l.linked;
        puts = both.puts ∙ ((λ i. (l.puts ∙ append-nil l.done) i ++ append-nil octets i));
      }

  module _ (v w : Wire K) (turns later : List Turn) (waits : Waits) (bound : Bool) (same : all_events later ≡ all_events turns) (t : Told shows ids v turns waits bound []) where
    pub halts_failed : Hears shows ids t.events t.state (heard.Stop fault.Failed) w → Halted shows ids w stop.Failed later
    halts_failed h = record {
      events = t.events ++ Paused ∷ [];
      state = h.0;
      pending = [];
      stopped = stopped_so w (t.events ++ Paused ∷ []) h.0 [] h.2;
      seen_is = seen_same t.events turns Paused refl t.seen_is ∙ sym same;
      cause = h.3;
    }

    pub halts_memory : Hears shows ids t.events t.state (heard.Stop fault.Memory) w → Halted shows ids w stop.Memory later
    halts_memory (inl s) = record { events = t.events; state = t.state; pending = []; stopped = s; seen_is = t.seen_is ∙ sym same; cause = tt }
    halts_memory (inr h) = record {
      events = (t.events ++ Paused ∷ []) ++ Came h.2.0 ∷ [];
      state = with_octets h.0 h.2.0;
      pending = [];
      stopped = lost_came w (t.events ++ Paused ∷ []) h.0 h.2.0 h.2.1;
      seen_is = seen_same (t.events ++ Paused ∷ []) turns (Came h.2.0) refl (seen_same t.events turns Paused refl t.seen_is) ∙ sym same;
      cause = tt;
    }

    pub halts_end : list_any closes later ≡ false → ((n : ConnState) → n.waits ≡ waits → IsAtRest n → IsAllAsked n later) → Hears shows ids t.events t.state heard.End w → Halted shows ids w stop.Ended later
    halts_end unclosed all h = record {
      events = t.events ++ Paused ∷ [];
      state = h.0;
      pending = [];
      stopped = stopped_so w (t.events ++ Paused ∷ []) h.0 [] h.2;
      seen_is = seen_same t.events turns Paused refl t.seen_is ∙ sym same;
      cause = (h.3, h.2.at, unclosed, record { asked = all h.0 (paused_waits t.state h.0 h.1 ∙ t.waits_is) h.1.2; none_left = refl });
    }

  -- ---- octets of an act are put

  pub told_put : (v w : Wire K) (turns : List Turn) (waits : Waits) (bound : Bool) (octets : List ℕ) (t : Told shows ids v turns waits bound octets) → Lived shows ids w t.events t.state [] → Told shows ids w turns waits bound []
  told_put v w turns waits bound octets t l = told_lived w turns waits bound t.events t.state l t.seen_is t.waits_is t.bound_is t.unclosed

  pub halts_put : (w : Wire K) (turns : List Turn) (events : List Event) (m : ConnState) (e : Failed) → seen events ≡ all_events turns → Puts shows ids events m (Err e) w → Halted shows ids w stop.Failed turns
  halts_put w turns events m e is h = record { events = events; state = m; pending = h.0; stopped = stopped_so w events m h.0 h.1; seen_is = is; cause = h.2 }

  -- ---- what the server decides is put

  module _ (w : Wire K) (later : List ℕ → List Turn) (events : List Event) (m : ConnState) (decision : Decision) (is : (octets : List ℕ) → seen events ++ Decided decision octets ∷ [] ≡ all_events (later octets)) where
    pub halts_decided : (h : Decides shows ids events m decision (Err fault.Failed) w) → Halted shows ids w stop.Failed (later h.0)
    halts_decided h = record {
      events = events ++ Decided decision h.0 ∷ [];
      state = h.1;
      pending = h.3.0;
      stopped = stopped_so w (events ++ Decided decision h.0 ∷ []) h.1 h.3.0 h.3.1;
      seen_is = (put_in_order events (Decided decision h.0 ∷ [])).0.saw ∙ is h.0;
      cause = h.3.2;
    }

    pub halts_unput : (octets : List ℕ) (n : ConnState) → AnswersDecision m decision octets n → Lived shows ids w events m [] → Halted shows ids w stop.Memory (later octets)
    halts_unput octets n answers l = record {
      events = events ++ Decided decision octets ∷ [];
      state = n;
      pending = octets;
      stopped = unput w events m n decision octets l answers;
      seen_is = (put_in_order events (Decided decision octets ∷ [])).0.saw ∙ is octets;
      cause = tt;
    }
