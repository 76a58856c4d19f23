-- Where a connection comes to, by what it hears.
use Rattle.std.proofs.Common.{◌≡◌, ℕ, Bool, true, false, Option, Some, Ok, List, [], ◌∷◌, ◌++◌, refl, sym, ap, ◌∙◌, subst, inl, inr}
use Rattle.rpc_outside.specs.Links.{Shown}
use Rattle.handle_model.specs.declared.entry.Asked.{Asked}
use Rattle.hub_story.specs.Histories.{home_of}
use Rattle.group_hub.specs.declared.hub.Hub.{Hub}
use Rattle.group_hub.specs.declared.pass.Pass.{Pass}
use Rattle.hub_shard.specs.declared.answer.Retired.{Retired}
use Rattle.ndr_table.specs.Tables.{TableForm}
use Rattle.manager_api.specs.Answers.{Ans}
use Rattle.manager_api.specs.Calls.{Call}
use Rattle.conn_asks.specs.declared.events.Caller.{Caller}
use Rattle.conn_asks.specs.declared.events.Act.{Act}
use Rattle.conn_asks.specs.declared.events.Act.TheVariants as acts
use Rattle.conn_asks.specs.declared.events.Waits.TheVariants as waits
use Rattle.conn_asks.specs.States.{ConnState, caller_of, Goes}
use Rattle.conn_histories.specs.Histories.{Event, act_octets}
use Rattle.conn_histories.specs.Histories.Event.{Did}
use Rattle.conn_histories.proofs.Called.{calls_stay, others_free}
use Rattle.conn_histories.specs.Serving.{IsCallOff}
use Rattle.server_steps.specs.declared.wire.Wire.{Wire}
use Rattle.server_steps.specs.declared.wire.Heard.{Heard}
use Rattle.server_steps.specs.declared.wire.Heard.TheVariants as heard
use Rattle.server_steps.specs.declared.wire.Fault.TheVariants as fault
use Rattle.server_steps.specs.Wires.{Lived, Hears}
use Rattle.conn_histories.specs.Requests.{ids_of}
use Rattle.conn_histories.specs.declared.turn.Off.{Off}
use Rattle.conn_histories.specs.declared.turn.Off.TheVariants as off
use Rattle.conn_histories.specs.declared.turn.Fate.TheVariants.{LeftWaiting}
use Rattle.conn_histories.specs.declared.turn.Deed.TheVariants.{Pending, Accepted}
use Rattle.conn_histories.specs.declared.turn.Turn.{Turn}
use Rattle.conn_histories.specs.declared.turn.Turn.TheVariants.{Binding, Bound, NotBound, Answered, Called, Closed}
use Rattle.conn_histories.specs.Entries.{entries_of}
use Rattle.conn_histories.specs.Events.{act_off, all_events}
use Rattle.conn_histories.specs.Stories.{Server, IsDue}
use Rattle.conn_turns.proofs.Hearing.{calls_wait, bind_once, bind_binds, bound_stays, early_act}
use Rattle.conn_turns.proofs.Making.{IsPlain, plain_pending, made_plain}
use Rattle.conn_turns.proofs.Plain.{plain_answer, one_more_off}
use Rattle.server_ends.specs.Finishes.{opened_by, retired_in}
use Rattle.server_steps.specs.declared.line.Line.{Line}
use Rattle.server_steps.specs.Held.{past_at, Held}
use Rattle.server_steps.specs.Early.{IsEarly, HeardEarly}
use Rattle.server_steps.specs.Lines.{server, IsReady}
use Rattle.server_steps.specs.Calls.{request, IsWaiting, IsCalledOff}
use Rattle.server_steps.specs.Steps.{HeardReady, HeardWaiting}
use Rattle.server_steps.proofs.Telling.{seen_more, quiet, halts_failed, halts_memory, halts_end}

-- which opens no group
opens_none : (c : ℕ) (t : Turn) (turns : List Turn) → entries_of c t ≡ [] → opened_by (t ∷ turns) ≡ opened_by turns
opens_none c (Binding asked) turns none = refl
opens_none c (Bound asked group octets) turns none = absurd cc
opens_none c (NotBound asked reason octets) turns none = refl
opens_none c (Answered octets) turns none = refl
opens_none c (Called r) turns none = refl
opens_none c (Closed octets fault) turns none = refl

-- a turn without entries
pub held_plain : (s : Server) (boot : ℕ) (p q : Pass) (g c : ℕ) (retired : Option Retired) (t : Turn) (turns : List Turn) → IsPlain c t → IsDue s (home_of boot g) c (past_at q g) turns t
    → Held s boot p q g c retired false turns → Held s boot p q g c retired false (t ∷ turns)
held_plain s boot p q g c retired t turns plain due h = record {
  items = h.items;
  grown = h.grown;
  mine = h.mine;
  own = h.own;
  others = h.others;
  joined = h.joined;
  made = made_plain s (home_of boot g) c (past_at q g) false t turns h.mine plain due h.made;
  retired_is = h.retired_is;
  marks_are = h.marks_are ∙ sym (ap (λ l. retired_in retired ++ l) (opens_none c t turns plain.entries));
}

pub no_off : (id : ℕ) (act : Act) → ((act ≡ acts.Cancel id) → ⊥) → ((act ≡ acts.Orphan id) → ⊥) → IsCallOff id act → ⊥
no_off id act a b (inl e) = a e
no_off id act a b (inr e) = b e

module _ {K : Type 0} (shows : K → Shown) (tables : List TableForm) where
  abbrev pub Listens : Wire K → Heard → Wire K → Type 0
  Listens v h w = (events : List Event) (m : ConnState) → Lived shows (ids_of tables) v events m [] → Hears shows (ids_of tables) events m h w

  -- ---- before a bind

  pub heard_early : (v w : Wire K) (h : Heard) → IsEarly shows tables v → Listens v h w → HeardEarly shows tables h w
  heard_early v w (heard.Does (acts.Group asked)) t l =
      let h = l t.events t.state t.lived in
      record {
        waits = h.0.waits;
        grouping = (others_free t.state h.0 (acts.Group asked) t.waits_is h.1).1;
        told = record {
          events = t.events ++ Did (acts.Group asked) ∷ [];
          state = h.0;
          lived = h.2;
          seen_is = seen_more t.events [] (Did (acts.Group asked)) t.seen_is;
          waits_is = refl;
          bound_is = bind_binds t.state h.0 asked h.1;
          unclosed = refl;
        };
      }
  heard_early v w (heard.Does (acts.Close octets f)) t l =
      let h = l t.events t.state t.lived in
      record {
        events = t.events ++ Did (acts.Close octets f) ∷ [];
        state = h.0;
        lived = h.2;
        seen_is = seen_more t.events [] (Did (acts.Close octets f)) t.seen_is;
        over = (others_free t.state h.0 (acts.Close octets f) t.waits_is h.1).1;
      }
  heard_early v w (heard.Does (acts.Answer octets)) t l = let h = l t.events t.state t.lived in early_act t.state h.0 (acts.Answer octets) t.waits_is t.bound_is h.1
  heard_early v w (heard.Does (acts.Call j iface)) t l = let h = l t.events t.state t.lived in early_act t.state h.0 (acts.Call j iface) t.waits_is t.bound_is h.1
  heard_early v w (heard.Does (acts.Cancel id)) t l = let h = l t.events t.state t.lived in early_act t.state h.0 (acts.Cancel id) t.waits_is t.bound_is h.1
  heard_early v w (heard.Does (acts.Orphan id)) t l = let h = l t.events t.state t.lived in early_act t.state h.0 (acts.Orphan id) t.waits_is t.bound_is h.1
  heard_early v w heard.Nothing t l = quiet shows (ids_of tables) v w [] waits.Nothing false (λ e. refl) t (l t.events t.state t.lived)
  heard_early v w heard.End t l = halts_end shows (ids_of tables) v w [] [] waits.Nothing false refl t refl (λ n free rest. inl (free, rest)) (l t.events t.state t.lived)
  heard_early v w (heard.Stop fault.Failed) t l = halts_failed shows (ids_of tables) v w [] [] waits.Nothing false refl t (l t.events t.state t.lived)
  heard_early v w (heard.Stop fault.Memory) t l = halts_memory shows (ids_of tables) v w [] [] waits.Nothing false refl t (l t.events t.state t.lived)

module _ {K : Type 0} (shows : K → Shown) (may : Call → Bool → Ans → Type 0) (tables : List TableForm) (hub : Hub) where
  -- ---- while every request is answered

  pub heard_ready : (l : Line K) (w : Wire K) (h : Heard) → IsReady shows may tables hub l → Listens shows tables l.wire h w → HeardReady shows may tables hub h (record l { wire = w })
  heard_ready l w (heard.Does (acts.Answer octets)) r at =
      let t = r.told in
      let h = at t.events t.state t.lived in
      record {
        pass = r.pass;
        serves = r.serves;
        turns = Answered octets ∷ r.turns;
        done = (tt, r.done);
        held = held_plain (server shows may tables hub) hub.boot l.began.value l.pass l.group l.number l.retired (Answered octets) r.turns (plain_answer l.number octets) tt r.held;
        told = record {
          events = t.events ++ Did (acts.Answer octets) ∷ [];
          state = h.0;
          lived = h.2;
          seen_is = seen_more t.events r.turns (Did (acts.Answer octets)) t.seen_is;
          waits_is = (others_free t.state h.0 (acts.Answer octets) t.waits_is h.1).1;
          bound_is = bound_stays t.state h.0 (Did (acts.Answer octets)) h.1 t.bound_is;
          unclosed = t.unclosed;
        };
      }
  heard_ready l w (heard.Does (acts.Call j iface)) r at =
      let t = r.told in
      let h = at t.events t.state t.lived in
      record {
        pass = r.pass;
        serves = r.serves;
        turns = r.turns;
        done = r.done;
        held = held_plain (server shows may tables hub) hub.boot l.began.value l.pass l.group l.number l.retired (request j iface [] Pending) r.turns (plain_pending l.number j iface) refl r.held;
        told = record {
          events = t.events ++ Did (acts.Call j iface) ∷ [];
          state = h.0;
          lived = h.2;
          seen_is = seen_more t.events r.turns (Did (acts.Call j iface)) t.seen_is;
          waits_is = calls_wait t.state h.0 j iface h.1;
          bound_is = bound_stays t.state h.0 (Did (acts.Call j iface)) h.1 t.bound_is;
          unclosed = t.unclosed;
        };
      }
  heard_ready l w (heard.Does (acts.Close octets f)) r at =
      let t = r.told in
      let h = at t.events t.state t.lived in
      record {
        pass = r.pass;
        serves = r.serves;
        turns = r.turns;
        done = r.done;
        held = r.held;
        closing = record {
          events = t.events ++ Did (acts.Close octets f) ∷ [];
          state = h.0;
          lived = h.2;
          seen_is = seen_more t.events r.turns (Did (acts.Close octets f)) t.seen_is;
          over = (others_free t.state h.0 (acts.Close octets f) t.waits_is h.1).1;
        };
      }
  heard_ready l w (heard.Does (acts.Group asked)) r at = let t = r.told in let h = at t.events t.state t.lived in bind_once t.state h.0 asked t.bound_is h.1
  heard_ready l w (heard.Does (acts.Cancel id)) r at =
      let t = r.told in let h = at t.events t.state t.lived in ((others_free t.state h.0 (acts.Cancel id) t.waits_is h.1).0 id).0 refl
  heard_ready l w (heard.Does (acts.Orphan id)) r at =
      let t = r.told in let h = at t.events t.state t.lived in ((others_free t.state h.0 (acts.Orphan id) t.waits_is h.1).0 id).1 refl
  heard_ready l w heard.Nothing r at =
      let t = r.told in
      record {
        pass = r.pass;
        serves = r.serves;
        turns = r.turns;
        done = r.done;
        held = r.held;
        told = quiet shows (ids_of tables) l.wire w r.turns waits.Nothing true (λ e. absurd cc) t (at t.events t.state t.lived);
      }
  heard_ready l w heard.End r at =
      let t = r.told in
      inl (record {
        pass = r.pass;
        serves = r.serves;
        turns = r.turns;
        done = r.done;
        held = r.held;
        halted = halts_end shows (ids_of tables) l.wire w r.turns r.turns waits.Nothing true refl t t.unclosed (λ n free rest. inl (free, rest)) (at t.events t.state t.lived);
      })
  heard_ready l w (heard.Stop fault.Failed) r at =
      let t = r.told in
      inl (record {
        pass = r.pass;
        serves = r.serves;
        turns = r.turns;
        done = r.done;
        held = r.held;
        halted = halts_failed shows (ids_of tables) l.wire w r.turns r.turns waits.Nothing true refl t (at t.events t.state t.lived);
      })
  heard_ready l w (heard.Stop fault.Memory) r at =
      let t = r.told in
      inl (record {
        pass = r.pass;
        serves = r.serves;
        turns = r.turns;
        done = r.done;
        held = r.held;
        halted = halts_memory shows (ids_of tables) l.wire w r.turns r.turns waits.Nothing true refl t (at t.events t.state t.lived);
      })

  -- ---- while a call waits

  module _ (l : Line K) (w : Wire K) (k : ℕ) (a : Asked) (x : IsWaiting shows may tables hub l k a) where
    abbrev caller : Caller
    caller = caller_of x.j

    off_so : (act : Act) (n : ConnState) → Goes x.called.told.state (Ok (Some act)) n → IsCallOff caller.call_id act × (n.waits ≡ waits.Call caller x.j.maybe)
    off_so act n g = calls_stay (ids_of tables) x.called.told.events x.called.told.state n act caller x.j.maybe x.called.told.lived.lives x.called.told.waits_is g

    -- the call is called off
    called_off : (o : Off) (id : ℕ) (n : ConnState) → act_octets (act_off id o) ≡ [] → id ≡ caller.call_id → Goes x.called.told.state (Ok (Some (act_off id o))) n
        → Lived shows (ids_of tables) w (x.called.told.events ++ Did (act_off id o) ∷ []) n (act_octets (act_off id o)) → IsCalledOff shows may tables hub (record l { wire = w }) k o
    called_off o id n none same g lived =
        let t = x.called.told in
        let d = x.called in
        record {
          j = x.j;
          iface = x.iface;
          slots = x.slots;
          called = record {
            pass = d.pass;
            serves = d.serves;
            turns = d.turns;
            done = d.done;
            held = d.held;
            told = record {
              events = t.events ++ Did (act_off id o) ∷ [];
              state = n;
              lived = subst (λ z. Lived shows (ids_of tables) w (t.events ++ Did (act_off id o) ∷ []) n z) none lived;
              seen_is =
                  seen_more t.events (request x.j x.iface [] Pending ∷ d.turns) (Did (act_off id o)) t.seen_is
                  ∙ (one_more_off (all_events d.turns) (Did (acts.Call x.j x.iface)) [] (Did (act_off id o))
                  ∙ ap (λ (z : ℕ). all_events d.turns ++ (Did (acts.Call x.j x.iface) ∷ (([] ++ Did (act_off z o) ∷ []) ++ []))) same);
              waits_is = (off_so (act_off id o) n g).1;
              bound_is = bound_stays t.state n (Did (act_off id o)) g t.bound_is;
              unclosed = t.unclosed;
            };
          };
          has = x.has;
          apart = x.apart;
          unmarked = x.unmarked;
        }

    same_cancel : (n : ConnState) (id : ℕ) → IsCallOff caller.call_id (acts.Cancel id) → id ≡ caller.call_id
    same_cancel n id (inl e) = cc
    same_cancel n id (inr e) = absurd cc

    same_orphan : (n : ConnState) (id : ℕ) → IsCallOff caller.call_id (acts.Orphan id) → id ≡ caller.call_id
    same_orphan n id (inl e) = absurd cc
    same_orphan n id (inr e) = cc

    pub heard_waiting : (h : Heard) → Listens shows tables l.wire h w → HeardWaiting shows may tables hub k a h (record l { wire = w })
    heard_waiting (heard.Does (acts.Cancel id)) at =
        let h = at x.called.told.events x.called.told.state x.called.told.lived in
        called_off off.Cancel id h.0 refl (same_cancel h.0 id (off_so (acts.Cancel id) h.0 h.1).0) h.1 h.2
    heard_waiting (heard.Does (acts.Orphan id)) at =
        let h = at x.called.told.events x.called.told.state x.called.told.lived in
        called_off off.Orphan id h.0 refl (same_orphan h.0 id (off_so (acts.Orphan id) h.0 h.1).0) h.1 h.2
    heard_waiting (heard.Does (acts.Answer octets)) at =
        let h = at x.called.told.events x.called.told.state x.called.told.lived in
        no_off caller.call_id (acts.Answer octets) (λ e. absurd (cc e)) (λ e. absurd (cc e)) (off_so (acts.Answer octets) h.0 h.1).0
    heard_waiting (heard.Does (acts.Group asked)) at =
        let h = at x.called.told.events x.called.told.state x.called.told.lived in
        no_off caller.call_id (acts.Group asked) (λ e. absurd (cc e)) (λ e. absurd (cc e)) (off_so (acts.Group asked) h.0 h.1).0
    heard_waiting (heard.Does (acts.Call j iface)) at =
        let h = at x.called.told.events x.called.told.state x.called.told.lived in
        no_off caller.call_id (acts.Call j iface) (λ e. absurd (cc e)) (λ e. absurd (cc e)) (off_so (acts.Call j iface) h.0 h.1).0
    heard_waiting (heard.Does (acts.Close octets f)) at =
        let h = at x.called.told.events x.called.told.state x.called.told.lived in
        no_off caller.call_id (acts.Close octets f) (λ e. absurd (cc e)) (λ e. absurd (cc e)) (off_so (acts.Close octets f) h.0 h.1).0
    heard_waiting heard.Nothing at =
        let t = x.called.told in
        let d = x.called in
        record {
          j = x.j;
          iface = x.iface;
          slots = x.slots;
          called = record {
            pass = d.pass;
            serves = d.serves;
            turns = d.turns;
            done = d.done;
            held = d.held;
            told = quiet shows (ids_of tables) l.wire w (request x.j x.iface [] Pending ∷ d.turns) (waits.Call caller x.j.maybe) true (λ e. absurd cc) t (at t.events t.state t.lived);
          };
          has = x.has;
          apart = x.apart;
          unmarked = x.unmarked;
          asked = x.asked;
          opened = x.opened;
          before = x.before;
          numbered = x.numbered;
          fits = x.fits;
        }
    heard_waiting heard.End at =
        let t = x.called.told in
        let d = x.called in
        inr (record {
          pass = d.pass;
          serves = d.serves;
          j = x.j;
          iface = x.iface;
          k = k;
          slots = x.slots;
          turns = d.turns;
          done = d.done;
          unmarked = x.unmarked;
          held = d.held;
          halted = halts_end shows (ids_of tables) l.wire w (request x.j x.iface [] Pending ∷ d.turns) (request x.j x.iface [] (Accepted k x.slots LeftWaiting) ∷ d.turns) (waits.Call caller x.j.maybe) true refl t t.unclosed
              (λ n calls rest. inr (inr refl)) (at t.events t.state t.lived);
        })
    heard_waiting (heard.Stop fault.Failed) at =
        let t = x.called.told in
        let d = x.called in
        inr (record {
          pass = d.pass;
          serves = d.serves;
          j = x.j;
          iface = x.iface;
          k = k;
          slots = x.slots;
          turns = d.turns;
          done = d.done;
          unmarked = x.unmarked;
          held = d.held;
          halted = halts_failed shows (ids_of tables) l.wire w (request x.j x.iface [] Pending ∷ d.turns) (request x.j x.iface [] (Accepted k x.slots LeftWaiting) ∷ d.turns) (waits.Call caller x.j.maybe) true refl t (at t.events t.state t.lived);
        })
    heard_waiting (heard.Stop fault.Memory) at =
        let t = x.called.told in
        let d = x.called in
        inr (record {
          pass = d.pass;
          serves = d.serves;
          j = x.j;
          iface = x.iface;
          k = k;
          slots = x.slots;
          turns = d.turns;
          done = d.done;
          unmarked = x.unmarked;
          held = d.held;
          halted = halts_memory shows (ids_of tables) l.wire w (request x.j x.iface [] Pending ∷ d.turns) (request x.j x.iface [] (Accepted k x.slots LeftWaiting) ∷ d.turns) (waits.Call caller x.j.maybe) true refl t (at t.events t.state t.lived);
        })
