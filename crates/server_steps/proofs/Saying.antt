-- Where a connection comes to, by what it answers.
use Rattle.std.proofs.Common.{◌≡◌, ◌≢◌, ℕ, Bool, true, false, Option, Some, None, Ok, Err, Result, List, [], ◌∷◌, ◌++◌, refl, sym, ap, ◌∙◌, subst, inl, inr, append-nil}
use Rattle.std.specs.List.{AllByRecursion}
use Rattle.rpc_base.specs.declared.fault.Failed.{Failed}
use Rattle.rpc_outside.specs.Links.{Shown}
use Rattle.handle_model.specs.declared.entry.Said.{Said}
use Rattle.handle_model.specs.declared.entry.Entry.TheVariants.{Join}
use Rattle.handle_model.specs.declared.reply.Reply.{Reply}
use Rattle.hub_story.specs.Histories.{home_of, past_in}
use Rattle.group_hub.specs.declared.hub.Hub.{Hub}
use Rattle.group_hub.specs.declared.pass.Pass.{Pass}
use Rattle.group_hub.specs.Shards.{shard_of}
use Rattle.server_ends.specs.Joins.{JoinedAs, IsRefusedFor, opened_for}
use Rattle.ndr_table.specs.Tables.{TableForm}
use Rattle.manager_api.specs.Answers.{Ans}
use Rattle.manager_api.specs.Calls.{Call}
use Rattle.conn_asks.specs.declared.events.Act.TheVariants as acts
use Rattle.conn_asks.specs.declared.events.ConnFault.{ConnFault}
use Rattle.conn_asks.specs.declared.events.ConnFault.TheVariants.{Nak}
use Rattle.conn_asks.specs.declared.events.Waits.{Waits}
use Rattle.conn_asks.specs.declared.events.Waits.TheVariants as waits
use Rattle.pdu_codec.specs.Constants.{only_frag}
use Rattle.pdu_codec.specs.Pdus.{pdu_octets}
use Rattle.conn_asks.specs.Answers.{FitsStub, agreement_with, bind_ack, bind_nak}
use Rattle.conn_asks.specs.States.{ConnState, caller_of, IsGrouping, BoundAt, RefusedAt}
use Rattle.conn_histories.specs.Histories.{Event, Decision, AnswersDecision, seen}
use Rattle.conn_histories.specs.Histories.Event.{Did, Decided}
use Rattle.conn_histories.specs.Histories.Decision.{ToGroup, RefuseGroup}
use Rattle.conn_histories.proofs.Along.{put_in_order}
use Rattle.conn_histories.proofs.Wide.{each_call_answered}
use Rattle.server_steps.specs.declared.wire.Wire.{Wire}
use Rattle.server_steps.specs.declared.wire.Fault.{Fault}
use Rattle.server_steps.specs.declared.wire.Fault.TheVariants as fault
use Rattle.server_steps.specs.Wires.{Lived, Puts, Decides}
use Rattle.conn_histories.specs.Requests.{ids_of}
use Rattle.conn_histories.specs.declared.turn.Deed.TheVariants as deeds
use Rattle.conn_histories.specs.declared.turn.Turn.{Turn}
use Rattle.conn_histories.specs.declared.turn.Turn.TheVariants.{Bound, NotBound, Closed}
use Rattle.conn_histories.specs.Events.{acts_off, deed_reply, word_of, has_run, all_events}
use Rattle.conn_histories.specs.Stories.{Server, Made}
use Rattle.conn_histories.specs.Tales.{of_conn}
use Rattle.conn_turns.proofs.Staying.{filter_none}
use Rattle.conn_turns.proofs.Others.{of_none}
use Rattle.conn_turns.proofs.Hearing.{bound_stays, bound_waits, refused_waits, reply_waits}
use Rattle.conn_turns.proofs.Making.{called, made_answered}
use Rattle.conn_turns.proofs.StepEnding.{joined_new}
use Rattle.conn_turns.proofs.Plain.{plain_closed, one_answer_more}
use Rattle.conn_turns.specs.Done.{IsDone}
use Rattle.server_ends.specs.Finishes.{EntersNone, Refuses}
use Rattle.server_steps.specs.declared.line.Line.{Line}
use Rattle.server_steps.specs.declared.stop.Stop.{Stop}
use Rattle.server_steps.specs.declared.stop.Stop.TheVariants as stop
use Rattle.server_steps.specs.Stops.{stop_by, bound_by}
use Rattle.server_steps.specs.Held.{past_at, Held}
use Rattle.server_steps.specs.Told.{Halted}
use Rattle.server_steps.specs.Early.{AsksGroup, IsClosing, IsAlone}
use Rattle.server_steps.specs.Lines.{server, HeldBy, IsJoined, IsIdle, IsReady, IsEnding}
use Rattle.server_steps.specs.Calls.{request, IsSettled, Says}
use Rattle.server_steps.specs.Endings.{IsStopping}
use Rattle.server_steps.specs.Steps.{GoesOn}
use Rattle.server_steps.proofs.Telling.{stopped_so, told_put, halts_put, halts_decided, halts_unput}
use Rattle.server_steps.proofs.Hearing.{held_plain}

-- ---- a bind

-- where a group is waited for, it can be answered and refused
could_bind : (w : Waits) (m : ConnState) (group : ℕ) → IsGrouping w → m.waits ≡ w → (octets : List ℕ) × (n : ConnState) × AnswersDecision m (ToGroup group) octets n
could_bind waits.Nothing m group g e = absurd g
could_bind (waits.Group c ack) m group g e =
    let octets : List ℕ = pdu_octets (bind_ack c only_frag (agreement_with ack group) ack.results) in
    let n : ConnState = record m { waits = waits.Nothing; agreement = agreement_with ack group } in
    (octets, n, subst (λ z. BoundAt z m group octets n) (sym e) (refl, refl))
could_bind (waits.Call c maybe) m group g e = absurd g
could_bind waits.Over m group g e = absurd g
could_bind waits.Failed m group g e = absurd g

could_refuse : (w : Waits) (m : ConnState) (reason : ℕ) → IsGrouping w → m.waits ≡ w → (octets : List ℕ) × (n : ConnState) × AnswersDecision m (RefuseGroup reason) octets n
could_refuse waits.Nothing m reason g e = absurd g
could_refuse (waits.Group c ack) m reason g e =
    let octets : List ℕ = pdu_octets (bind_nak c reason) in
    let n : ConnState = record m { waits = waits.Over } in
    (octets, n, subst (λ z. RefusedAt z m reason octets n) (sym e) (refl, refl))
could_refuse (waits.Call c maybe) m reason g e = absurd g
could_refuse waits.Over m reason g e = absurd g
could_refuse waits.Failed m reason g e = absurd g

pub none_entered : (boot : ℕ) (p q : Pass) (asked reason : ℕ) → Refuses boot p q asked reason → EntersNone p q
none_entered boot p q asked reason (items, grown, why) = (shard_of asked, items, grown, λ g. empty g why)
  where
    empty : (g : ℕ) → IsRefusedFor boot p asked reason q items → past_in g items ≡ []
    empty g (inl (a, b, inl h)) = ap (past_in g) h.0
    empty g (inl (a, b, inr h)) = ap (past_in g) h.0
    empty g (inr (inl h)) = ap (past_in g) h.1
    empty g (inr (inr h)) = ap (past_in g) h.1

module _ {K : Type 0} (shows : K → Shown) (tables : List TableForm) where
  -- ---- the last answer

  pub closes_ok : (v w : Wire K) (octets : List ℕ) (f : ConnFault) (turns : List Turn) (c : IsClosing shows tables v octets f turns) → Lived shows (ids_of tables) w c.events c.state []
      → Halted shows (ids_of tables) w (stop.Refused f) (Closed octets f ∷ turns)
  closes_ok v w octets f turns c l = record {
    events = c.events;
    state = c.state;
    pending = [];
    stopped = stopped_so shows (ids_of tables) w c.events c.state [] l;
    seen_is = c.seen_is;
    cause = (refl, record { asked = inr (inl c.over); none_left = refl });
  }

  pub closes_failed : (v w : Wire K) (octets : List ℕ) (f : ConnFault) (turns : List Turn) (e : Failed) (c : IsClosing shows tables v octets f turns) → Puts shows (ids_of tables) c.events c.state (Err e) w
      → Halted shows (ids_of tables) w stop.Failed (Closed octets f ∷ turns)
  closes_failed v w octets f turns e c h = halts_put shows (ids_of tables) w (Closed octets f ∷ turns) c.events c.state e c.seen_is h

  -- ---- a bind is refused

  module _ (may : Call → Bool → Ans → Type 0) (boot : ℕ) (p q : Pass) (v w : Wire K) (asked reason : ℕ) (r : Refuses boot p q asked reason) (x : AsksGroup shows tables v asked) where
    alone : (why : Stop) (octets : List ℕ) → Halted shows (ids_of tables) w why (NotBound asked reason octets ∷ []) → IsAlone shows tables may boot p w q why
    alone why octets h = record { enters = none_entered boot p q asked reason r; turns = NotBound asked reason octets ∷ []; unmarked = λ e. absurd cc; quiet = (tt, tt); over = (tt, tt); due = (r, tt); halted = h }

    seen_refused : (octets : List ℕ) → seen (x.told.events ++ Decided (RefuseGroup reason) octets ∷ []) ≡ all_events (NotBound asked reason octets ∷ [])
    seen_refused octets = (put_in_order x.told.events (Decided (RefuseGroup reason) octets ∷ [])).0.saw ∙ ap (λ l. l ++ Decided (RefuseGroup reason) octets ∷ []) x.told.seen_is

    pub refused_ok : reason ≢ 1 → Decides shows (ids_of tables) x.told.events x.told.state (RefuseGroup reason) (Ok tt) w → IsAlone shows tables may boot p w q (stop.Refused (Nak reason))
    refused_ok other h = alone (stop.Refused (Nak reason)) h.0 (record {
      events = x.told.events ++ Decided (RefuseGroup reason) h.0 ∷ [];
      state = h.1;
      pending = [];
      stopped = stopped_so shows (ids_of tables) w (x.told.events ++ Decided (RefuseGroup reason) h.0 ∷ []) h.1 [] h.3;
      seen_is = seen_refused h.0;
      cause = ((refl, other), record { asked = inr (inl (refused_waits x.told.state h.1 reason h.0 h.2)); none_left = refl });
    })

    pub refused_short : Decides shows (ids_of tables) x.told.events x.told.state (RefuseGroup reason) (Ok tt) w → IsAlone shows tables may boot p w q stop.Memory
    refused_short h = alone stop.Memory h.0 (record {
      events = x.told.events ++ Decided (RefuseGroup reason) h.0 ∷ [];
      state = h.1;
      pending = [];
      stopped = stopped_so shows (ids_of tables) w (x.told.events ++ Decided (RefuseGroup reason) h.0 ∷ []) h.1 [] h.3;
      seen_is = seen_refused h.0;
      cause = tt;
    })

    pub refused_not : (f : Fault) → Decides shows (ids_of tables) x.told.events x.told.state (RefuseGroup reason) (Err f) w → IsAlone shows tables may boot p w q (stop_by f)
    refused_not fault.Failed h =
        alone stop.Failed h.0 (halts_decided shows (ids_of tables) w (λ octets. NotBound asked reason octets ∷ []) x.told.events x.told.state (RefuseGroup reason) (λ octets. ap (λ l. l ++ Decided (RefuseGroup reason) octets ∷ []) x.told.seen_is) h)
    refused_not fault.Memory h =
        let c = could_refuse x.waits x.told.state reason x.grouping x.told.waits_is in
        alone stop.Memory c.0 (halts_unput shows (ids_of tables) w (λ octets. NotBound asked reason octets ∷ []) x.told.events x.told.state (RefuseGroup reason) (λ octets. ap (λ l. l ++ Decided (RefuseGroup reason) octets ∷ []) x.told.seen_is) c.0 c.1 c.2 h)

-- ---- a bind is answered

pub held_joined : (s : Server) (boot : ℕ) (p q : Pass) (g c asked : ℕ) (octets : List ℕ) → (asked ≢ 0 → g ≡ asked) → (asked ≡ 0 → c ≡ 1) → JoinedAs boot p asked g c q → Held s boot p q g c None false (Bound asked g octets ∷ [])
held_joined s boot p q g c asked octets known new j =
    let none = of_none c j.older j.new in
    record {
      items = j.items;
      grown = j.grown;
      mine = Join c ∷ [];
      own = j.own;
      others = j.others;
      joined = j.serves.joined;
      made = subst (λ l. Made s (home_of boot g) c l false (Bound asked g octets ∷ []) (Join c ∷ [])) (sym j.past)
          (joined_new s (home_of boot g) (home_of boot g) c c j.older [] [] asked g octets (filter_none (of_conn c) j.older none.0) none.1 tt tt (refl, record { known = known; new = new }));
      retired_is = refl;
      marks_are = j.marks ∙ sym (append-nil (opened_for asked g));
    }

module _ {K : Type 0} (shows : K → Shown) (may : Call → Bool → Ans → Type 0) (tables : List TableForm) (hub : Hub) where
  module _ (l : Line K) (w : Wire K) (asked : ℕ) (x : IsJoined shows may tables hub l asked) where
    held_bound : (octets : List ℕ) → HeldBy shows may tables hub l false (Bound asked l.group octets ∷ [])
    held_bound octets =
        subst (λ z. Held (server shows may tables hub) hub.boot l.began.value l.pass l.group l.number z false (Bound asked l.group octets ∷ [])) (sym x.unretired)
        (held_joined (server shows may tables hub) hub.boot l.began.value l.pass l.group l.number asked octets x.known x.new x.joined)

    seen_bound : (octets : List ℕ) → seen (x.asks.told.events ++ Decided (ToGroup l.group) octets ∷ []) ≡ all_events (Bound asked l.group octets ∷ [])
    seen_bound octets = (put_in_order x.asks.told.events (Decided (ToGroup l.group) octets ∷ [])).0.saw ∙ ap (λ z. z ++ Decided (ToGroup l.group) octets ∷ []) x.asks.told.seen_is

    over_bound : (why : Stop) (octets : List ℕ) → Halted shows (ids_of tables) w why (Bound asked l.group octets ∷ []) → IsStopping shows may tables hub (record l { wire = w }) why
    over_bound why octets h = inl (record { pass = x.pass; serves = x.joined.serves; turns = Bound asked l.group octets ∷ []; done = (tt, tt); held = held_bound octets; halted = h })

    pub bound_so : (r : Result Unit Fault) → Decides shows (ids_of tables) x.asks.told.events x.asks.told.state (ToGroup l.group) r w → GoesOn shows may tables hub (bound_by r) (record l { wire = w })
    bound_so (Ok u) h = record {
      pass = x.pass;
      serves = x.joined.serves;
      turns = Bound asked l.group h.0 ∷ [];
      done = (tt, tt);
      held = held_bound h.0;
      told = record {
        events = x.asks.told.events ++ Decided (ToGroup l.group) h.0 ∷ [];
        state = h.1;
        lived = h.3;
        seen_is = seen_bound h.0;
        waits_is = bound_waits x.asks.told.state h.1 l.group h.0 h.2;
        bound_is = bound_stays x.asks.told.state h.1 (Decided (ToGroup l.group) h.0) h.2 x.asks.told.bound_is;
        unclosed = refl;
      };
    }
    bound_so (Err fault.Failed) h = over_bound stop.Failed h.0 (halts_decided shows (ids_of tables) w (λ octets. Bound asked l.group octets ∷ []) x.asks.told.events x.asks.told.state (ToGroup l.group) (λ octets. ap (λ z. z ++ Decided (ToGroup l.group) octets ∷ []) x.asks.told.seen_is) h)
    bound_so (Err fault.Memory) h =
        let c = could_bind x.asks.waits x.asks.told.state l.group x.asks.grouping x.asks.told.waits_is in
        over_bound stop.Memory c.0 (halts_unput shows (ids_of tables) w (λ octets. Bound asked l.group octets ∷ []) x.asks.told.events x.asks.told.state (ToGroup l.group) (λ octets. ap (λ z. z ++ Decided (ToGroup l.group) octets ∷ []) x.asks.told.seen_is) c.0 c.1 c.2 h)

  -- ---- an answer that asks nothing of the group

  module _ (l : Line K) (w : Wire K) (octets : List ℕ) (x : IsIdle shows may tables hub l octets) where
    pub put_ok : Lived shows (ids_of tables) w x.told.events x.told.state [] → IsReady shows may tables hub (record l { wire = w })
    put_ok h = record { pass = x.pass; serves = x.serves; turns = x.turns; done = x.done; held = x.held; told = told_put shows (ids_of tables) l.wire w x.turns waits.Nothing true octets x.told h }

    pub put_not : (e : Failed) → Puts shows (ids_of tables) x.told.events x.told.state (Err e) w → IsStopping shows may tables hub (record l { wire = w }) stop.Failed
    put_not e h = inl (record { pass = x.pass; serves = x.serves; turns = x.turns; done = x.done; held = x.held; halted = halts_put shows (ids_of tables) w x.turns x.told.events x.told.state e x.told.seen_is h })

  pub refused_so : (l : Line K) (w : Wire K) (octets : List ℕ) (f : ConnFault) (why : Stop) (x : IsEnding shows may tables hub l octets f) → Halted shows (ids_of tables) w why (Closed octets f ∷ x.turns)
      → IsStopping shows may tables hub (record l { wire = w }) why
  refused_so l w octets f why x h = inl (record {
    pass = x.pass;
    serves = x.serves;
    turns = Closed octets f ∷ x.turns;
    done = (tt, x.done);
    held = held_plain (server shows may tables hub) hub.boot l.began.value l.pass l.group l.number l.retired (Closed octets f) x.turns (plain_closed l.number octets f) tt x.held;
    halted = h;
  })

  -- ---- the answer of a request

  module _ (l : Line K) (w : Wire K) (said : Option Said) (executed : Bool) (y : Says shows may tables hub l said executed) where
    abbrev x : IsSettled shows may tables hub l y.reply
    x = y.settled

    abbrev answered : List ℕ → List Turn
    answered octets = called x.j x.iface x.offs x.deed (Some octets) ∷ x.called.turns

    held_answered : (octets : List ℕ) → HeldBy shows may tables hub l false (answered octets)
    held_answered octets =
        let h = x.called.held in
        record {
          items = h.items;
          grown = h.grown;
          mine = h.mine;
          own = h.own;
          others = h.others;
          joined = h.joined;
          made = made_answered (server shows may tables hub) (home_of hub.boot l.group) l.number (past_at l.pass l.group) false x.j x.iface x.offs x.deed None (Some octets) x.called.turns h.mine h.made;
          retired_is = h.retired_is;
          marks_are = h.marks_are;
        }

    abbrev Saying : List ℕ → Event
    Saying octets = Decided (Decision.Reply said executed) octets

    -- what is seen then
    seen_said : (events : List Event) (octets : List ℕ) → events ≡ all_events (request x.j x.iface x.offs deeds.Pending ∷ x.called.turns) → events ++ Saying octets ∷ [] ≡ all_events (answered octets)
    seen_said events octets is =
        ap (λ z. z ++ Saying octets ∷ []) is
        ∙ (one_answer_more (all_events x.called.turns) (Did (acts.Call x.j x.iface)) (acts_off x.j.call_id x.offs) (Saying octets)
        ∙ (λ i. all_events x.called.turns ++ (Did (acts.Call x.j x.iface) ∷ (acts_off x.j.call_id x.offs ++ Decided (Decision.Reply (word i) (run i)) octets ∷ []))))
      where
        word : said ≡ word_of (deed_reply x.offs x.deed)
        word = sym y.said_is ∙ ap word_of (sym x.reply_is)

        run : executed ≡ has_run (deed_reply x.offs x.deed)
        run = sym y.executed_is ∙ ap has_run (sym x.reply_is)

    done_answered : (octets : List ℕ) → AllByRecursion IsDone (answered octets)
    done_answered octets = (((λ e. x.known (sym x.reply_is ∙ e), x.not_left), x.not_open, x.not_running), x.called.done)

    over_answered : (why : Stop) (octets : List ℕ) → Halted shows (ids_of tables) w why (answered octets) → IsStopping shows may tables hub (record l { wire = w }) why
    over_answered why octets h = inl (record { pass = x.called.pass; serves = x.called.serves; turns = answered octets; done = done_answered octets; held = held_answered octets; halted = h })

    pub said_so : (r : Result Unit Fault) → Decides shows (ids_of tables) x.called.told.events x.called.told.state (Decision.Reply said executed) r w → GoesOn shows may tables hub (bound_by r) (record l { wire = w })
    said_so (Ok u) h =
        let t = x.called.told in
        record {
          pass = x.called.pass;
          serves = x.called.serves;
          turns = answered h.0;
          done = done_answered h.0;
          held = held_answered h.0;
          told = record {
            events = t.events ++ Saying h.0 ∷ [];
            state = h.1;
            lived = h.3;
            seen_is = (put_in_order t.events (Saying h.0 ∷ [])).0.saw ∙ seen_said (seen t.events) h.0 t.seen_is;
            waits_is = reply_waits t.state h.1 said executed h.0 h.2;
            bound_is = bound_stays t.state h.1 (Saying h.0) h.2 t.bound_is;
            unclosed = t.unclosed;
          };
        }
    said_so (Err fault.Failed) h =
        let t = x.called.told in
        over_answered stop.Failed h.0 (halts_decided shows (ids_of tables) w answered t.events t.state (Decision.Reply said executed) (λ octets. seen_said (seen t.events) octets t.seen_is) h)
    said_so (Err fault.Memory) h =
        let t = x.called.told in
        let c = each_call_answered (ids_of tables) t.events t.state said executed t.lived.lives (caller_of x.j, x.j.maybe, t.waits_is) y.fits in
        over_answered stop.Memory c.0 (halts_unput shows (ids_of tables) w answered t.events t.state (Decision.Reply said executed) (λ octets. seen_said (seen t.events) octets t.seen_is) c.0 c.1 c.2 h)

  -- what a reply says
  pub says_so : (l : Line K) (reply : Reply) (said : Option Said) (executed : Bool) → IsSettled shows may tables hub l reply → FitsStub (word_of reply) → word_of reply ≡ said → has_run reply ≡ executed
      → Says shows may tables hub l said executed
  says_so l reply said executed x fits said_is executed_is =
      record { reply = reply; settled = x; said_is = said_is; executed_is = executed_is; fits = subst FitsStub said_is fits }
