-- Where a connection comes to while its call runs beside it.
use Rattle.std.proofs.Common.{◌≡◌, ◌==◌, ℕ, ◌<◌, Bool, true, false, ◌||◌, ◌&&◌, if◌then◌else◌, Option, None, Some, Ok, List, [], ◌∷◌, ◌++◌, refl, sym, ap, ◌∙◌, subst, inl, inr}
use Rattle.std.specs.List.{list_any, AllByRecursion}
use Rattle.rpc_outside.specs.Links.{Shown}
use Rattle.handle_model.specs.declared.entry.Home.{Home}
use Rattle.handle_model.specs.declared.entry.Slot.{Slot}
use Rattle.handle_model.specs.declared.entry.Asked.{Asked}
use Rattle.handle_model.specs.declared.entry.Outcome.{Outcome}
use Rattle.handle_model.specs.declared.entry.Said.{Said}
use Rattle.handle_model.specs.declared.entry.Entry.{Entry}
use Rattle.handle_model.specs.declared.entry.Entry.TheVariants.{Join, Accept, Take, Deny, Cancel, Orphan, End, Leave, Shut}
use Rattle.handle_model.specs.Rules.{suit}
use Rattle.handle_model.specs.declared.reply.Reply.TheVariants.{Ran, Dropped, Open}
use Rattle.group_core.specs.declared.answer.Cancelled.{Cancelled as CancelAnswer}
use Rattle.group_core.specs.declared.answer.Orphaned.{Orphaned as OrphanAnswer}
use Rattle.group_core.specs.Calls.{Cancels, Orphans}
use Rattle.hub_story.specs.declared.item.Item.TheVariants.{Of}
use Rattle.hub_story.specs.Histories.{home_of}
use Rattle.hub_story.specs.Passes.{Seen, HasCall, Knows, Runs, Serves, halved, accepts_of}
use Rattle.hub_story.specs.Still.{StillHas}
use Rattle.handle_model.specs.CallLaws.{accepts}
use Rattle.group_hub.specs.declared.hub.Hub.{Hub}
use Rattle.group_hub.specs.declared.pass.Pass.{Pass}
use Rattle.group_hub.specs.Shards.{shard_of}
use Rattle.group_hub.specs.Passes.{IsPassOf, at_shard, CallsAt}
use Rattle.group_hub.specs.ShardPasses.{Merges}
use Rattle.hub_shard.specs.declared.answer.HubRest.{HubRest}
use Rattle.hub_shard.specs.Answers.{SettlesWith}
use Rattle.ndr_table.specs.Tables.{TableForm}
use Rattle.manager_api.specs.Answers.{Ans}
use Rattle.manager_api.specs.Calls.{Call}
use Rattle.conn_asks.specs.declared.events.Caller.{Caller}
use Rattle.conn_asks.specs.declared.events.Act.{Act}
use Rattle.conn_asks.specs.declared.events.Act.TheVariants as acts
use Rattle.conn_asks.specs.declared.events.Waits.TheVariants as waits
use Rattle.conn_asks.specs.States.{ConnState, caller_of, Goes}
use Rattle.conn_histories.specs.Histories.{act_octets}
use Rattle.conn_histories.specs.Histories.Event.{Did}
use Rattle.conn_histories.proofs.Called.{calls_stay}
use Rattle.conn_histories.specs.Serving.{IsCallOff}
use Rattle.server_steps.specs.declared.wire.Wire.{Wire}
use Rattle.server_steps.specs.declared.wire.Heard.{Heard}
use Rattle.server_steps.specs.declared.wire.Heard.TheVariants as heard
use Rattle.server_steps.specs.declared.wire.Fault.TheVariants as fault
use Rattle.server_steps.specs.Wires.{Lived}
use Rattle.conn_histories.specs.Requests.{ids_of}
use Rattle.conn_histories.specs.Ends.{Meets}
use Rattle.server_calls.specs.Ready.{request_of}
use Rattle.conn_histories.specs.declared.turn.Off.{Off}
use Rattle.conn_histories.specs.declared.turn.Off.TheVariants as off
use Rattle.conn_histories.specs.declared.turn.Run.{Run}
use Rattle.conn_histories.specs.declared.turn.Fate.{Fate}
use Rattle.conn_histories.specs.declared.turn.Fate.TheVariants.{Running, Ended, LeftRunning, LeftEnded}
use Rattle.conn_histories.specs.declared.turn.Deed.{Deed}
use Rattle.conn_histories.specs.declared.turn.Deed.TheVariants.{Pending, Accepted}
use Rattle.conn_histories.specs.declared.turn.Turn.{Turn}
use Rattle.conn_histories.specs.Entries.{is_cancel, is_orphan, asked_as, numbers_of}
use Rattle.conn_histories.specs.Events.{act_off, acts_off, all_events}
use Rattle.conn_histories.specs.Stories.{Server, Made}
use Rattle.conn_histories.specs.Tales.{whole}
use Rattle.conn_turns.specs.Done.{IsDone}
use Rattle.conn_turns.proofs.Hearing.{bound_stays}
use Rattle.conn_turns.proofs.Plain.{one_more_off}
use Rattle.conn_turns.proofs.Staged.{marked_running, marked_left}
use Rattle.conn_turns.proofs.Stepping.{OffSo, cancelled_so, orphaned_so}
use Rattle.conn_turns.proofs.Done.{done_over, done_runs}
use Rattle.server_steps.specs.Passes.{OwnsNone, HasAsked}
use Rattle.server_steps.proofs.Askings.{asked_later}
use Rattle.server_steps.specs.declared.line.Line.{Line}
use Rattle.server_steps.specs.declared.gone.Gone.{Gone}
use Rattle.server_steps.specs.declared.stop.Stop.{Stop}
use Rattle.server_steps.specs.declared.stop.Stop.TheVariants as stop
use Rattle.server_steps.specs.Told.{Halted}
use Rattle.server_steps.specs.Held.{past_at, Held, Settles, retired_after}
use Rattle.server_steps.specs.Lines.{server}
use Rattle.server_steps.specs.Calls.{request, ended_reply, IsCalled, IsRunning, IsMarked, IsSettled}
use Rattle.server_steps.specs.Endings.{IsCutRunning, IsGone, HasEnded}
use Rattle.server_steps.specs.Steps.{HeardRunning}
use Rattle.server_steps.proofs.Telling.{seen_more, quiet, halts_failed, halts_memory, halts_end}
use Rattle.server_steps.proofs.Hearing.{no_off, Listens}
use Rattle.server_steps.proofs.Calling.{goes, cancels_plain, orphans_plain}
use Rattle.server_steps.proofs.Holding.{stepped}
use Rattle.server_steps.proofs.Joining.{low_shard, held_halved, held_merged, still_merged}
use Rattle.server_steps.proofs.LeaveLemmas.{held_settled, serves_ended}

-- ---- what the pass of a worker knows

pub known_in : (c k : ℕ) (past : List Entry) → list_any (accepts_of c k) past ≡ true → list_any (accepts k) past ≡ true
known_in c k [] h = absurd cc
known_in c k (Accept m a ∷ past) h = by_tests (m == k) (a.conn == c) (known_in c k past) h
  where
    by_tests : (x y : Bool) → (list_any (accepts_of c k) past ≡ true → list_any (accepts k) past ≡ true) → ((x && y) || list_any (accepts_of c k) past) ≡ true → (x || list_any (accepts k) past) ≡ true
    by_tests true y r h = refl
    by_tests false y r h = r h
known_in c k (Join d ∷ past) h = known_in c k past h
known_in c k (Take m cookies ∷ past) h = known_in c k past h
known_in c k (Deny m slot ∷ past) h = known_in c k past h
known_in c k (Cancel m ∷ past) h = known_in c k past h
known_in c k (Orphan m ∷ past) h = known_in c k past h
known_in c k (End m results said ∷ past) h = known_in c k past h
known_in c k (Leave d ∷ past) h = known_in c k past h
known_in c k (Shut items ∷ past) h = known_in c k past h

pub none_halved : (p o : Pass) → ((s : ℕ) → s < 16 → at_shard o s ≡ halved (at_shard p s)) → OwnsNone o
none_halved p o half s low = ap (λ (v : Seen). v.own) (half s low)

module _ {K : Type 0} (shows : K → Shown) (may : Call → Bool → Ans → Type 0) (tables : List TableForm) (hub : Hub) where
  abbrev served : Server
  served = server shows may tables hub

  -- ---- a pass is split off

  module _ (l : Line K) (k : ℕ) (a : Asked) (cookies : List (Option ℕ)) (orphaned : Bool) (x : IsRunning shows may tables hub l k a cookies orphaned) where
    pub known_halved : (o : Pass) → ((s : ℕ) → s < 16 → at_shard o s ≡ halved (at_shard l.pass s)) → Knows (at_shard o (shard_of l.group)) l.group k
    known_halved o half = subst (λ (v : Seen). Knows v l.group k) (sym (half (shard_of l.group) (low_shard l.group))) (known_in l.number k (past_at l.pass l.group) x.has.accepted)

    pub running_halved : (q : Pass) → IsPassOf hub q → ((s : ℕ) → at_shard q s ≡ at_shard l.pass s) → IsRunning shows may tables hub (record l { pass = q }) k a cookies orphaned
    running_halved q pass same =
        let here = sym (same (shard_of l.group)) in
        record {
          j = x.j;
          iface = x.iface;
          offs = x.offs;
          called = record {
            pass = pass;
            serves = subst (λ (v : Seen). Serves v l.group l.number) here x.called.serves;
            turns = x.called.turns;
            done = x.called.done;
            held = held_halved served hub.boot l.began.value l.pass q l.group l.number l.retired false (request x.j x.iface x.offs (Accepted k a.slots (Running cookies)) ∷ x.called.turns) x.called.held same;
            told = x.called.told;
          };
          has = subst (λ (v : Seen). HasCall v l.group l.number k) here x.has;
          apart = x.apart;
          unmarked = x.unmarked;
          asked = x.asked;
          runs = λ results suits. subst (λ (v : Seen). Runs v l.group k results) here (x.runs results suits);
          orphaned_is = x.orphaned_is;
        }

    -- and taken in
    pub running_merged : (o q : Pass) → IsPassOf hub q → OwnsNone o → ((s : ℕ) → s < 16 → Merges hub.boot s (at_shard l.pass s) (at_shard o s) (at_shard q s)) → IsRunning shows may tables hub (record l { pass = q }) k a cookies orphaned
    running_merged o q pass none merges =
        let before = request x.j x.iface x.offs (Accepted k a.slots (Running cookies)) ∷ x.called.turns in
        let still = still_merged served hub.boot l.began.value l.pass q l.group l.number l.retired false before x.called.held o none merges in
        record {
          j = x.j;
          iface = x.iface;
          offs = x.offs;
          called = record {
            pass = pass;
            serves = still.serves l.group l.number tt x.called.serves;
            turns = x.called.turns;
            done = x.called.done;
            held = held_merged served hub.boot l.began.value l.pass q l.group l.number l.retired false before x.called.held o none merges;
            told = x.called.told;
          };
          has = still.has_call l.group l.number k tt x.has;
          apart = x.apart;
          unmarked = x.unmarked;
          asked = x.asked;
          runs = λ results suits. still.runs l.group k results (λ others said. tt) (x.runs results suits);
          orphaned_is = x.orphaned_is;
        }

    -- ---- what is heard

    abbrev caller : Caller
    caller = caller_of x.j

    off_so : (act : Act) (n : ConnState) → Goes x.called.told.state (Ok (Some act)) n → IsCallOff caller.call_id act × (n.waits ≡ waits.Call caller x.j.maybe)
    off_so act n g = calls_stay (ids_of tables) x.called.told.events x.called.told.state n act caller x.j.maybe x.called.told.lived.lives x.called.told.waits_is g

    heard_off : (w : Wire K) (o : Off) (id : ℕ) (n : ConnState) → act_octets (act_off id o) ≡ [] → id ≡ caller.call_id → Goes x.called.told.state (Ok (Some (act_off id o))) n
        → Lived shows (ids_of tables) w (x.called.told.events ++ Did (act_off id o) ∷ []) n (act_octets (act_off id o)) → IsMarked shows may tables hub (record l { wire = w }) k a cookies orphaned o
    heard_off w o id n none same g lived =
        let t = x.called.told in
        let d = x.called in
        record {
          j = x.j;
          iface = x.iface;
          offs = x.offs;
          called = record {
            pass = d.pass;
            serves = d.serves;
            turns = d.turns;
            done = d.done;
            held = d.held;
            told = record {
              events = t.events ++ Did (act_off id o) ∷ [];
              state = n;
              lived = subst (λ z. Lived shows (ids_of tables) w (t.events ++ Did (act_off id o) ∷ []) n z) none lived;
              seen_is =
                  seen_more t.events (request x.j x.iface x.offs Pending ∷ d.turns) (Did (act_off id o)) t.seen_is
                  ∙ (one_more_off (all_events d.turns) (Did (acts.Call x.j x.iface)) (acts_off caller.call_id x.offs) (Did (act_off id o))
                  ∙ ap (λ (z : ℕ). all_events d.turns ++ (Did (acts.Call x.j x.iface) ∷ ((acts_off caller.call_id x.offs ++ Did (act_off z o) ∷ []) ++ []))) same);
              waits_is = (off_so (act_off id o) n g).1;
              bound_is = bound_stays t.state n (Did (act_off id o)) g t.bound_is;
              unclosed = t.unclosed;
            };
          };
          has = x.has;
          apart = x.apart;
          unmarked = x.unmarked;
          asked = x.asked;
          runs = x.runs;
          orphaned_is = x.orphaned_is;
        }

    same_cancel : (id : ℕ) → IsCallOff caller.call_id (acts.Cancel id) → id ≡ caller.call_id
    same_cancel id (inl e) = cc
    same_cancel id (inr e) = absurd cc

    same_orphan : (id : ℕ) → IsCallOff caller.call_id (acts.Orphan id) → id ≡ caller.call_id
    same_orphan id (inl e) = absurd cc
    same_orphan id (inr e) = cc

    -- it doesn't go on
    cut_so : (w : Wire K) (why : Stop) → ((deed : Deed) → Halted shows (ids_of tables) w why (request x.j x.iface x.offs deed ∷ x.called.turns)) → IsCutRunning shows may tables hub (record l { wire = w }) why k a cookies
    cut_so w why halted = record {
      pass = x.called.pass;
      serves = x.called.serves;
      j = x.j;
      iface = x.iface;
      offs = x.offs;
      turns = x.called.turns;
      done = x.called.done;
      apart = x.apart;
      unmarked = x.unmarked;
      asked = x.asked;
      runs = x.runs;
      held = x.called.held;
      halted = halted;
    }

    pub heard_running : (w : Wire K) (h : Heard) → Listens shows tables l.wire h w → HeardRunning shows may tables hub k a cookies orphaned h (record l { wire = w })
    heard_running w (heard.Does (acts.Cancel id)) at =
        let h = at x.called.told.events x.called.told.state x.called.told.lived in
        heard_off w off.Cancel id h.0 refl (same_cancel id (off_so (acts.Cancel id) h.0 h.1).0) h.1 h.2
    heard_running w (heard.Does (acts.Orphan id)) at =
        let h = at x.called.told.events x.called.told.state x.called.told.lived in
        heard_off w off.Orphan id h.0 refl (same_orphan id (off_so (acts.Orphan id) h.0 h.1).0) h.1 h.2
    heard_running w (heard.Does (acts.Answer octets)) at =
        let h = at x.called.told.events x.called.told.state x.called.told.lived in
        no_off caller.call_id (acts.Answer octets) (λ e. absurd (cc e)) (λ e. absurd (cc e)) (off_so (acts.Answer octets) h.0 h.1).0
    heard_running w (heard.Does (acts.Group asked)) at =
        let h = at x.called.told.events x.called.told.state x.called.told.lived in
        no_off caller.call_id (acts.Group asked) (λ e. absurd (cc e)) (λ e. absurd (cc e)) (off_so (acts.Group asked) h.0 h.1).0
    heard_running w (heard.Does (acts.Call j iface)) at =
        let h = at x.called.told.events x.called.told.state x.called.told.lived in
        no_off caller.call_id (acts.Call j iface) (λ e. absurd (cc e)) (λ e. absurd (cc e)) (off_so (acts.Call j iface) h.0 h.1).0
    heard_running w (heard.Does (acts.Close octets f)) at =
        let h = at x.called.told.events x.called.told.state x.called.told.lived in
        no_off caller.call_id (acts.Close octets f) (λ e. absurd (cc e)) (λ e. absurd (cc e)) (off_so (acts.Close octets f) h.0 h.1).0
    heard_running w heard.Nothing at =
        let t = x.called.told in
        let d = x.called in
        record {
          j = x.j;
          iface = x.iface;
          offs = x.offs;
          called = record {
            pass = d.pass;
            serves = d.serves;
            turns = d.turns;
            done = d.done;
            held = d.held;
            told = quiet shows (ids_of tables) l.wire w (request x.j x.iface x.offs Pending ∷ d.turns) (waits.Call caller x.j.maybe) true (λ e. absurd cc) t (at t.events t.state t.lived);
          };
          has = x.has;
          apart = x.apart;
          unmarked = x.unmarked;
          asked = x.asked;
          runs = x.runs;
          orphaned_is = x.orphaned_is;
        }
    heard_running w heard.End at =
        let t = x.called.told in
        cut_so w stop.Ended (λ deed. halts_end shows (ids_of tables) l.wire w (request x.j x.iface x.offs Pending ∷ x.called.turns) (request x.j x.iface x.offs deed ∷ x.called.turns) (waits.Call caller x.j.maybe) true refl t t.unclosed
        (λ n calls rest. inr (inr refl)) (at t.events t.state t.lived))
    heard_running w (heard.Stop fault.Failed) at =
        let t = x.called.told in
        cut_so w stop.Failed (λ deed. halts_failed shows (ids_of tables) l.wire w (request x.j x.iface x.offs Pending ∷ x.called.turns) (request x.j x.iface x.offs deed ∷ x.called.turns) (waits.Call caller x.j.maybe) true refl t (at t.events t.state t.lived))
    heard_running w (heard.Stop fault.Memory) at =
        let t = x.called.told in
        cut_so w stop.Memory (λ deed. halts_memory shows (ids_of tables) l.wire w (request x.j x.iface x.offs Pending ∷ x.called.turns) (request x.j x.iface x.offs deed ∷ x.called.turns) (waits.Call caller x.j.maybe) true refl t (at t.events t.state t.lived))

  -- ---- a call that runs is called off

  module _ (l : Line K) (q : Pass) (k : ℕ) (a : Asked) (cookies : List (Option ℕ)) (orphaned : Bool) (pass : IsPassOf hub q) (still : StillHas (at_shard l.pass (shard_of l.group)) (at_shard q (shard_of l.group)) []) where
    marked_so : (o : Off) (x : IsMarked shows may tables hub l k a cookies orphaned o) (now : Bool) → list_any is_orphan (o ∷ x.offs) ≡ now
        → Held served hub.boot l.began.value q l.group l.number l.retired false (request x.j x.iface (o ∷ x.offs) (Accepted k a.slots (Running cookies)) ∷ x.called.turns)
        → IsRunning shows may tables hub (record l { pass = q }) k a cookies now
    marked_so o x now is h = record {
      j = x.j;
      iface = x.iface;
      offs = o ∷ x.offs;
      called = record { pass = pass; serves = still.serves l.group l.number tt x.called.serves; turns = x.called.turns; done = x.called.done; held = h; told = x.called.told };
      has = still.has_call l.group l.number k tt x.has;
      apart = x.apart;
      unmarked = x.unmarked;
      asked = x.asked;
      runs = λ results suits. still.runs l.group k results (λ others said. tt) (x.runs results suits);
      orphaned_is = is;
    }

    abbrev fate : Fate
    fate = Running cookies

    pub cancelled_running : (x : IsMarked shows may tables hub l k a cookies orphaned off.Cancel) (answer : CancelAnswer) → CallsAt hub.boot l.group l.pass q (λ j z. Cancels j k answer z) → IsRunning shows may tables hub (record l { pass = q }) k a cookies orphaned
    cancelled_running x answer call =
        let home = home_of hub.boot l.group in
        let before = request x.j x.iface x.offs (Accepted k a.slots fate) ∷ x.called.turns in
        let b = stepped served hub.boot l.began.value l.pass q l.group l.number l.retired false before x.called.held (λ j z. Cancels j k answer z) call in
        let o = cancelled_so served home home l.number false x.j x.iface k x.called.turns x.apart b.before (b.es ++ b.before) x.offs a.slots fate x.called.held.mine answer refl b.legal refl refl x.unmarked b.answers b.made in
        let held =
        goes served hub.boot l.began.value l.pass q l.group l.number l.retired x.j x.iface k x.called.turns x.offs a.slots fate x.called.held (λ j z. Cancels j k answer z) call
        (OffSo served home home l.number false x.j x.iface k x.called.turns x.apart off.Cancel x.offs a.slots fate) o (cancels_plain home b.before b.es k answer b.answers) in
        marked_so off.Cancel x orphaned x.orphaned_is
        (subst (λ (z : List Off × List Slot × Fate). Held served hub.boot l.began.value q l.group l.number l.retired false (request x.j x.iface z.0 (Accepted k z.1 z.2) ∷ x.called.turns))
        (λ i. (o.so.0 i, o.so.2 i, o.so.3 i)) held)

    pub orphaned_running : (x : IsMarked shows may tables hub l k a cookies orphaned off.Orphan) (answer : OrphanAnswer) → CallsAt hub.boot l.group l.pass q (λ j z. Orphans j k answer z) → IsRunning shows may tables hub (record l { pass = q }) k a cookies true
    orphaned_running x answer call =
        let home = home_of hub.boot l.group in
        let before = request x.j x.iface x.offs (Accepted k a.slots fate) ∷ x.called.turns in
        let b = stepped served hub.boot l.began.value l.pass q l.group l.number l.retired false before x.called.held (λ j z. Orphans j k answer z) call in
        let o = orphaned_so served home home l.number false x.j x.iface k x.called.turns x.apart b.before (b.es ++ b.before) x.offs a.slots fate x.called.held.mine answer refl b.legal refl refl x.unmarked b.answers b.made in
        let held =
        goes served hub.boot l.began.value l.pass q l.group l.number l.retired x.j x.iface k x.called.turns x.offs a.slots fate x.called.held (λ j z. Orphans j k answer z) call
        (OffSo served home home l.number false x.j x.iface k x.called.turns x.apart off.Orphan x.offs a.slots fate) o (orphans_plain home b.before b.es k answer b.answers) in
        marked_so off.Orphan x true refl
        (subst (λ (z : List Off × List Slot × Fate). Held served hub.boot l.began.value q l.group l.number l.retired false (request x.j x.iface z.0 (Accepted k z.1 z.2) ∷ x.called.turns))
        (λ i. (o.so.0 i, o.so.2 i, o.so.3 i)) held)

  -- ---- its end

  -- the manager was told of a cancel only where there was one
  meets_marked : (home : Home) (a b : Asked) (cookies : List (Option ℕ)) (told cancelled : Bool) (results : List Outcome) (said : Said) → b ≡ a → (told ≡ true → cancelled ≡ true)
      → Meets home tables may b cookies told results said → Meets home tables may a cookies cancelled results said
  meets_marked home a b cookies told cancelled results said same cause m =
      subst (λ (z : Asked). Meets home tables may z cookies cancelled results said) same (record {
        message = m.message;
        asked = m.asked;
        told = m.told;
        cause = λ t. cause (m.cause t);
        answer = m.answer;
        answers = m.answers;
        blames = m.blames;
        results_are = m.results_are;
        says = m.says;
      })

  abbrev run : List (Option ℕ) → List Outcome → Said → Run
  run cookies results said = record { cookies = cookies; results = results; said = said }

  pub ended_running : (l : Line K) (q r : Pass) (k : ℕ) (a : Asked) (cookies : List (Option ℕ)) (orphaned told : Bool) (results : List Outcome) (said : Said) (rest : HubRest) → IsRunning shows may tables hub l k a cookies orphaned
      → (told ≡ true → HasAsked hub.boot l.group k l.pass) → Meets (home_of hub.boot l.group) tables may a cookies told results said
      → CallsAt hub.boot l.group l.pass q (SettlesWith l.group (End k results said) rest) → StillHas (at_shard l.pass (shard_of l.group)) (at_shard q (shard_of l.group)) (Of l.group (End k results said) ∷ [])
      → Settles hub.boot rest q r → IsPassOf hub r → IsSettled shows may tables hub (record l { pass = r; retired = retired_after rest l.retired }) (ended_reply orphaned said)
  ended_running l q r k a cookies orphaned told results said rest x asks meets call still settles pass =
      let home = home_of hub.boot l.group in
      let req = request_of x.j x.iface in
      let marks = marked_running home k (asked_as l.number req a.slots) (past_at l.pass l.group) x.offs cookies x.called.held.made.stand.stand.0 in
      let well = meets_marked home (asked_as l.number req a.slots) a cookies told (list_any is_cancel x.offs) results said x.asked (λ t. sym marks.told ∙ asks t) meets in
      record {
        j = x.j;
        iface = x.iface;
        offs = x.offs;
        deed = Accepted k a.slots (Ended (run cookies results said));
        called = record {
          pass = pass;
          serves = serves_ended served hub.boot l.began.value l.pass q l.group l.number l.retired false x.j x.iface k x.called.turns x.apart x.offs a.slots cookies (Running cookies) results said rest x.called.held call refl refl (inl refl) well r settles still x.called.serves;
          turns = x.called.turns;
          done = x.called.done;
          held = held_settled served hub.boot l.began.value l.pass q l.group l.number l.retired false x.j x.iface k x.called.turns x.apart x.offs a.slots cookies (Running cookies) results said rest x.called.held call refl refl (inl refl) well r settles;
          told = x.called.told;
        };
        not_open = refl;
        not_running = refl;
        not_left = refl;
        reply_is = reply_so (list_any is_orphan x.offs) orphaned x.orphaned_is;
        known = not_open orphaned;
      }
    where
      reply_so : (b o : Bool) → b ≡ o → (if b then Dropped else Ran said) ≡ ended_reply o said
      reply_so true true e = refl
      reply_so false false e = refl
      reply_so true false e = absurd cc
      reply_so false true e = absurd cc

      not_open : (o : Bool) → ended_reply o said ≡ Open → ⊥
      not_open true e = absurd cc
      not_open false e = absurd cc

  pub ended_gone : (m : Gone K) (q r : Pass) (why : Stop) (k : ℕ) (a : Asked) (cookies : List (Option ℕ)) (told : Bool) (results : List Outcome) (said : Said) (rest : HubRest) → IsGone shows may tables hub m why k a cookies
      → (told ≡ true → HasAsked hub.boot m.group k m.pass) → Meets (home_of hub.boot m.group) tables may a cookies told results said
      → CallsAt hub.boot m.group m.pass q (SettlesWith m.group (End k results said) rest)
      → Settles hub.boot rest q r → IsPassOf hub r → HasEnded shows may tables hub (record m { pass = r; retired = retired_after rest m.retired }) why
  ended_gone m q r why k a cookies told results said rest x asks meets call settles pass =
      let home = home_of hub.boot m.group in
      let req = request_of x.j x.iface in
      let marks = marked_left home k (asked_as m.number req a.slots) (past_at m.pass m.group) x.offs cookies x.held.made.stand.stand.0 in
      let well = meets_marked home (asked_as m.number req a.slots) a cookies told (list_any is_cancel x.offs) results said x.asked (λ t. sym marks.told ∙ asks t) meets in
      record {
        pass = pass;
        turns = request x.j x.iface x.offs (Accepted k a.slots (LeftEnded (run cookies results said))) ∷ x.turns;
        over = (refl, done_over x.turns x.done);
        none_runs = done_runs x.turns x.done;
        held = held_settled served hub.boot m.began.value m.pass q m.group m.number m.retired true x.j x.iface k x.turns x.apart x.offs a.slots cookies (LeftRunning cookies) results said rest x.held call refl refl (inr refl) well r settles;
        halted = x.halted (Accepted k a.slots (LeftEnded (run cookies results said)));
      }

  -- a pass is taken in behind the Leave
  pub gone_merged : (m : Gone K) (o q : Pass) (why : Stop) (k : ℕ) (a : Asked) (cookies : List (Option ℕ)) → IsGone shows may tables hub m why k a cookies → IsPassOf hub q → OwnsNone o
      → ((s : ℕ) → s < 16 → Merges hub.boot s (at_shard m.pass s) (at_shard o s) (at_shard q s)) → IsGone shows may tables hub (record m { pass = q }) why k a cookies
  gone_merged m o q why k a cookies x pass none merges =
      let before = request x.j x.iface x.offs (Accepted k a.slots (LeftRunning cookies)) ∷ x.turns in
      let still = still_merged served hub.boot m.began.value m.pass q m.group m.number m.retired true before x.held o none merges in
      record {
        pass = pass;
        j = x.j;
        iface = x.iface;
        offs = x.offs;
        turns = x.turns;
        done = x.done;
        apart = x.apart;
        asked = x.asked;
        runs = λ results suits. still.runs m.group k results (λ others said. tt) (x.runs results suits);
        held = held_merged served hub.boot m.began.value m.pass q m.group m.number m.retired true before x.held o none merges;
        halted = x.halted;
      }

-- what the worker's pass has seen is seen
pub asked_merged : (boot g k : ℕ) (p o q : Pass) → ((s : ℕ) → s < 16 → Merges boot s (at_shard p s) (at_shard o s) (at_shard q s)) → HasAsked boot g k o → HasAsked boot g k q
asked_merged boot g k p o q merges = asked_later boot g k o q (merges (shard_of g) (low_shard g)).other
