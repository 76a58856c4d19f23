-- Where a request comes to, by whether its group accepts its call.
use Rattle.std.proofs.Common.{◌≡◌, ◌==◌, ℕ, ◌+◌, ◌^◌, ◌<◌, Bool, true, false, Some, Ok, Err, Result, List, [], ◌∷◌, ◌++◌, length, filter, refl, sym, ap, ◌∙◌, subst}
use Rattle.std.specs.Prelude.{IfOk}
use Rattle.std.specs.List.{AllByRecursion}
use Rattle.std.proofs.lemmas.List.{append_cancel_right}
use Rattle.rpc_outside.specs.Links.{Shown}
use Rattle.handle_model.specs.declared.entry.Home.{Home}
use Rattle.handle_model.specs.declared.entry.Slot.{Slot}
use Rattle.handle_model.specs.declared.entry.Asked.{Asked}
use Rattle.handle_model.specs.declared.entry.Entry.{Entry}
use Rattle.handle_model.specs.declared.entry.Entry.TheVariants.{Accept, Cancel}
use Rattle.handle_model.specs.declared.limits.AcceptLimit.{AcceptLimit}
use Rattle.handle_model.specs.History.{History}
use Rattle.handle_model.specs.Slots.{opens}
use Rattle.handle_model.specs.Rules.{filled}
use Rattle.handle_model.specs.Limits.{accept_limit}
use Rattle.handle_model.specs.Journal.{Legal, opened}
use Rattle.handle_model.specs.Replies.{cancelled as cancelled_status}
use Rattle.handle_model.specs.declared.reply.Reply.TheVariants.{Never}
use Rattle.group_core.specs.declared.answer.AcceptRefusal.{AcceptRefusal}
use Rattle.group_core.specs.declared.answer.AcceptRefusal.TheVariants as refusal
use Rattle.group_core.specs.declared.answer.Cancelled.{Cancelled as CancelAnswer}
use Rattle.group_core.specs.Calls.{Accepts, Cancels}
use Rattle.hub_story.specs.Histories.{home_of}
use Rattle.hub_story.specs.Passes.{HasCall}
use Rattle.hub_story.specs.Calls.{IsNewCall}
use Rattle.hub_story.specs.Still.{StillHas, IsAccepted}
use Rattle.group_hub.specs.declared.hub.Hub.{Hub}
use Rattle.group_hub.specs.declared.pass.Pass.{Pass}
use Rattle.group_hub.specs.Shards.{shard_of}
use Rattle.group_hub.specs.Passes.{IsPassOf, at_shard, CallsAt}
use Rattle.pdu_stream.specs.declared.joined.Joined.{Joined}
use Rattle.ndr_table.specs.Tables.{TableForm}
use Rattle.manager_api.specs.Answers.{Ans}
use Rattle.manager_api.specs.Calls.{Call}
use Rattle.conn_histories.specs.Requests.{HasSlots, IsRefused, no_memory, too_busy}
use Rattle.conn_histories.specs.Requests.IsRefused.{no_room, full}
use Rattle.server_calls.specs.Ready.{request_of}
use Rattle.conn_histories.specs.declared.turn.Fate.TheVariants.{Waiting, Cancelled}
use Rattle.conn_histories.specs.declared.turn.Deed.TheVariants.{Pending, Accepted}
use Rattle.conn_histories.specs.declared.turn.Turn.{Turn}
use Rattle.conn_histories.specs.Entries.{asked_as, numbers_of}
use Rattle.conn_histories.specs.Stories.{Server, Made, WasFull}
use Rattle.conn_histories.specs.Tales.{whole}
use Rattle.conn_turns.proofs.Stepping.{past_is, legal_so}
use Rattle.conn_turns.proofs.StepEnding.{new_apart, made_waiting, made_tail, marked_so}
use Rattle.server_steps.specs.declared.line.Line.{Line}
use Rattle.server_steps.specs.Stops.{refused_as}
use Rattle.server_steps.specs.Held.{past_at}
use Rattle.server_steps.specs.Lines.{server}
use Rattle.server_steps.specs.Calls.{request, IsCalled, IsAsking, IsPrepared, IsWaiting, IsSettled}
use Rattle.server_steps.proofs.Suiting.{limit_small}
use Rattle.server_steps.proofs.Holding.{retired_still, Stepped, stepped, entered}
use Rattle.server_steps.proofs.Calling.{settled_refused}

module _ {K : Type 0} (shows : K → Shown) (may : Call → Bool → Ans → Type 0) (tables : List TableForm) (hub : Hub) where
  abbrev served : Server
  served = server shows may tables hub

  -- a call that waits, marked to be cancelled or not
  record Waits (l : Line K) (k : ℕ) (a : Asked) (j : Joined) (iface : ℕ) : Type 0 where
    pub slots : List Slot
    pub called : IsCalled shows may tables hub l j iface [] [] (Accepted k slots Waiting)
    pub has : HasCall (at_shard l.pass (shard_of l.group)) l.group l.number k
    pub apart : AllByRecursion (λ m. (k == m) ≡ false) (numbers_of called.turns)
    pub before : ℕ
    pub numbered : slots ≡ filled before a.slots
    pub fits : before + length (filter opens a.slots) < 2 ^ 32

  module _ (l : Line K) (q : Pass) (a : Asked) (marked : Bool) (x : IsPrepared shows may tables hub l a marked) (pass : IsPassOf hub q)
      (still : StillHas (at_shard l.pass (shard_of l.group)) (at_shard q (shard_of l.group)) []) where
    abbrev home : Home
    home = home_of hub.boot l.group

    abbrev ts : List Turn
    ts = x.called.turns

    abbrev Accepting : Result ℕ (Asked × AcceptRefusal) → History → History → Type 0
    Accepting answer j z = Accepts j a answer z × IfOk answer (λ k. IsNewCall k j)

    abbrev step : (answer : Result ℕ (Asked × AcceptRefusal)) → CallsAt hub.boot l.group l.pass q (Accepting answer) → Stepped served hub.boot l.pass q l.group l.number false (request x.j x.iface [] Pending ∷ ts) x.called.held.mine (Accepting answer)
    step answer call = stepped served hub.boot l.began.value l.pass q l.group l.number l.retired false (request x.j x.iface [] Pending ∷ ts) x.called.held (Accepting answer) call

    -- ---- it is accepted

    module _ (k : ℕ) (call : CallsAt hub.boot l.group l.pass q (Accepting (Ok k))) (had : IsAccepted (at_shard q (shard_of l.group)) l.group a.conn k a.slots) where
      abbrev b : Stepped served hub.boot l.pass q l.group l.number false (request x.j x.iface [] Pending ∷ ts) x.called.held.mine (Accepting (Ok k))
      b = step (Ok k) call

      abbrev first : ℕ
      first = opened (whole home b.before)

      abbrev entry : Entry
      entry = Accept k (asked_as l.number (request_of x.j x.iface) (filled first a.slots))

      accepts : Accepts (whole home b.before) (asked_as l.number (request_of x.j x.iface) a.slots) (Ok k) (whole home (b.es ++ b.before))
      accepts = subst (λ z. Accepts (whole home b.before) z (Ok k) (whole home (b.es ++ b.before))) x.asked b.answers.0

      grown : b.es ++ b.before ≡ entry ∷ b.before
      grown = past_is (whole home b.before) (whole home (b.es ++ b.before)) (entry ∷ []) accepts.2

      es_are : entry ∷ [] ≡ b.es
      es_are = sym (append_cancel_right b.es (entry ∷ []) b.before grown)

      legal : Legal (whole home (entry ∷ b.before))
      legal = legal_so home (entry ∷ b.before) (b.es ++ b.before) grown b.legal

      tail : Made served home l.number b.before false ts x.called.held.mine
      tail = made_tail served home l.number b.before x.j x.iface ts x.called.held.mine b.made

      has_slots : HasSlots tables x.iface x.j.op x.j.order x.j.stub a.slots
      has_slots = subst (λ (z : Asked). HasSlots tables z.iface z.op z.order z.stub a.slots) x.asked x.opened.has

      waits : Waits (record l { pass = q }) k a x.j x.iface
      waits = record {
        slots = filled first a.slots;
        called = record {
          pass = pass;
          serves = still.serves l.group l.number tt x.called.serves;
          turns = ts;
          done = x.called.done;
          held = entered served hub.boot l.began.value l.pass q l.group l.number l.retired false (request x.j x.iface [] Pending ∷ ts) x.called.held (Accepting (Ok k)) b (entry ∷ []) l.retired false
              (request x.j x.iface [] (Accepted k (filled first a.slots) Waiting) ∷ ts) es_are
              (subst (λ z. Made served home l.number z false (request x.j x.iface [] (Accepted k (filled first a.slots) Waiting) ∷ ts) (entry ∷ x.called.held.mine)) (sym (b.after ∙ grown))
              (made_waiting served home home l.number x.j x.iface k ts a.slots b.before x.called.held.mine tail legal has_slots))
              (x.called.held.retired_is ∙ retired_still l.group (entry ∷ []) x.called.held.mine refl);
          told = x.called.told;
        };
        has = subst (λ c. HasCall (at_shard q (shard_of l.group)) l.group c k) (ap (λ (z : Asked). z.conn) x.asked) had.has;
        apart = new_apart served home home l.number x.j x.iface k ts a.slots b.before x.called.held.mine tail legal has_slots;
        before = first;
        numbered = refl;
        fits = limit_small (whole home b.before) a.slots accepts.0;
      }

      pub accepted_so : marked ≡ false → IsWaiting shows may tables hub (record l { pass = q }) k a
      accepted_so un = record {
        j = x.j;
        iface = x.iface;
        slots = waits.slots;
        called = waits.called;
        has = waits.has;
        apart = waits.apart;
        unmarked = x.marked_is ∙ un;
        asked = x.asked;
        opened = x.opened;
        before = waits.before;
        numbered = waits.numbered;
        fits = waits.fits;
      }

      pub has_accepted : (conn : ℕ) × HasCall (at_shard q (shard_of l.group)) l.group conn k
      has_accepted = (a.conn, had.has)

      -- and cancelled at once
      pub accepted_marked : (r : Pass) (answer : CancelAnswer) → marked ≡ true → CallsAt hub.boot l.group q r (λ j z. Cancels j k answer z) → IsPassOf hub r
          → StillHas (at_shard q (shard_of l.group)) (at_shard r (shard_of l.group)) [] → IsSettled shows may tables hub (record l { pass = r }) (Never cancelled_status)
      accepted_marked r answer yes_ next pass' still' =
          let w = waits in
          let c = stepped served hub.boot l.began.value q r l.group l.number l.retired false (request x.j x.iface [] (Accepted k w.slots Waiting) ∷ w.called.turns) w.called.held (λ j z. Cancels j k answer z) next in
          let m = marked_so served home home l.number x.j x.iface k w.called.turns w.slots c.before (c.es ++ c.before) w.called.held.mine answer w.apart c.legal (x.marked_is ∙ yes_) c.answers c.made in
          record {
            j = x.j;
            iface = x.iface;
            offs = [];
            deed = Accepted k w.slots Cancelled;
            called = record {
              pass = pass';
              serves = still'.serves l.group l.number tt w.called.serves;
              turns = w.called.turns;
              done = w.called.done;
              held = entered served hub.boot l.began.value q r l.group l.number l.retired false (request x.j x.iface [] (Accepted k w.slots Waiting) ∷ w.called.turns) w.called.held (λ j z. Cancels j k answer z) c (Cancel k ∷ []) l.retired false
                  (request x.j x.iface [] (Accepted k w.slots Cancelled) ∷ w.called.turns) (sym (append_cancel_right c.es (Cancel k ∷ []) c.before m.0))
                  (subst (λ z. Made served home l.number z false (request x.j x.iface [] (Accepted k w.slots Cancelled) ∷ w.called.turns) (Cancel k ∷ w.called.held.mine)) (sym c.after) m.1)
                  (w.called.held.retired_is ∙ retired_still l.group (Cancel k ∷ []) w.called.held.mine refl);
              told = w.called.told;
            };
            not_open = refl;
            not_running = refl;
            not_left = refl;
            reply_is = refl;
            known = λ e. absurd cc;
          }

    -- ---- it isn't

    module _ (back : Asked) (why : AcceptRefusal) (call : CallsAt hub.boot l.group l.pass q (Accepting (Err (back, why)))) where
      abbrev d : Stepped served hub.boot l.pass q l.group l.number false (request x.j x.iface [] Pending ∷ ts) x.called.held.mine (Accepting (Err (back, why)))
      d = step (Err (back, why)) call

      -- nothing came
      abbrev Nothing_ : Type 0
      Nothing_ = d.es ++ d.before ≡ d.before

      asking : Nothing_ → IsAsking shows may tables hub (record l { pass = q }) x.j x.iface
      asking none = record {
        pass = pass;
        serves = still.serves l.group l.number tt x.called.serves;
        turns = ts;
        done = x.called.done;
        held = entered served hub.boot l.began.value l.pass q l.group l.number l.retired false (request x.j x.iface [] Pending ∷ ts) x.called.held (Accepting (Err (back, why))) d [] l.retired false
            (request x.j x.iface [] Pending ∷ ts) (sym (append_cancel_right d.es [] d.before none))
            (subst (λ z. Made served home l.number z false (request x.j x.iface [] Pending ∷ ts) x.called.held.mine) (sym (d.after ∙ none)) d.made) x.called.held.retired_is;
        told = x.called.told;
      }

      was_full : Nothing_ → (limit : AcceptLimit) → accept_limit (whole home d.before) a.slots ≡ Some limit → WasFull served home l.number (past_at q l.group) ts a.slots
      was_full none limit is =
          let m = made_tail served home l.number d.before x.j x.iface ts x.called.held.mine d.made in
          record {
            newer = [];
            older = d.before;
            moment = d.after ∙ none;
            before = m.stand;
            there = m.conns;
            limited = λ e. absurd (cc (sym is ∙ e));
          }

      has_slots' : HasSlots tables x.iface x.j.op x.j.order x.j.stub a.slots
      has_slots' = subst (λ (z : Asked). HasSlots tables z.iface z.op z.order z.stub a.slots) x.asked x.opened.has

      no_room_so : IsRefused tables x.iface x.j.op x.j.order x.j.stub (WasFull served home l.number (past_at q l.group) ts) no_memory
      no_room_so = no_room has_slots'.asked.operation has_slots'.asked.found refl

      full_so : Nothing_ → (limit : AcceptLimit) → accept_limit (whole home d.before) a.slots ≡ Some limit → IsRefused tables x.iface x.j.op x.j.order x.j.stub (WasFull served home l.number (past_at q l.group) ts) too_busy
      full_so none limit is = full a.slots has_slots' (was_full none limit is) refl

      nothing : Accepts (whole home d.before) a (Err (back, why)) (whole home (d.es ++ d.before)) → Nothing_
      nothing t = by why t
        where
          by : (w : AcceptRefusal) → Accepts (whole home d.before) a (Err (back, w)) (whole home (d.es ++ d.before)) → Nothing_
          by refusal.Calls t = past_is (whole home d.before) (whole home (d.es ++ d.before)) [] t.2
          by refusal.Handles t = past_is (whole home d.before) (whole home (d.es ++ d.before)) [] t.2
          by refusal.Numbers t = past_is (whole home d.before) (whole home (d.es ++ d.before)) [] t.2
          by refusal.Memory t = past_is (whole home d.before) (whole home (d.es ++ d.before)) [] t.1

      refused_by : Nothing_ → (w : AcceptRefusal) → Accepts (whole home d.before) a (Err (back, w)) (whole home (d.es ++ d.before))
          → IsRefused tables x.iface x.j.op x.j.order x.j.stub (WasFull served home l.number (past_at q l.group) ts) (refused_as w)
      refused_by none refusal.Calls t = full_so none _ t.0
      refused_by none refusal.Handles t = full_so none _ t.0
      refused_by none refusal.Numbers t = full_so none _ t.0
      refused_by none refusal.Memory t = no_room_so

      pub unaccepted_so : IsSettled shows may tables hub (record l { pass = q }) (Never (refused_as why))
      unfolding asking
      unaccepted_so =
          let none = nothing d.answers.0 in settled_refused shows may tables hub (record l { pass = q }) x.j x.iface (refused_as why) (asking none) (refused_by none why d.answers.0)
