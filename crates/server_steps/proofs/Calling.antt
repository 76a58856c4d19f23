-- Where a request comes to, by what its group answers of its call.
use Rattle.std.proofs.Common.{◌≡◌, ℕ, ◌+◌, ◌-◌, ◌^◌, ◌<◌, Bool, true, false, Option, List, [], ◌∷◌, ◌++◌, length, filter, refl, sym, ap, ◌∙◌, subst, arith}
use Rattle.std.specs.List.{list_any}
use Rattle.std.proofs.lemmas.List.{append_cancel_right, append-nil}
use Rattle.rpc_base.specs.declared.identifiers.Status.{Status}
use Rattle.rpc_outside.specs.Links.{Shown}
use Rattle.handle_model.specs.declared.entry.Home.{Home}
use Rattle.handle_model.specs.declared.entry.Slot.{Slot}
use Rattle.handle_model.specs.declared.entry.Asked.{Asked}
use Rattle.handle_model.specs.declared.entry.Entry.{Entry}
use Rattle.handle_model.specs.declared.entry.Entry.TheVariants.{Take, Deny, Cancel, Orphan}
use Rattle.handle_model.specs.Entries.{is_shut}
use Rattle.handle_model.specs.History.{History}
use Rattle.handle_model.specs.Slots.{opens}
use Rattle.handle_model.specs.Rules.{filled, suit}
use Rattle.handle_model.specs.Calls.{slots_in}
use Rattle.handle_model.specs.Journal.{slots, waits, cookies_for}
use Rattle.handle_model.specs.Replies.{cancelled as cancelled_status}
use Rattle.handle_model.specs.declared.reply.Reply.TheVariants.{Never, Dropped}
use Rattle.group_core.specs.declared.answer.Taking.{Taking}
use Rattle.group_core.specs.declared.answer.Taking.TheVariants as taking
use Rattle.group_core.specs.declared.answer.Cancelled.{Cancelled as CancelAnswer}
use Rattle.group_core.specs.declared.answer.Cancelled.TheVariants as cancels
use Rattle.group_core.specs.declared.answer.Orphaned.{Orphaned as OrphanAnswer}
use Rattle.group_core.specs.declared.answer.Orphaned.TheVariants as orphans
use Rattle.group_core.specs.Calls.{Takes, Cancels, Orphans, first_serial}
use Rattle.hub_story.specs.Histories.{home_of}
use Rattle.hub_story.specs.Passes.{slots_seen}
use Rattle.hub_story.specs.Still.{StillHas, IfTaken}
use Rattle.hub_story.specs.Still.{IsTaken as HubTaken}
use Rattle.group_hub.specs.declared.hub.Hub.{Hub}
use Rattle.group_hub.specs.declared.pass.Pass.{Pass}
use Rattle.group_hub.specs.Shards.{shard_of}
use Rattle.hub_story.specs.declared.item.Item.{Item}
use Rattle.group_hub.specs.Passes.{IsPassOf, at_shard, CallsAt, LooksAt}
use Rattle.hub_shard.specs.declared.answer.Retired.{Retired}
use Rattle.pdu_stream.specs.declared.joined.Joined.{Joined}
use Rattle.ndr_table.specs.Tables.{TableForm}
use Rattle.manager_api.specs.Answers.{Ans}
use Rattle.manager_api.specs.Calls.{Call}
use Rattle.conn_histories.specs.Requests.{IsRefused}
use Rattle.server_calls.specs.Suited.{never_full, suit_cookies}
use Rattle.conn_histories.specs.declared.turn.Off.{Off}
use Rattle.conn_histories.specs.declared.turn.Off.TheVariants as off
use Rattle.conn_histories.specs.declared.turn.Fate.{Fate}
use Rattle.conn_histories.specs.declared.turn.Fate.TheVariants.{Waiting, Running, Denied, Cancelled, Orphaned}
use Rattle.conn_histories.specs.declared.turn.Deed.TheVariants.{Refused, Accepted}
use Rattle.conn_histories.specs.declared.turn.Turn.{Turn}
use Rattle.conn_histories.specs.Entries.{has_left}
use Rattle.conn_histories.specs.Stories.{Server, Made, WasFull}
use Rattle.conn_histories.specs.Tales.{whole}
use Rattle.conn_turns.proofs.Making.{made_plain}
use Rattle.conn_turns.proofs.Stepping.{past_is, true_is, Onward, staged, TakenSo, taken, OffSo, cancelled_so, orphaned_so}
use Rattle.conn_turns.proofs.StepEnding.{made_tail}
use Rattle.conn_turns.proofs.Plain.{plain_refused, refused_so}
use Rattle.server_steps.specs.declared.line.Line.{Line}
use Rattle.server_steps.specs.Held.{past_at, Held}
use Rattle.server_steps.specs.Lines.{server}
use Rattle.server_steps.specs.Calls.{request, IsCalled, IsAsking, IsWaiting, IsCalledOff, IsTaken, IsSettled}
use Rattle.server_steps.specs.Steps.{TakesSo}
use Rattle.server_ends.specs.Owning.{Grown}
use Rattle.server_ends.proofs.PassLemmas.{grown_more}
use Rattle.server_steps.proofs.Suiting.{filled_first, first_small, taken_suits}
use Rattle.server_steps.proofs.Holding.{none_shut, one_shut, retired_still, Stepped, stepped, entered, marked}

-- ---- what has an open call

module _ (s : Server) (boot : ℕ) (p q r : Pass) (g c : ℕ) (retired : Option Retired) (j : Joined) (iface k : ℕ) (ts : List Turn) where
  abbrev open_turn : List Off → List Slot → Fate → Turn
  open_turn offs slots' fate = request j iface offs (Accepted k slots' fate)

  -- the pass has seen the slots of its call
  pub seen_slots : (offs : List Off) (slots' : List Slot) (fate : Fate) → has_left fate ≡ false → Held s boot p q g c retired false (open_turn offs slots' fate ∷ ts) → slots_seen (at_shard q (shard_of g)) g k ≡ slots'
  seen_slots offs slots' fate left h = ap slots_in (staged s (home_of boot g) (home_of boot g) c false j iface k ts (past_at q g) offs slots' fate h.mine left h.made).asks

  module _ (offs : List Off) (slots' : List Slot) (fate : Fate) (h : Held s boot p q g c retired false (open_turn offs slots' fate ∷ ts)) (Answers : History → History → Type 0) (call : CallsAt boot g q r Answers) where
    abbrev step : Stepped s boot q r g c false (open_turn offs slots' fate ∷ ts) h.mine Answers
    step = stepped s boot p q r g c retired false (open_turn offs slots' fate ∷ ts) h Answers call

    -- it goes on
    pub goes : (So : List Off → List Slot → Fate → Type 0) (o : Onward s (home_of boot g) c false j iface k ts step.before (step.es ++ step.before) h.mine So) → list_any is_shut step.es ≡ false
        → Held s boot p r g c retired false (open_turn o.offs o.slots o.fate ∷ ts)
    goes So o none =
        let same : o.es ≡ step.es = sym (append_cancel_right step.es o.es step.before o.is) in
        entered s boot p q r g c retired false (open_turn offs slots' fate ∷ ts) h Answers step o.es retired false (open_turn o.offs o.slots o.fate ∷ ts) same
        (subst (λ (z : List Entry × List Entry). Made s (home_of boot g) c z.0 false (open_turn o.offs o.slots o.fate ∷ ts) z.1) (λ i. (sym step.after i, o.grows i)) o.made)
        (h.retired_is ∙ retired_still g o.es h.mine (ap (list_any is_shut) same ∙ none))

-- ---- a look at a group enters nothing

grown_self : (s : ℕ) (p : Pass) → Grown s p p []
grown_self s p = record {
  fronts = λ t low. ([], sym (append-nil (at_shard p t).log));
  owns = ([], sym (append-nil (at_shard p s).own), refl);
  others = λ t low apart. refl;
}

pub looks_none : (boot g : ℕ) (p q : Pass) (Says : List Item → Type 0) → LooksAt boot g p q Says → Grown (shard_of g) p q []
looks_none boot g p q Says looks = grown_more boot (shard_of g) p p q [] looks.here.0 [] (grown_self (shard_of g) p) looks.here.1 looks.others

-- ---- which entries come

takes_plain : (home : Home) (before es : List Entry) (k : ℕ) (answer : Taking) → Takes (whole home before) k answer (whole home (es ++ before)) → list_any is_shut es ≡ false
takes_plain home before es k (taking.Run row serial) t = one_shut es before (Take k _) (past_is (whole home before) (whole home (es ++ before)) (Take k _ ∷ []) t.5) refl
takes_plain home before es k (taking.Denied slot) t = one_shut es before (Deny k slot) (past_is (whole home before) (whole home (es ++ before)) (Deny k slot ∷ []) t.3) refl
takes_plain home before es k taking.Dropped t = none_shut es before (past_is (whole home before) (whole home (es ++ before)) [] t.1)
takes_plain home before es k (taking.Wait m) t = none_shut es before (past_is (whole home before) (whole home (es ++ before)) [] t.2)

pub cancels_plain : (home : Home) (before es : List Entry) (k : ℕ) (answer : CancelAnswer) → Cancels (whole home before) k answer (whole home (es ++ before)) → list_any is_shut es ≡ false
cancels_plain home before es k cancels.Ended t = one_shut es before (Cancel k) (past_is (whole home before) (whole home (es ++ before)) (Cancel k ∷ []) t.1) refl
cancels_plain home before es k cancels.Flagged t = one_shut es before (Cancel k) (past_is (whole home before) (whole home (es ++ before)) (Cancel k ∷ []) t.1) refl
cancels_plain home before es k cancels.Late t = none_shut es before (past_is (whole home before) (whole home (es ++ before)) [] t.2)

pub orphans_plain : (home : Home) (before es : List Entry) (k : ℕ) (answer : OrphanAnswer) → Orphans (whole home before) k answer (whole home (es ++ before)) → list_any is_shut es ≡ false
orphans_plain home before es k orphans.Dropped t = one_shut es before (Orphan k) (past_is (whole home before) (whole home (es ++ before)) (Orphan k ∷ []) t.1) refl
orphans_plain home before es k orphans.Running t = one_shut es before (Orphan k) (past_is (whole home before) (whole home (es ++ before)) (Orphan k ∷ []) t.1) refl
orphans_plain home before es k orphans.Late t = none_shut es before (past_is (whole home before) (whole home (es ++ before)) [] t.2)

module _ {K : Type 0} (shows : K → Shown) (may : Call → Bool → Ans → Type 0) (tables : List TableForm) (hub : Hub) where
  abbrev served : Server
  served = server shows may tables hub

  -- ---- a request is refused

  pub settled_refused : (l : Line K) (j : Joined) (iface : ℕ) (status : Status) (x : IsAsking shows may tables hub l j iface)
      → IsRefused tables iface j.op j.order j.stub (WasFull served (home_of hub.boot l.group) l.number (past_at l.pass l.group) x.turns) status → IsSettled shows may tables hub l (Never status)
  settled_refused l j iface status x why =
      let h = x.held in
      let home = home_of hub.boot l.group in
      let past = past_at l.pass l.group in
      record {
        j = j;
        iface = iface;
        offs = [];
        deed = Refused status;
        called = record {
          pass = x.pass;
          serves = x.serves;
          turns = x.turns;
          done = x.done;
          held = record {
            items = h.items;
            grown = h.grown;
            mine = h.mine;
            own = h.own;
            others = h.others;
            joined = h.joined;
            made = made_plain served home l.number past false (request j iface [] (Refused status)) x.turns h.mine (plain_refused l.number j iface status) (refl, why) (made_tail served home l.number past j iface x.turns h.mine h.made);
            retired_is = h.retired_is;
            marks_are = h.marks_are;
          };
          told = x.told;
        };
        not_open = refl;
        not_running = refl;
        not_left = refl;
        reply_is = refl;
        known = λ e. absurd cc;
      }

  -- before its group is asked
  pub settled_early : (l : Line K) (j : Joined) (iface : ℕ) (status : Status) → IsAsking shows may tables hub l j iface → IsRefused tables iface j.op j.order j.stub never_full status → IsSettled shows may tables hub l (Never status)
  settled_early l j iface status x why =
      settled_refused l j iface status x (refused_so tables iface j.op j.order j.stub never_full (WasFull served (home_of hub.boot l.group) l.number (past_at l.pass l.group) x.turns) status (λ slots' f. absurd f) why)

  -- ---- a call is taken

  module _ (l : Line K) (q : Pass) (k : ℕ) (a : Asked) (x : IsWaiting shows may tables hub l k a) (answer : Taking) (call : CallsAt hub.boot l.group l.pass q (λ j z. Takes j k answer z))
      (pass : IsPassOf hub q) (still : StillHas (at_shard l.pass (shard_of l.group)) (at_shard q (shard_of l.group)) []) where
    abbrev home : Home
    home = home_of hub.boot l.group

    abbrev before_take : Stepped served hub.boot l.pass q l.group l.number false (request x.j x.iface [] (Accepted k x.slots Waiting) ∷ x.called.turns) x.called.held.mine (λ j z. Takes j k answer z)
    before_take = step served hub.boot l.began.value l.pass q l.group l.number l.retired x.j x.iface k x.called.turns [] x.slots Waiting x.called.held (λ j z. Takes j k answer z) call

    abbrev cookies_then : List (Option ℕ)
    cookies_then = cookies_for (whole home before_take.before) (slots (whole home before_take.before) k)

    took : Onward served home l.number false x.j x.iface k x.called.turns before_take.before (before_take.es ++ before_take.before) x.called.held.mine
        (TakenSo served home home l.number false x.j x.iface k x.called.turns x.apart [] x.slots cookies_then answer Waiting)
    took =
        taken served home home l.number false x.j x.iface k x.called.turns x.apart before_take.before (before_take.es ++ before_take.before) [] x.slots Waiting x.called.held.mine answer before_take.legal refl
        (λ o. x.unmarked) before_take.answers before_take.made

    held_took : Held served hub.boot l.began.value q l.group l.number l.retired false (request x.j x.iface took.offs (Accepted k took.slots took.fate) ∷ x.called.turns)
    held_took =
        goes served hub.boot l.began.value l.pass q l.group l.number l.retired x.j x.iface k x.called.turns [] x.slots Waiting x.called.held (λ j z. Takes j k answer z) call
        (TakenSo served home home l.number false x.j x.iface k x.called.turns x.apart [] x.slots cookies_then answer Waiting) took (takes_plain home before_take.before before_take.es k answer before_take.answers)

    -- with that fate
    called_then : (slots' : List Slot) (fate : Fate) → took.offs ≡ [] → took.slots ≡ slots' → took.fate ≡ fate → IsCalled shows may tables hub (record l { pass = q }) x.j x.iface [] [] (Accepted k slots' fate)
    called_then slots' fate offs_is slots_is fate_is = record {
      pass = pass;
      serves = still.serves l.group l.number tt x.called.serves;
      turns = x.called.turns;
      done = x.called.done;
      held =
          subst (λ (z : List Off × List Slot × Fate). Held served hub.boot l.began.value q l.group l.number l.retired false (request x.j x.iface z.0 (Accepted k z.1 z.2) ∷ x.called.turns))
          (λ i. (offs_is i, slots_is i, fate_is i)) held_took;
      told = x.called.told;
    }

    -- the slots before
    slots_before : slots (whole home before_take.before) k ≡ x.slots
    slots_before = ap slots_in (staged served home home l.number false x.j x.iface k x.called.turns before_take.before [] x.slots Waiting x.called.held.mine refl before_take.made).asks

    waited : waits (whole home before_take.before) k ≡ true
    waited = (staged served home home l.number false x.j x.iface k x.called.turns before_take.before [] x.slots Waiting x.called.held.mine refl before_take.made).waits_is

  takes_run : (l : Line K) (q : Pass) (k : ℕ) (a : Asked) (x : IsWaiting shows may tables hub l k a) (row : List (Option ℕ)) (serial : ℕ) (call : CallsAt hub.boot l.group l.pass q (λ j z. Takes j k (taking.Run row serial) z))
      → IsPassOf hub q → StillHas (at_shard l.pass (shard_of l.group)) (at_shard q (shard_of l.group)) [] → HubTaken (at_shard q (shard_of l.group)) l.group k serial → IsTaken shows may tables hub (record l { pass = q }) k a row serial
  unfolding called_then
  takes_run l q k a x row serial call pass still had =
      let o = took l q k a x (taking.Run row serial) call pass still in
      let b = before_take l q k a x (taking.Run row serial) call pass still in
      let cookies = cookies_then l q k a x (taking.Run row serial) call pass still in
      let now = called_then l q k a x (taking.Run row serial) call pass still x.slots (Running cookies) o.so.0 o.so.4 o.so.5 in
      let seen : slots_seen (at_shard q (shard_of l.group)) l.group k ≡ x.slots = seen_slots served hub.boot l.began.value q q l.group l.number l.retired x.j x.iface k x.called.turns [] x.slots (Running cookies) refl now.held in
      let first : serial ≡ first_serial (filled x.before a.slots) = had.serial_is ∙ ap first_serial (seen ∙ x.numbered) in
      let same : x.slots ≡ filled (serial - 1) a.slots = x.numbered ∙ sym (ap (λ (n : ℕ). filled (n - 1) a.slots) first ∙ filled_first x.before a.slots) in
      let small = first_small x.before a.slots in
      let fits = x.fits in
      record {
        cookies = cookies;
        running = record {
          j = x.j;
          iface = x.iface;
          offs = [];
          called = called_then l q k a x (taking.Run row serial) call pass still (filled (serial - 1) a.slots) (Running cookies) o.so.0 (o.so.4 ∙ same) o.so.5;
          has = still.has_call l.group l.number k tt x.has;
          apart = x.apart;
          unmarked = x.unmarked;
          asked = ap (λ (z : Asked). record z { slots = filled (serial - 1) a.slots }) x.asked;
          runs = λ results suits. had.runs results (subst (λ ss. suit ss results ≡ true) (sym (seen ∙ same)) suits);
          orphaned_is = refl;
        };
        opened = x.opened;
        fits = subst (λ (n : ℕ). (n - 1) + length (filter opens a.slots) < 2 ^ 32) (sym first) (omega arith);
        row_is = b.answers.3;
        suits =
            subst (λ ss. suit_cookies ss cookies ≡ true) (slots_before l q k a x (taking.Run row serial) call pass still ∙ same)
            (taken_suits (whole (home_of hub.boot l.group) b.before) (whole (home_of hub.boot l.group) (b.es ++ b.before)) k serial row b.legal b.answers);
      }

  pub takes_so : (l : Line K) (q : Pass) (k : ℕ) (a : Asked) (x : IsWaiting shows may tables hub l k a) (answer : Taking) (call : CallsAt hub.boot l.group l.pass q (λ j z. Takes j k answer z))
      → IsPassOf hub q → StillHas (at_shard l.pass (shard_of l.group)) (at_shard q (shard_of l.group)) [] → IfTaken (at_shard q (shard_of l.group)) l.group k answer → TakesSo shows may tables hub k a answer (record l { pass = q })
  unfolding called_then
  takes_so l q k a x (taking.Run row serial) call pass still had = takes_run l q k a x row serial call pass still had
  takes_so l q k a x (taking.Denied slot) call pass still had =
      let o = took l q k a x (taking.Denied slot) call pass still in
      record {
        j = x.j;
        iface = x.iface;
        offs = [];
        deed = Accepted k x.slots (Denied slot);
        called = called_then l q k a x (taking.Denied slot) call pass still x.slots (Denied slot) o.so.0 o.so.4 o.so.5;
        not_open = refl;
        not_running = refl;
        not_left = refl;
        reply_is = refl;
        known = λ e. absurd cc;
      }
  takes_so l q k a x taking.Dropped call pass still had =
      let b = before_take l q k a x taking.Dropped call pass still in true_is _ (waited l q k a x taking.Dropped call pass still) b.answers.0
  takes_so l q k a x (taking.Wait m) call pass still had =
      let o = took l q k a x (taking.Wait m) call pass still in
      record {
        j = x.j;
        iface = x.iface;
        slots = x.slots;
        called = called_then l q k a x (taking.Wait m) call pass still x.slots Waiting o.so.0 o.so.4 o.so.5;
        has = still.has_call l.group l.number k tt x.has;
        apart = x.apart;
        unmarked = x.unmarked;
        asked = x.asked;
        opened = x.opened;
        before = x.before;
        numbered = x.numbered;
        fits = x.fits;
      }

  -- a look at its group leaves it waiting
  pub waits_on : (l : Line K) (q : Pass) (k : ℕ) (a : Asked) (Says : List Item → Type 0) (x : IsWaiting shows may tables hub l k a) → LooksAt hub.boot l.group l.pass q Says → IsPassOf hub q
      → StillHas (at_shard l.pass (shard_of l.group)) (at_shard q (shard_of l.group)) [] → IsWaiting shows may tables hub (record l { pass = q }) k a
  waits_on l q k a Says x looks pass still =
      let turns = request x.j x.iface [] (Accepted k x.slots Waiting) ∷ x.called.turns in
      record {
        j = x.j;
        iface = x.iface;
        slots = x.slots;
        called = record {
          pass = pass;
          serves = still.serves l.group l.number tt x.called.serves;
          turns = x.called.turns;
          done = x.called.done;
          held = marked served hub.boot l.began.value l.pass q l.group l.number l.retired false turns x.called.held looks.here.0 [] looks.here.1 looks.others (λ o. refl);
          told = x.called.told;
        };
        has = still.has_call l.group l.number k tt x.has;
        apart = x.apart;
        unmarked = x.unmarked;
        asked = x.asked;
        opened = x.opened;
        before = x.before;
        numbered = x.numbered;
        fits = x.fits;
      }

  -- ---- a call that waits is called off

  module _ (l : Line K) (q : Pass) (k : ℕ) (pass : IsPassOf hub q) (still : StillHas (at_shard l.pass (shard_of l.group)) (at_shard q (shard_of l.group)) []) where
    settled_off : (o : Off) (fate : Fate) (x : IsCalledOff shows may tables hub l k o)
        → Held served hub.boot l.began.value q l.group l.number l.retired false (request x.j x.iface (o ∷ []) (Accepted k x.slots fate) ∷ x.called.turns)
        → IsCalled shows may tables hub (record l { pass = q }) x.j x.iface (o ∷ []) (o ∷ []) (Accepted k x.slots fate)
    settled_off o fate x h = record { pass = pass; serves = still.serves l.group l.number tt x.called.serves; turns = x.called.turns; done = x.called.done; held = h; told = x.called.told }

    pub cancels_so : (x : IsCalledOff shows may tables hub l k off.Cancel) (answer : CancelAnswer) (call : CallsAt hub.boot l.group l.pass q (λ j z. Cancels j k answer z)) → IsSettled shows may tables hub (record l { pass = q }) (Never cancelled_status)
    cancels_so x answer call =
        let home = home_of hub.boot l.group in
        let b = step served hub.boot l.began.value l.pass q l.group l.number l.retired x.j x.iface k x.called.turns [] x.slots Waiting x.called.held (λ j z. Cancels j k answer z) call in
        let o = cancelled_so served home home l.number false x.j x.iface k x.called.turns x.apart b.before (b.es ++ b.before) [] x.slots Waiting x.called.held.mine answer refl b.legal refl refl x.unmarked b.answers b.made in
        let held =
        goes served hub.boot l.began.value l.pass q l.group l.number l.retired x.j x.iface k x.called.turns [] x.slots Waiting x.called.held (λ j z. Cancels j k answer z) call
        (OffSo served home home l.number false x.j x.iface k x.called.turns x.apart off.Cancel [] x.slots Waiting) o (cancels_plain home b.before b.es k answer b.answers) in
        record {
          j = x.j;
          iface = x.iface;
          offs = off.Cancel ∷ [];
          deed = Accepted k x.slots Cancelled;
          called = settled_off off.Cancel Cancelled x
              (subst (λ (z : List Off × List Slot × Fate). Held served hub.boot l.began.value q l.group l.number l.retired false (request x.j x.iface z.0 (Accepted k z.1 z.2) ∷ x.called.turns))
              (λ i. (o.so.0 i, o.so.2 i, o.so.3 i)) held);
          not_open = refl;
          not_running = refl;
          not_left = refl;
          reply_is = refl;
          known = λ e. absurd cc;
        }

    pub orphans_so : (x : IsCalledOff shows may tables hub l k off.Orphan) (answer : OrphanAnswer) (call : CallsAt hub.boot l.group l.pass q (λ j z. Orphans j k answer z)) → IsSettled shows may tables hub (record l { pass = q }) Dropped
    orphans_so x answer call =
        let home = home_of hub.boot l.group in
        let b = step served hub.boot l.began.value l.pass q l.group l.number l.retired x.j x.iface k x.called.turns [] x.slots Waiting x.called.held (λ j z. Orphans j k answer z) call in
        let o = orphaned_so served home home l.number false x.j x.iface k x.called.turns x.apart b.before (b.es ++ b.before) [] x.slots Waiting x.called.held.mine answer refl b.legal refl refl x.unmarked b.answers b.made in
        let held =
        goes served hub.boot l.began.value l.pass q l.group l.number l.retired x.j x.iface k x.called.turns [] x.slots Waiting x.called.held (λ j z. Orphans j k answer z) call
        (OffSo served home home l.number false x.j x.iface k x.called.turns x.apart off.Orphan [] x.slots Waiting) o (orphans_plain home b.before b.es k answer b.answers) in
        record {
          j = x.j;
          iface = x.iface;
          offs = off.Orphan ∷ [];
          deed = Accepted k x.slots Orphaned;
          called = settled_off off.Orphan Orphaned x
              (subst (λ (z : List Off × List Slot × Fate). Held served hub.boot l.began.value q l.group l.number l.retired false (request x.j x.iface z.0 (Accepted k z.1 z.2) ∷ x.called.turns))
              (λ i. (o.so.0 i, o.so.2 i, o.so.3 i)) held);
          not_open = refl;
          not_running = refl;
          not_left = refl;
          reply_is = refl;
          known = λ e. absurd cc;
        }
