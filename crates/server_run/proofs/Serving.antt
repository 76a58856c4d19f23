-- How a request is served.
use Rattle.std.proofs.Common.{◌≡◌, ℕ, ◌-◌, ◌≤◌, suc, Bool, false, Option, List, [], ◌∷◌, length, refl, sym, ap, ◌∙◌, subst}
use Rattle.handle_model.specs.declared.entry.Slot.{Slot}
use Rattle.rpc_outside.specs.Links.{Shown}
use Rattle.handle_model.specs.declared.entry.Asked.{Asked}
use Rattle.handle_model.specs.Rules.{filled, next_serial}
use Rattle.group_hub.specs.declared.hub.Hub.{Hub}
use Rattle.pdu_stream.specs.declared.joined.Joined.{Joined}
use Rattle.ndr_table.specs.Tables.{TableForm}
use Rattle.manager_api.specs.Answers.{Ans}
use Rattle.manager_api.specs.Calls.{Call}
use Rattle.server_calls.specs.Suited.{Opened}
use Rattle.server_calls.specs.declared.ready.Ready.{Ready}
use Rattle.server_calls.specs.Ready.{IsReady as IsMadeReady}
use Rattle.server_calls.specs.Ready.{request_of}
use Rattle.conn_histories.specs.Entries.{asked_as}
use Rattle.server_steps.specs.declared.line.Line.{Line}
use Rattle.ndr_value.specs.declared.value.Message.{Message}
use Rattle.ndr_value.specs.Values.{msg}
use Rattle.conn_histories.specs.Requests.{HasSlots, IsAsked}
use Rattle.conn_histories.specs.Ends.{row_of}
use Rattle.server_steps.specs.declared.wire.Wire.{Wire}
use Rattle.server_steps.specs.declared.working.Promised.{Promised}
use Rattle.server_steps.specs.declared.working.RunningCall.{RunningCall}
use Rattle.server_steps.specs.declared.working.Server.{Server}
use Rattle.server_steps.specs.declared.working.Worked.{Worked}
use Rattle.server_steps.specs.Works.{IsGiven, Works, WorksBy, Keeps}
use Rattle.server_steps.specs.Deeds.{AnswersRow, AnswersBy, AnswersAs}
use Rattle.server_steps.proofs.Cookies.{suit_length}
use Rattle.server_ends.specs.declared.ended.Finished.{Finished}
use Rattle.server_steps.specs.Lines.{IsSame}
use Rattle.server_steps.specs.Calls.{IsAsking, IsPrepared, IsTaken, IsRunning}
use Rattle.server_steps.specs.Endings.{IsGone}
use Rattle.server_run.specs.declared.calling.Went.{Went}
use Rattle.server_run.specs.declared.calling.Went.TheVariants as went
use Rattle.server_run.specs.declared.beside.Departed.{Departed}
use Rattle.server_run.specs.Running.{IsRow, Closing, HasDeparted, IsOverFrom, Goes}
use Rattle.server_run.proofs.Ends.{finishes_same}

-- a request whose call is ready
pub prepared_so : {K : Type 0} (shows : K → Shown) (may : Call → Bool → Ans → Type 0) (tables : List TableForm) (hub : Hub) (l : Line K) (j : Joined) (iface : ℕ) (r : Ready) → IsAsking shows may tables hub l j iface
    → IsMadeReady tables (asked_as l.number (request_of j iface) r.asked.slots) r → IsPrepared shows may tables hub l r.asked j.cancel
prepared_so shows may tables hub l j iface r x m = record {
  j = j;
  iface = iface;
  called = x;
  asked = m.asked;
  opened = subst (λ (a : Asked). Opened tables a.iface a.op a.order a.stub a.slots) (sym m.asked) m.opened;
  marked_is = refl;
}

-- ready for what it asks
pub ready_as : (tables : List TableForm) (a b : Asked) (r : Ready) → b ≡ a → IsMadeReady tables a r → IsMadeReady tables b r
ready_as tables a b r same m = subst (λ z. IsMadeReady tables z r) (sym same) m

-- ---- the slots and the cookies of a call

pub filled_length : (n : ℕ) (ss : List Slot) → length (filled n ss) ≡ length ss
filled_length n [] = refl
filled_length n (s ∷ ss) = ap suc (filled_length (next_serial n s) ss)

-- ---- a taken call

module _ {K : Type 0} (shows : K → Shown) (may : Call → Bool → Ans → Type 0) (tables : List TableForm) (hub : Hub) where
  -- it is run with its slots, numbered
  pub given_so : (others : List TableForm) (l : Line K) (k : ℕ) (a b : Asked) (row : List (Option ℕ)) (serial : ℕ) (message again : Message) → tables ≡ others → b ≡ record a { slots = filled (serial - 1) a.slots } → IsTaken shows may tables hub l k a row serial
      → IsAsked others a.iface a.op a.order a.stub (msg message) → IsAsked others a.iface a.op a.order a.stub (msg again) → IsGiven others b row message again
  given_so others l k a b row serial message again same is t m n =
      subst (λ (z : Asked). IsGiven others z row message again) (sym is)
      (subst (λ (z : List TableForm). IsAsked z a.iface a.op a.order a.stub (msg message) → IsAsked z a.iface a.op a.order a.stub (msg again) → IsGiven z (record a { slots = filled (serial - 1) a.slots }) row message again) same
      (λ m n. record {
        slots = subst (λ (z : Asked). HasSlots tables z.iface z.op z.order z.stub z.slots) (sym t.running.asked) t.running.called.held.made.due.0.0;
        few = subst (λ (x : ℕ). x ≤ 4) (sym (filled_length (serial - 1) a.slots)) t.opened.few;
        suits = (t.cookies, t.row_is, t.suits);
        message = m;
        again = n;
      }) m n)

  pub running_so : (l : Line K) (k : ℕ) (a b : Asked) (row cookies : List (Option ℕ)) (serial : ℕ) (t : IsTaken shows may tables hub l k a row serial) → b ≡ record a { slots = filled (serial - 1) a.slots } → cookies ≡ t.cookies
      → IsRunning shows may tables hub l k b cookies false
  running_so l k a b row cookies serial t same is = subst (λ (z : Asked × List (Option ℕ)). IsRunning shows may tables hub l k z.0 z.1 false) (λ i. (sym same i, sym is i)) t.running

  pub row_so : (l : Line K) (k : ℕ) (a b : Asked) (row cookies : List (Option ℕ)) (serial : ℕ) (t : IsTaken shows may tables hub l k a row serial) → b ≡ record a { slots = filled (serial - 1) a.slots } → cookies ≡ t.cookies → IsRow b cookies row
  row_so l k a b row cookies serial t same is = record {
    row_is = t.row_is ∙ ap (λ z. row_of z) (sym is);
    count = ap (λ (z : List (Option ℕ)). length z) is ∙ (suit_length (filled (serial - 1) a.slots) t.cookies t.suits ∙ sym (ap (λ (z : Asked). length z.slots) same));
  }

-- ---- a worker's promise

pub works_kept : {M P : Type 0} (tables : M → List TableForm) (may : M → Call → Bool → Ans → Type 0) (p q : Promised M P) (r : Worked P) (s : Server M) (c : RunningCall) → p ≡ q → q.manager.value ≡ s.manager.now → q.hub.value ≡ s.hub.now → q.asked.value ≡ c.asked.now
    → q.row ≡ c.row → q.group ≡ c.group → q.call ≡ c.call → Keeps tables may p r → WorksBy tables may s c r
works_kept {M = M} tables may p q r s c same manager hub asked row group call keeps =
    let k : Keeps tables may q r = subst (λ z. Keeps tables may z r) same keeps in
    subst (λ (z : M × Hub × Asked × List (Option ℕ) × ℕ × ℕ). (cookies : List (Option ℕ)) → z.3 ≡ row_of cookies → length cookies ≡ length z.2.slots → Works (tables z.0) (may z.0) z.1 z.4 z.5 z.2 cookies r)
    (λ i. (manager i, hub i, asked i, row i, group i, call i)) k

pub answers_kept : {M P : Type 0} (tables : M → List TableForm) (is_pass : M → P → Type 0) (enters : M → P → Call → Bool → Ans → P → Type 0) (p q : Promised M P) (r : Worked P) (s : Server M) (c : RunningCall) (before : P) → p ≡ q
    → q.manager.value ≡ s.manager.now → q.desks.value ≡ before → q.hub.value ≡ s.hub.now → q.asked.value ≡ c.asked.now → q.row ≡ c.row → q.group ≡ c.group → AnswersAs tables is_pass enters p r → AnswersBy tables is_pass enters s c before r
answers_kept {M = M} {P = P} tables is_pass enters p q r s c before same manager desks hub asked row group keeps =
    let k : AnswersAs tables is_pass enters q r = subst (λ z. AnswersAs tables is_pass enters z r) same keeps in
    subst (λ (z : M × P × Hub × Asked × List (Option ℕ) × ℕ). AnswersRow tables is_pass enters z.0 z.2 z.5 z.3 z.4 z.1 r) (λ i. (manager i, desks i, hub i, asked i, row i, group i)) k

module _ {K M : Type 0} (shows : K → Shown) (may : M → Call → Bool → Ans → Type 0) (tables : M → List TableForm) (s : Server M) where
  pub departed_so : (old l : Line K) (c : RunningCall) (cookies : List (Option ℕ)) (d : Departed K) (w : Wire K) → IsSame old l → l.group ≡ old.group → d.gone.began.value ≡ l.began.value → w.first.value ≡ l.wire.first.value → d.gone.wire.value ≡ w
      → d.gone.group ≡ l.group → IsGone shows (may s.manager.now) (tables s.manager.now) s.hub.now d.gone d.why c.call c.asked.now cookies → Closing shows (tables s.manager.now) w d.why d.link d.ending → HasDeparted shows may tables s old c cookies d
  departed_so old l c cookies d w same group began first wire of gone closing = record {
    began = began ∙ same.0;
    first = ap (λ z. z.first.value) wire ∙ (first ∙ same.1);
    group = of ∙ group;
    gone = gone;
    closing = subst (λ z. Closing shows (tables s.manager.now) z d.why d.link d.ending) (sym wire) closing;
  }

-- ---- one after another

pub same_then : {K : Type 0} (a b c : Line K) → IsSame a b → IsSame b c → IsSame a c
same_then a b c x y = (y.0 ∙ x.0, y.1 ∙ x.1)

module _ {K M : Type 0} (shows : K → Shown) (may : M → Call → Bool → Ans → Type 0) (tables : M → List TableForm) (s : Server M) where
  pub over_from : (a b : Line K) (r : Finished K) → IsSame a b → IsOverFrom shows may tables s b r → IsOverFrom shows may tables s a r
  over_from a b r same x = (x.0, finishes_same shows (may s.manager.now) (tables s.manager.now) s.hub.now.boot b.began.value a.began.value b.wire.first.value a.wire.first.value r same.0 same.1 x.1)

  pub goes_from : (a b : Line K) (w : Went K) → IsSame a b → Goes shows may tables s b w → Goes shows may tables s a w
  goes_from a b (went.On l) same x = (same_then a b l same x.0, x.1)
  goes_from a b (went.Stop l why) same x = (same_then a b l same x.0, x.1)
  goes_from a b (went.Drop l why k) same x = (same_then a b l same x.0, x.1)
  goes_from a b (went.Over r) same x = over_from a b r same x
