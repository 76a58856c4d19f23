-- What a request comes to.
use Rattle.std.proofs.Common.{◌≡◌, ◌≢◌, ℕ, ◌≤◌, ◌<◌, ◌+◌, ◌-◌, ◌==◌, Bool, true, false, not, ◌||◌, Option, Some, None, Ok, Err, List, [], ◌∷◌, inl, inr, length, get_or, slice_set, refl, sym, ap, subst, ◌∙◌, arith}
use Rattle.std.specs.Prelude.{IfOk, Result}
use Rattle.std.specs.List.{list_any}
use Rattle.std.proofs.lemmas.Bool.{false_from_ne_true}
use Rattle.std.proofs.lemmas.List.{set-get_or, get_or-set_same, length-set}
use Rattle.std.proofs.lemmas.Bool.Decides.{eqb_tells}
use Rattle.rpc_base.specs.declared.identifiers.Order.{Order}
use Rattle.rpc_base.specs.declared.identifiers.Status.{Status}
use Rattle.handle_model.specs.declared.entry.Slot.{Slot}
use Rattle.handle_model.specs.declared.entry.Asked.{Asked}
use Rattle.handle_model.specs.declared.entry.Entry.{Entry}
use Rattle.handle_model.specs.declared.entry.Entry.TheVariants.{Accept}
use Rattle.handle_model.specs.Limits.{accept_limit}
use Rattle.handle_model.specs.History.{History, with_entry}
use Rattle.handle_model.specs.Journal.{Legal, asked, waits, runs, slots, is_open, is_decided, has_joined, leaves, opened, filled}
use Rattle.handle_model.proofs.Tests.{and_right}
use Rattle.pdu_stream.specs.declared.joined.Joined.{Joined}
use Rattle.ndr_table.specs.Tables.{TableForm}
use Rattle.call_table.proofs.Calls.{decided_within}
use Rattle.group_core.specs.declared.answer.AcceptRefusal.{AcceptRefusal}
use Rattle.group_core.specs.declared.answer.AcceptRefusal.TheVariants.{Calls, Handles, Numbers, Memory}
use Rattle.group_core.specs.Adds.{Adds}
use Rattle.group_core.specs.Calls.{Accepts, numbered}
use Rattle.conn_histories.specs.Requests.{IsRefused, HasSlots, too_busy, no_memory}
use Rattle.conn_histories.specs.Requests.IsRefused.{no_operation, no_stub, no_room, full}
use Rattle.server_calls.specs.Suited.{never_full, Opened}
use Rattle.server_calls.specs.Laws.{NumberedStay}
use Rattle.conn_histories.specs.Entries.{asked_as}
use Rattle.conn_histories.specs.Tales.{whole}
use Rattle.manager_api.specs.Served.{tables_in}
use Rattle.desk_service.specs.State.{Services, tables_with}
use Rattle.desk_service.specs.Views.{services}
use Rattle.replay_world.specs.declared.peer.Member.{Member}
use Rattle.replay_world.specs.Worlds.{World, with_past, journal}
use Rattle.replay_world.specs.Events.{request}
use Rattle.replay_groups.specs.Keeps.{GroupsView, whole_of, past_at, Keeps, Has, Answers, Told}
use Rattle.replay_groups.specs.Keeps as groups
use Rattle.replay_groups.proofs.Keeping.{length_from, sound_is}
use Rattle.replay_groups.proofs.Asking.{has_where}
use Rattle.replay_groups.specs.Service.{service_of}
use Rattle.replay_groups.specs.declared.realm.Realm.{Realm}
use Rattle.replay_groups.specs.declared.request.Requested.{Requested}
use Rattle.replay_groups.specs.declared.request.Requested.TheVariants.{Refused, Accepted}
use Rattle.replay_groups.specs.Holding.{Holds, Moves, Known}
use Rattle.replay_groups.specs.Requests.{IsRequest, RequestsIn, IsLimited}

-- a request that is refused whatever the group says
pub refused_by : (tables : List TableForm) (iface op : ℕ) (order : Order) (stub : List ℕ) (Full : List Slot → Type 0) (status : Status) → IsRefused tables iface op order stub never_full status
    → IsRefused tables iface op order stub Full status
refused_by tables iface op order stub Full status (no_operation a b) = no_operation a b
refused_by tables iface op order stub Full status (no_stub o d a b e) = no_stub o d a b e
refused_by tables iface op order stub Full status (no_room o a b) = no_room o a b
refused_by tables iface op order stub Full status (full slots h f e) = absurd f

-- ---- a call that was just accepted

pub accepted_asked : (j : History) (k : ℕ) (a : Asked) → asked (with_entry j (Accept k a)) k ≡ Some a
accepted_asked j k a = elim (eqb_tells k k) [ inl e ↦ rw e.0 refl | inr e ↦ absurd (e.1 refl) ]

pub accepted_waits : (j : History) (k : ℕ) (a : Asked) → Legal (with_entry j (Accept k a)) → waits (with_entry j (Accept k a)) k ≡ true
accepted_waits j k a l =
    let top = l.0.fits.0 in
    let stands : is_open j a.conn ≡ true = l.0.fits.1 in
    let undecided : is_decided j k ≡ false = false_from_ne_true (is_decided j k) (λ d. let w = decided_within j k l.1 d in absurd (omega arith)) in
    let here : list_any (leaves a.conn) j.past ≡ false = false_from_ne_true (list_any (leaves a.conn) j.past) (λ g. let n = and_right (has_joined j a.conn) (not (list_any (leaves a.conn) j.past)) stands in let f = rw g at n in cc) in
    let e : asked (with_entry j (Accept k a)) k ≡ Some a = accepted_asked j k a in
    rw (e, here, undecided) refl

pub accepted_slots : (j : History) (k : ℕ) (a : Asked) → slots (with_entry j (Accept k a)) k ≡ a.slots
accepted_slots j k a = rw (accepted_asked j k a) refl

-- ---- the groups after it

low_in : (x : GroupsView) (g : ℕ) (pasts : List (List Entry)) → Has x g → Keeps x pasts → g - 1 < length pasts
low_in x g pasts has k = let count : length x.groups ≡ length pasts = ap length k.journals ∙ length_from x.boot 1 pasts in omega (arith, count, has.1)

has_after : (x y : GroupsView) (g : ℕ) (pasts : List (List Entry)) (new : List Entry) → Has x g → Keeps x pasts → Keeps y (slice_set pasts (g - 1) new) → Has y g
has_after x y g pasts new has k ky =
    let low = low_in x g pasts has k in
    let count : length (slice_set pasts (g - 1) new) ≡ length pasts = length-set pasts (g - 1) new in
    has_where y (slice_set pasts (g - 1) new) g ky has.0 (omega (arith, low, count))

abbrev pub accepted_of : ℕ → ℕ → ℕ → Asked → List (List Entry) → History
accepted_of b g k a pasts = with_entry (whole_of b g (past_at pasts g)) (Accept k (numbered (whole_of b g (past_at pasts g)) a))

-- the journal has the call now, and it waits
record IsJust (y : GroupsView) (b g k : ℕ) (a : Asked) (pasts : List (List Entry)) : Type 0 where
  new : List Entry
  has : Has y g
  boot : y.boot ≡ b
  keeps : Keeps y (slice_set pasts (g - 1) new)
  accepts : Accepts (whole_of b g (past_at pasts g)) a (Ok k) (whole_of b g new)
  now_is : whole_of b g (past_at (slice_set pasts (g - 1) new) g) ≡ accepted_of b g k a pasts
  waiting : waits (whole_of b g (past_at (slice_set pasts (g - 1) new) g)) k ≡ true

just : (x y : GroupsView) (b g k : ℕ) (a : Asked) → x.boot ≡ b → Has x g → Answers x g (λ j l. Accepts j a (Ok k) l) y → (pasts : List (List Entry)) → Keeps x pasts → IsJust y b g k a pasts
just x y b g k a boot has answers pasts keeps =
    let t = answers.1 pasts keeps in
    let set = slice_set pasts (g - 1) t.0 in
    let says : Accepts (whole_of b g (past_at pasts g)) a (Ok k) (whole_of b g t.0) = subst (λ (n : ℕ). Accepts (whole_of n g (past_at pasts g)) a (Ok k) (whole_of n g t.0)) boot t.1 in
    let has_new = has_after x y g pasts t.0 has keeps t.2 in
    let there : past_at set g ≡ t.0 = get_or-set_same pasts (g - 1) t.0 [] (low_in x g pasts has keeps) in
    let now_is : whole_of b g (past_at set g) ≡ accepted_of b g k a pasts = ap (whole_of b g) there ∙ says.2 in
    let boots : y.boot ≡ b = answers.0 ∙ boot in
    let legal : Legal (whole_of b g (past_at set g)) = subst (λ (n : ℕ). Legal (whole_of n g (past_at set g))) boots (sound_is y g set has_new t.2).legal in
    record {
      new = t.0;
      has = has_new;
      boot = boots;
      keeps = t.2;
      accepts = says;
      now_is = now_is;
      waiting = ap (λ (j : History). waits j k) now_is ∙ accepted_waits (whole_of b g (past_at pasts g)) k (numbered (whole_of b g (past_at pasts g)) a) (subst Legal now_is legal);
    }

abbrev pub IsOpenCall : ℕ → History → Type 0
IsOpenCall k j = (waits j k || runs j k) ≡ true

-- so the group has it, and knows that it waits
pub has_now : (old : Realm) (P : World Services → Type 0) (y : GroupsView) (g k : ℕ) (a : Asked) → Known old P → Has old.groups g → Answers old.groups g (λ j l. Accepts j a (Ok k) l) y → Has y g
has_now old P y g k a known has answers = (just old.groups y old.groups.boot g k a refl has answers known.1.groups known.2.keeps).has

pub waits_now : (old : Realm) (P : World Services → Type 0) (y : GroupsView) (g k : ℕ) (a : Asked) → Known old P → Has old.groups g → Answers old.groups g (λ j l. Accepts j a (Ok k) l) y → groups.Known y g (IsOpenCall k)
waits_now old P y g k a known has answers =
    let t = just old.groups y old.groups.boot g k a refl has answers known.1.groups known.2.keeps in
    let set = slice_set known.1.groups (g - 1) t.new in
    (set, t.keeps, subst (λ (n : ℕ). IsOpenCall k (whole_of n g (past_at set g))) (sym t.boot) (ap (λ (b : Bool). b || runs (whole_of old.groups.boot g (past_at set g)) k) t.waiting))

module _ (old new : Realm) (m : Member) (joined : Joined) (iface : ℕ) (tables : tables_in new.served ≡ tables_in old.served) (desks : services new.desks ≡ services old.desks) where
  pub accepted : (slots' : List Slot) (k : ℕ) (a : Asked) → Has old.groups m.group → Opened (tables_in old.served) iface joined.op joined.order joined.stub slots'
      → Answers old.groups m.group (λ j l. Accepts j (asked_as m.number (request joined iface) slots') (Ok k) l) new.groups
      → Told new.groups m.group (λ j. IsOpenCall k j → a ≡ record (asked_as m.number (request joined iface) slots') { slots = slots j k }) → NumberedStay
      → Moves old (RequestsIn m joined iface (Accepted k a)) new
  accepted slots' k a has opens answers told stay echo w h =
      let g = m.group in
      let asks = asked_as m.number (request joined iface) slots' in
      let t = just old.groups new.groups w.boot g k asks h.boot has answers w.groups h.keeps in
      let set = slice_set w.groups (g - 1) t.new in
      let j = whole_of w.boot g (past_at w.groups g) in
      let v = with_past w g t.new in
      let is : HasSlots (tables_with echo) iface joined.op joined.order joined.stub slots' = subst (λ (l : List TableForm). HasSlots l iface joined.op joined.order joined.stub slots') h.tables opens.has in
      let tells : IsOpenCall k (whole_of w.boot g (past_at set g)) → a ≡ record asks { slots = slots (whole_of w.boot g (past_at set g)) k } =
      subst (λ (n : ℕ). IsOpenCall k (whole_of n g (past_at set g)) → a ≡ record asks { slots = slots (whole_of n g (past_at set g)) k }) t.boot (told set t.keeps) in
      let a_is : a ≡ numbered j asks =
      tells (ap (λ (b : Bool). b || runs (whole_of w.boot g (past_at set g)) k) t.waiting)
      ∙ ap (λ (ss : List Slot). record asks { slots = ss }) (ap (λ (z : History). slots z k) t.now_is ∙ accepted_slots j k (numbered j asks)) in
      let filled_is = stay (tables_with echo) iface joined.op joined.order joined.stub slots' (opened j) is in
      let count : length (filled (opened j) slots') ≡ length slots' = filled_is.1 in
      let few : length slots' ≤ 4 = opens.few in (
        v,
        record {
          slots = slots';
          has = is;
          accepts = (t.new, t.accepts, refl);
          asked = ap (λ (z : History). asked z k) t.now_is ∙ accepted_asked j k (numbered j asks) ∙ ap Some (sym a_is);
          conn = ap (λ (z : Asked). z.conn) a_is;
          is_request = subst (IsRequest echo) (sym a_is) (record { has = filled_is.0; few = omega (arith, count, few) });
        },
        record { peers = refl; out = refl },
        record { keeps = t.keeps; boot = t.boot; desks = desks ∙ h.desks; echo_is = h.echo_is; tables = tables ∙ h.tables },
      )

  not_none : {A : Type 0} (o : Option A) (x : A) → o ≡ Some x → o ≢ None
  not_none o x s n = let a = s in let b = n in cc

  -- at a limit
  limits : (j l : History) (asks b : Asked) (why : AcceptRefusal) → why ≢ Memory → Accepts j asks (Err (b, why)) l → (accept_limit j asks.slots ≢ None) × Adds j [] l
  limits j l asks b Calls some a = (not_none (accept_limit j asks.slots) _ a.0, a.2)
  limits j l asks b Handles some a = (not_none (accept_limit j asks.slots) _ a.0, a.2)
  limits j l asks b Numbers some a = (not_none (accept_limit j asks.slots) _ a.0, a.2)
  limits j l asks b Memory some a = absurd (some refl)

  pub limited : (slots' : List Slot) (b : Asked) (why : AcceptRefusal) → why ≢ Memory → Opened (tables_in old.served) iface joined.op joined.order joined.stub slots'
      → Answers old.groups m.group (λ j l. Accepts j (asked_as m.number (request joined iface) slots') (Err (b, why)) l) new.groups
      → Moves old (RequestsIn m joined iface (Refused too_busy)) new
  limited slots' b why some opens answers echo w h =
      let g = m.group in
      let asks = asked_as m.number (request joined iface) slots' in
      let t = answers.1 w.groups h.keeps in
      let says = limits (whole_of old.groups.boot g (past_at w.groups g)) (whole_of old.groups.boot g t.0) asks b why some t.1 in
      let same : t.0 ≡ past_at w.groups g = ap (λ (j : History). j.past) says.1 in
      let back : slice_set w.groups (g - 1) t.0 ≡ w.groups = ap (slice_set w.groups (g - 1)) same ∙ set-get_or w.groups (g - 1) [] in (
        w,
        (
          record {
            cause = full slots' (subst (λ (l : List TableForm). HasSlots l iface joined.op joined.order joined.stub slots') h.tables opens.has) (subst (λ (n : ℕ). accept_limit (whole_of n g (past_at w.groups g)) slots' ≢ None) h.boot says.0) refl;
            memory = λ e. let n : 0x1C010014 ≡ 0x1C00001B = ap (λ (s : Status). s.0) e in omega (arith, n);
          },
          refl,
        ),
        record { peers = refl; out = refl },
        record { keeps = subst (Keeps new.groups) back t.2; boot = answers.0 ∙ h.boot; desks = desks ∙ h.desks; echo_is = h.echo_is; tables = tables ∙ h.tables },
      )

  refused_as : (slots' : List Slot) (b : Asked) (why : AcceptRefusal) (q : Requested) → IsLimited why q → Opened (tables_in old.served) iface joined.op joined.order joined.stub slots'
      → Answers old.groups m.group (λ j l. Accepts j (asked_as m.number (request joined iface) slots') (Err (b, why)) l) new.groups
      → Moves old (RequestsIn m joined iface q) new
  refused_as slots' b Calls q is opens answers = subst (λ (z : Requested). Moves old (RequestsIn m joined iface z) new) (sym is) (limited slots' b Calls (λ e. let n = e in cc) opens answers)
  refused_as slots' b Handles q is opens answers = subst (λ (z : Requested). Moves old (RequestsIn m joined iface z) new) (sym is) (limited slots' b Handles (λ e. let n = e in cc) opens answers)
  refused_as slots' b Numbers q is opens answers = subst (λ (z : Requested). Moves old (RequestsIn m joined iface z) new) (sym is) (limited slots' b Numbers (λ e. let n = e in cc) opens answers)
  refused_as slots' b Memory q is opens answers = absurd is

  pub limited_as : {E : Type 0} (slots' : List Slot) (b : Asked) (why : AcceptRefusal) (r : Result Requested E) → IfOk r (λ q. IsLimited why q) → Opened (tables_in old.served) iface joined.op joined.order joined.stub slots'
      → Answers old.groups m.group (λ j l. Accepts j (asked_as m.number (request joined iface) slots') (Err (b, why)) l) new.groups
      → IfOk r (λ q. Moves old (RequestsIn m joined iface q) new)
  limited_as slots' b why (Ok q) is opens answers = refused_as slots' b why q is opens answers
  limited_as slots' b why (Err e) is opens answers = is

-- a status that was tested to be another
pub other_status : (status : Status) → (status.0 == 0x1C00001B) ≡ false → status ≢ no_memory
other_status status is e = let n : status.0 ≡ 0x1C00001B = ap (λ (s : Status). s.0) e in elim (eqb_tells status.0 0x1C00001B) [ inl t ↦ let a = t.0 in cc | inr t ↦ t.1 n ]

-- whatever the group says
pub refused : (r : Realm) (m : Member) (joined : Joined) (iface : ℕ) (status : Status) → IsRefused (tables_in r.served) iface joined.op joined.order joined.stub never_full status → status ≢ no_memory
    → Moves r (RequestsIn m joined iface (Refused status)) r
refused r m joined iface status cause memory echo w h = (
  w,
  (
    record {
      cause = refused_by (tables_with echo) iface joined.op joined.order joined.stub (λ (ss : List Slot). accept_limit (journal w m.group) ss ≢ None) status
          (subst (λ (l : List TableForm). IsRefused l iface joined.op joined.order joined.stub never_full status) h.tables cause);
      memory = memory;
    },
    refl,
  ),
  record { peers = refl; out = refl },
  h,
)
