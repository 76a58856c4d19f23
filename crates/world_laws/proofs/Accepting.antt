-- A call that the server accepted is the one that the caller asked in its place.
use Rattle.std.proofs.Common.{◌≡◌, ℕ, zero, suc, inl, inr, Bool, true, false, ◌&&◌, Option, Some, None, List, [], ◌∷◌, ◌++◌, length, refl, sym, ap, subst, ◌∙◌, append_assoc, arith}
use Rattle.std.specs.Prelude.{slice_get}
use Rattle.std.specs.List.{list_all}
use Rattle.rpc_base.specs.declared.identifiers.SyntaxId.{SyntaxId}
use Rattle.handle_model.specs.declared.entry.Slot.{Slot}
use Rattle.handle_model.specs.declared.entry.Entry.{Entry}
use Rattle.handle_model.specs.declared.entry.Entry.TheVariants.{Accept}
use Rattle.handle_model.specs.History.{History}
use Rattle.pdu_stream.specs.declared.joined.Joined.{Joined}
use Rattle.group_core.specs.Calls.{numbered}
use Rattle.ndr_table.specs.Tables.{TableForm}
use Rattle.conn_asks.specs.declared.events.Act.TheVariants as acts
use Rattle.conn_histories.specs.Histories.{Event}
use Rattle.conn_histories.specs.Histories.Event.{Came, Paused, Did, Decided}
use Rattle.conn_histories.specs.Requests.{HasSlots}
use Rattle.conn_histories.specs.Entries.{asked_as}
use Rattle.world_laws.specs.Journals.{journal}
use Rattle.world_laws.specs.Ends.{ServerEnd, number_in}
use Rattle.world_laws.specs.Serving.{request, AcceptsRequest, Requests, Means}
use Rattle.world_laws.specs.Counts.{does_in, done}
use Rattle.world_laws.proofs.Lists.{some_is, OfMore, of_more}
use Rattle.world_laws.proofs.Lists.OfMore.{before, last}
use Rattle.world_laws.proofs.Quiet.{Grows}
use Rattle.world_laws.proofs.Serving.{Brings, brings, of_member, marked}
use Rattle.world_laws.proofs.Serving.Brings.{same, refused, accepts_it}
use Rattle.world_laws.proofs.Statics.{is_clean, is_bind, called, FrontOf, Whole}
use Rattle.world_laws.proofs.Statics.Whole.{unbound, bound}
use Rattle.world_laws.proofs.Phases.{number_there}

-- ---- the requests that came, by what was asked

and_parts : (a b : Bool) → (a && b) ≡ true → (a ≡ true) × (b ≡ true)
and_parts true b e = (refl, e)
and_parts false b e = absurd (cc (e))

bind_called : (e : Event) (later : List Event) → is_bind e ≡ true → called (e ∷ later) ≡ called later
bind_called (Decided decision octets) later h = refl
bind_called (Came octets) later h = absurd (cc (h))
bind_called Paused later h = absurd (cc (h))
bind_called (Did act) later h = absurd (cc (h))

bind_does : (e : Event) → is_bind e ≡ true → does_in e ≡ 0
bind_does (Decided decision octets) h = refl
bind_does (Came octets) h = absurd (cc (h))
bind_does Paused h = absurd (cc (h))
bind_does (Did act) h = absurd (cc (h))

called_append : (a b : List Event) → called (a ++ b) ≡ called a ++ called b
called_append [] b = refl
called_append (Did (acts.Call j number) ∷ later) b = ap (λ (x : List Joined). j ∷ x) (called_append later b)
called_append (Did (acts.Answer octets) ∷ later) b = called_append later b
called_append (Did (acts.Group asked) ∷ later) b = called_append later b
called_append (Did (acts.Cancel id) ∷ later) b = called_append later b
called_append (Did (acts.Orphan id) ∷ later) b = called_append later b
called_append (Did (acts.Close octets why) ∷ later) b = called_append later b
called_append (Came octets ∷ later) b = called_append later b
called_append (Paused ∷ later) b = called_append later b
called_append (Decided decision octets ∷ later) b = called_append later b

-- where nothing is answered without a call, each that came is a call
called_count : (all : List Event) → list_all is_clean all ≡ true → length (called all) ≡ done all
called_count [] h = refl
called_count (Did (acts.Call j number) ∷ later) h = omega (arith, called_count later (and_parts (is_clean (Did (acts.Call j number))) (list_all is_clean later) h).1)
called_count (Did (acts.Answer octets) ∷ later) h = absurd (cc (h))
called_count (Did (acts.Group asked) ∷ later) h = omega (arith, called_count later h)
called_count (Did (acts.Cancel id) ∷ later) h = omega (arith, called_count later h)
called_count (Did (acts.Orphan id) ∷ later) h = omega (arith, called_count later h)
called_count (Did (acts.Close octets why) ∷ later) h = absurd (cc (h))
called_count (Came octets ∷ later) h = omega (arith, called_count later h)
called_count (Paused ∷ later) h = omega (arith, called_count later h)
called_count (Decided decision octets ∷ later) h = omega (arith, called_count later h)

whole_called : (syntax : SyntaxId) (group : ℕ) (all : List Event) (js : List Joined) → Whole syntax group all js → FrontOf (called all) js
whole_called syntax group all js (unbound most lawful a) = a.calls
whole_called syntax group all js (bound most lawful decided later is binds so a) =
    subst (λ (x : List Joined). FrontOf x js) (sym (ap called is ∙ bind_called decided later binds)) a.calls

whole_count : (syntax : SyntaxId) (group : ℕ) (all : List Event) (js : List Joined) → Whole syntax group all js → length (called all) ≡ done all
whole_count syntax group all js (unbound most lawful a) = called_count all a.clean
whole_count syntax group all js (bound most lawful decided later is binds so a) =
    omega (arith, ap (λ (x : List Event). length (called x)) is, ap length (bind_called decided later binds), ap done is, bind_does decided binds, called_count later a.clean)

front_at : (given : List Joined) (j : Joined) (js : List Joined) → FrontOf (given ++ j ∷ []) js → slice_get js (length given) ≡ Some j
front_at [] j [] h = absurd h
front_at [] j (i ∷ js) h = ap (λ (x : Joined). Some x) (sym h.0)
front_at (a ∷ given) j [] h = absurd h
front_at (a ∷ given) j (i ∷ js) h = front_at given j js h.1

-- the request that came last is the one asked in its place
pub last_called : (syntax : SyntaxId) (group n : ℕ) (xs : List Event) (j : Joined) (iface : ℕ) (js : List Joined) → Whole syntax group xs js → Whole syntax group (xs ++ Did (acts.Call j iface) ∷ []) js → done xs ≡ n → slice_get js n ≡ Some j
last_called syntax group n xs j iface js w0 w count =
    let at = front_at (called xs) j js (subst (λ (x : List Joined). FrontOf x js) (called_append xs (Did (acts.Call j iface) ∷ [])) (whole_called syntax group (xs ++ Did (acts.Call j iface) ∷ []) js w)) in
    ap (slice_get js) (sym (whole_count syntax group xs js w0 ∙ count)) ∙ at

-- ---- what was accepted

-- the call in that place was accepted with that number, as it was asked
pub record WasAccepted (table : TableForm) (past : List Entry) (js : List Joined) (x k : ℕ) : Type 0 where
  pub joined : Joined
  pub at : slice_get js x ≡ Some joined
  pub iface : ℕ
  pub conn : ℕ
  pub slots : List Slot
  pub has : HasSlots (table ∷ []) iface joined.op joined.order joined.stub slots
  pub newer : List Entry
  pub older : List Entry
  pub is : past ≡ newer ++ Accept k (numbered (journal older) (asked_as conn (request joined iface) slots)) ∷ older

pub was_later : (table : TableForm) (past new : List Entry) (js : List Joined) (x k : ℕ) → Grows past new → WasAccepted table past js x k → WasAccepted table new js x k
was_later table past new js x k (newer, is) a = record {
  joined = a.joined;
  at = a.at;
  iface = a.iface;
  conn = a.conn;
  slots = a.slots;
  has = a.has;
  newer = newer ++ a.newer;
  older = a.older;
  is = is ∙ (ap (λ (y : List Entry). newer ++ y) a.is ∙ sym (append_assoc newer a.newer (Accept k (numbered (journal a.older) (asked_as a.conn (request a.joined a.iface) a.slots)) ∷ a.older)));
}

more_at : (a b : List Joined) (x : ℕ) (j : Joined) → slice_get a x ≡ Some j → slice_get (a ++ b) x ≡ Some j
more_at [] b x j h = absurd (cc (h))
more_at (i ∷ a) b zero j h = h
more_at (i ∷ a) b (suc x) j h = more_at a b x j h

pub was_with : (table : TableForm) (past : List Entry) (js more : List Joined) (x k : ℕ) → WasAccepted table past js x k → WasAccepted table past (js ++ more) x k
was_with table past js more x k a =
    record { joined = a.joined; at = more_at js more x a.joined a.at; iface = a.iface; conn = a.conn; slots = a.slots; has = a.has; newer = a.newer; older = a.older; is = a.is }

-- all that were accepted
abbrev pub AllAccepted : TableForm → List Entry → List Joined → List (Option ℕ) → Type 0
AllAccepted table past js numbers = (x k : ℕ) → number_in (slice_get numbers x) ≡ Some k → WasAccepted table past js x k

pub all_later : (table : TableForm) (past new : List Entry) (js : List Joined) (numbers : List (Option ℕ)) → Grows past new → AllAccepted table past js numbers → AllAccepted table new js numbers
all_later table past new js numbers grows h x k at = was_later table past new js x k grows (h x k at)

-- no call is accepted, and one may be refused
same_numbers : (table : TableForm) (past new : List Entry) (js : List Joined) (a b : List (Option ℕ)) → b ≡ a → Grows past new → AllAccepted table past js a → AllAccepted table new js b
same_numbers table past new js a b is grows h x k at = was_later table past new js x k grows (h x k (ap (λ (y : List (Option ℕ)). number_in (slice_get y x)) (sym is) ∙ at))

-- one is
accepts_one : (table : TableForm) (past new : List Entry) (s : ServerEnd) (j : Joined) (iface c k : ℕ) (js : List Joined) → slice_get js (length s.numbers) ≡ Some j → AcceptsRequest (table ∷ []) past c j iface k new
    → WasAccepted table new js (length s.numbers) k
accepts_one table past new s j iface c k js at a =
    let entry = Accept k (numbered (journal past) (asked_as c (request j iface) a.slots)) in
    let is : a.accepted ≡ entry ∷ past = ap (λ (h : History). h.past) a.accepts.2 in
    let (newer, whole) = (marked j.cancel a.accepted new k a.marked).grows in
    record { joined = j; at = at; iface = iface; conn = c; slots = a.slots; has = a.has; newer = newer; older = past; is = whole ∙ ap (λ (y : List Entry). newer ++ y) is }

of_last : (table : TableForm) (past new : List Entry) (js : List Joined) (numbers : List (Option ℕ)) (number : Option ℕ) (x k : ℕ) → Grows past new → AllAccepted table past js numbers
    → ((k : ℕ) → number ≡ Some k → WasAccepted table new js (length numbers) k) → OfMore numbers number x (Some k) → WasAccepted table new js x k
of_last table past new js numbers number x k grows h one (before found) = was_later table past new js x k grows (h x k (ap number_in found))
of_last table past new js numbers number x k grows h one (last place is) = subst (λ (n : ℕ). WasAccepted table new js n k) (sym place) (one k (sym is))

one_more : (table : TableForm) (past new : List Entry) (js : List Joined) (a b : List (Option ℕ)) (number : Option ℕ) → b ≡ a ++ number ∷ [] → Grows past new → AllAccepted table past js a
    → ((k : ℕ) → number ≡ Some k → WasAccepted table new js (length a) k) → AllAccepted table new js b
one_more table past new js a b number is grows h one x k at =
    of_last table past new js a number x k grows h one
    (of_more a number x (Some k) (ap (λ (y : List (Option ℕ)). slice_get y x) (sym is) ∙ number_there (slice_get b x) k at))

of_none : (o : Option ℕ) (k : ℕ) → o ≡ None → o ≡ Some k → ⊥
of_none o k a b = absurd (cc (a, b))

requests : (table : TableForm) (past new : List Entry) (s t : ServerEnd) (j : Joined) (iface c : ℕ) (js : List Joined) → Grows past new → slice_get js (length s.numbers) ≡ Some j → AllAccepted table past js s.numbers
    → Requests (table ∷ []) past s j iface c t new → AllAccepted table new js t.numbers
requests table past new s t j iface c js grows at h (inl (status, r, is, none)) =
    one_more table past new js s.numbers t.numbers None (ap (λ (x : ServerEnd). x.numbers) is) grows h (λ k e. absurd (of_none None k refl e))
requests table past new s t j iface c js grows at h (inr (k, a, is)) =
    one_more table past new js s.numbers t.numbers (Some k) (ap (λ (x : ServerEnd). x.numbers) is) grows h
    (λ i e. subst (λ (n : ℕ). WasAccepted table new js (length s.numbers) n) (some_is k i e) (accepts_one table past new s j iface c k js at a))

no_more : (past new : List Entry) (s t : ServerEnd) → Brings past new s t 0 → t.numbers ≡ s.numbers
no_more past new s t (same is quiet none) = is
no_more past new s t (refused is quiet one) = absurd (omega (arith, one))
no_more past new s t (accepts_it k is a one) = absurd (omega (arith, one))

-- what the server does accepts no other call than the next one that was asked
pub accepted_on : (table : TableForm) (past new : List Entry) (s t : ServerEnd) (event : Event) (js : List Joined) → is_clean event ≡ true → Grows past new → Means (table ∷ []) past s event t new
    → ((j : Joined) (iface : ℕ) → event ≡ Did (acts.Call j iface) → slice_get js (length s.numbers) ≡ Some j) → AllAccepted table past js s.numbers → AllAccepted table new js t.numbers
accepted_on table past new s t (Did (acts.Call j iface)) js clean grows m at h = let (c, r) = of_member s.member _ m.1 in requests table past new s t j iface c js grows (at j iface refl) h r
accepted_on table past new s t (Did (acts.Answer octets)) js clean grows m at h = absurd (cc (clean))
accepted_on table past new s t (Did (acts.Close octets why)) js clean grows m at h = absurd (cc (clean))
accepted_on table past new s t (Did (acts.Group asked)) js clean grows m at h = same_numbers table past new js s.numbers t.numbers (no_more past new s t (brings table past new s t (Did (acts.Group asked)) m)) grows h
accepted_on table past new s t (Did (acts.Cancel id)) js clean grows m at h = same_numbers table past new js s.numbers t.numbers (no_more past new s t (brings table past new s t (Did (acts.Cancel id)) m)) grows h
accepted_on table past new s t (Did (acts.Orphan id)) js clean grows m at h = same_numbers table past new js s.numbers t.numbers (no_more past new s t (brings table past new s t (Did (acts.Orphan id)) m)) grows h
accepted_on table past new s t (Came octets) js clean grows m at h = same_numbers table past new js s.numbers t.numbers (no_more past new s t (brings table past new s t (Came octets) m)) grows h
accepted_on table past new s t Paused js clean grows m at h = same_numbers table past new js s.numbers t.numbers (no_more past new s t (brings table past new s t Paused m)) grows h
accepted_on table past new s t (Decided decision octets) js clean grows m at h = same_numbers table past new js s.numbers t.numbers (no_more past new s t (brings table past new s t (Decided decision octets) m)) grows h
