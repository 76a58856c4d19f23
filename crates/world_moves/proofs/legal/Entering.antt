-- What is entered keeps a journal legal and settled.
use Rattle.std.proofs.Common.{◌≡◌, ◌≢◌, ℕ, zero, suc, ◌+◌, ◌<◌, ◌≤◌, ◌⊎◌, inl, inr, Bool, true, false, cond, eqb, Option, Some, None, List, [], ◌∷◌, ◌++◌, length, refl, sym, ap, subst, arith}
use Rattle.std.specs.Prelude.{◌&&◌, ◌||◌, not, ◌==◌, slice_get, nat_le, if◌then◌else◌}
use Rattle.std.specs.Bool.{beq}
use Rattle.std.specs.List.{list_any, list_all}
use Rattle.std.proofs.lemmas.Bool.{eq-eqb, eqb-true, leb-true}
use Rattle.std.proofs.lemmas.List.{length-map}
use Rattle.rpc_base.specs.declared.identifiers.Order.{Order}
use Rattle.rpc_base.specs.declared.identifiers.WireHandle.{WireHandle}
use Rattle.handle_model.specs.declared.entry.Slot.{Slot}
use Rattle.handle_model.specs.declared.entry.Slot.TheVariants.{Shares, Holds, Changes, Opens}
use Rattle.handle_model.specs.declared.entry.Asked.{Asked}
use Rattle.handle_model.specs.declared.entry.Outcome.{Outcome}
use Rattle.handle_model.specs.declared.entry.Said.{Said}
use Rattle.handle_model.specs.declared.entry.DueItem.{DueItem}
use Rattle.handle_model.specs.declared.entry.Entry.{Entry}
use Rattle.handle_model.specs.declared.entry.Entry.TheVariants.{Join, Accept, Take, Deny, Cancel, Orphan, End, Leave, Shut}
use Rattle.handle_model.specs.declared.limits.JoinLimit.{JoinLimit}
use Rattle.handle_model.specs.Bases.{empty_base}
use Rattle.handle_model.specs.Entries.{is_shut, leaves}
use Rattle.handle_model.specs.History.{History, IsSound}
use Rattle.handle_model.specs.Journal.{join_count, has_joined, is_open, asked, slots, waits, runs, is_cancelled, is_orphaned, cookies_for, opened, suits, suit, Legal}
use Rattle.handle_model.specs.Limits.{join_limit}
use Rattle.handle_model.specs.Slots.{with_serial}
use Rattle.handle_model.proofs.Held.{left_joined, joined_within, length-filled}
use Rattle.handle_model.proofs.Tests.{and_left, and_right, or_right}
use Rattle.handle_model.proofs.Steps.{join_sound, accept_sound, take_sound, deny_sound, cancel_sound, orphan_sound, end_sound, end_shut_sound, leave_sound, leave_shut_sound}
use Rattle.group_core.specs.declared.answer.Cancelled.TheVariants as cancelled
use Rattle.group_core.specs.declared.answer.Orphaned.TheVariants as orphaned
use Rattle.group_core.specs.declared.answer.Rest.TheVariants as rest
use Rattle.group_core.specs.declared.answer.Taking.TheVariants as taking
use Rattle.group_core.specs.Adds.{Adds}
use Rattle.group_core.specs.Calls.{numbered, Takes}
use Rattle.group_core.proofs.Limits.{fits_join, fits_accept}
use Rattle.ndr_table.specs.declared.operation.HandleUse.{HandleUse}
use Rattle.ndr_table.specs.Tables.{TableForm}
use Rattle.manager_api.specs.declared.answer.Kept.{Kept}
use Rattle.manager_api.specs.declared.answer.Kept.TheVariants.{Stays, Cookie, Null}
use Rattle.manager_api.specs.Calls.{uses_or, is_stays, has_kepts}
use Rattle.conn_histories.specs.Requests.{HasSlots, uses_of, opening, slot_for, slots_for}
use Rattle.conn_histories.specs.Ends.{outcome_of, outcomes_of}
use Rattle.world_laws.specs.Journals.{home, journal, has_begun, is_there, by_limit, no_group, bind_refusal, next_conn, joined, Enters, Leaves, IsAccepted, IsCancelled, IsOrphaned}
use Rattle.world_laws.proofs.Lists.{some_is}

-- ---- slots

-- no more slots than handles
abbrev pub IsServed : TableForm → Asked → Type 0
IsServed table a = length a.slots ≤ length (uses_of (table ∷ []) a.iface a.op)

-- of each call that was accepted
abbrev pub AllServed : TableForm → List Entry → Type 0
AllServed table [] = Unit {0}
AllServed table (Accept k a ∷ past) = IsServed table a × AllServed table past
AllServed table (_ ∷ past) = AllServed table past

pub asked_served : (table : TableForm) (past : List Entry) (k : ℕ) (a : Asked) → AllServed table past → asked (journal past) k ≡ Some a → IsServed table a
asked_served table [] k a all h = absurd (cc (h))
asked_served table (Accept n b ∷ past) k a all h = by (n == k) h (λ e. asked_served table past k a all.1 e)
  where
    by : (is : Bool) → (if is then Some b else asked (journal past) k) ≡ Some a → (asked (journal past) k ≡ Some a → IsServed table a) → IsServed table a
    by true e go = subst (λ (x : Asked). IsServed table x) (some_is b a e) all.0
    by false e go = go e
asked_served table (End n results said ∷ past) k a all h = asked_served table past k a all h
asked_served table (Join c ∷ past) k a all h = asked_served table past k a all h
asked_served table (Take n cookies ∷ past) k a all h = asked_served table past k a all h
asked_served table (Deny n slot ∷ past) k a all h = asked_served table past k a all h
asked_served table (Cancel n ∷ past) k a all h = asked_served table past k a all h
asked_served table (Orphan n ∷ past) k a all h = asked_served table past k a all h
asked_served table (Leave c ∷ past) k a all h = asked_served table past k a all h
asked_served table (Shut items ∷ past) k a all h = asked_served table past k a all h

shorter : (b : Bool) (n : ℕ) (x y : List Slot) → length x ≤ n → length y ≤ n → length (if b then x else y) ≤ n
shorter true n x y p q = p
shorter false n x y p q = q

few_slots : (iface : ℕ) (us : List HandleUse) (ws : List WireHandle) → length (slots_for iface us ws) ≤ length us
few_slots iface [] ws = omega arith
few_slots iface (u ∷ us) [] = shorter u.inward (length (u ∷ us)) [] (opening iface u ∷ slots_for iface us []) (omega arith) (omega (arith, few_slots iface us []))
few_slots iface (u ∷ us) (w ∷ ws) =
    shorter u.inward (length (u ∷ us)) (slot_for iface u w ∷ slots_for iface us ws) (opening iface u ∷ slots_for iface us (w ∷ ws)) (omega (arith, few_slots iface us ws)) (omega (arith, few_slots iface us (w ∷ ws)))

few_at : (uses : List (List HandleUse)) (op : ℕ) → list_all (λ us. nat_le (length us) 4) uses ≡ true → length (uses_or (slice_get uses op)) ≤ 4
few_at [] op h = omega arith
few_at (us ∷ more) zero h = leb-true (length us) 4 (and_left (nat_le (length us) 4) (list_all (λ vs. nat_le (length vs) 4) more) h)
few_at (us ∷ more) (suc op) h = few_at more op (and_right (nat_le (length us) 4) (list_all (λ vs. nat_le (length vs) 4) more) h)

pub few_uses : (table : TableForm) (iface op : ℕ) → list_all (λ us. nat_le (length us) 4) table.uses ≡ true → length (uses_of (table ∷ []) iface op) ≤ 4
few_uses table zero op h = few_at table.uses op h
few_uses table (suc iface) op h = omega arith

pub slots_served : (table : TableForm) (iface op : ℕ) (order : Order) (stub : List ℕ) (ss : List Slot) → HasSlots (table ∷ []) iface op order stub ss → length ss ≤ length (uses_of (table ∷ []) iface op)
slots_served table iface op order stub ss h =
    omega (arith, length-map ss (with_serial 0), ap (λ (x : List Slot). length x) h.slots_are, few_slots iface (uses_of (table ∷ []) iface op) h.message.wires)

-- ---- results

outcome_suits : (s : Slot) (k : Kept) → suits s (outcome_of s k) ≡ true
outcome_suits (Shares kind wire) k = refl
outcome_suits (Holds kind wire) k = refl
outcome_suits (Changes kind wire) Stays = refl
outcome_suits (Changes kind wire) (Cookie c) = refl
outcome_suits (Changes kind wire) Null = refl
outcome_suits (Opens kind serial) Stays = refl
outcome_suits (Opens kind serial) (Cookie c) = eq-eqb serial serial refl
outcome_suits (Opens kind serial) Null = refl

both_true : (a b : Bool) → a ≡ true → b ≡ true → (a && b) ≡ true
both_true true b p q = q
both_true false b p q = absurd (cc (p))

pub outcomes_suit : (ss : List Slot) (ks : List Kept) → length ss ≤ length ks → suit ss (outcomes_of ss ks) ≡ true
outcomes_suit [] [] few = refl
outcomes_suit [] (k ∷ ks) few = refl
outcomes_suit (s ∷ ss) [] few = absurd (omega (arith, few))
outcomes_suit (s ∷ ss) (k ∷ ks) few = both_true (suits s (outcome_of s k)) (suit ss (outcomes_of ss ks)) (outcome_suits s k) (outcomes_suit ss ks (omega (arith, few)))

pub kept_count : (us : List HandleUse) (ks : List Kept) → has_kepts us ks ≡ true → length ks ≡ length us
kept_count [] [] h = refl
kept_count [] (k ∷ ks) h = absurd (cc (h))
kept_count (u ∷ us) [] h = absurd (cc (h))
kept_count (u ∷ us) (k ∷ ks) h = omega (arith, kept_count us ks (and_right (beq (is_stays k) (not u.outward)) (has_kepts us ks) h))

-- ---- a journal that says so has begun

open_begun : (past : List Entry) (c : ℕ) → is_open (journal past) c ≡ true → has_begun past ≡ true
open_begun [] c h = absurd (cc (h))
open_begun (e ∷ past) c h = refl

waits_begun : (past : List Entry) (k : ℕ) → waits (journal past) k ≡ true → has_begun past ≡ true
waits_begun [] k h = absurd (cc (h))
waits_begun (e ∷ past) k h = refl

runs_begun : (past : List Entry) (k : ℕ) → runs (journal past) k ≡ true → has_begun past ≡ true
runs_begun [] k h = absurd (cc (h))
runs_begun (e ∷ past) k h = refl

pub begun_before : (past new : List Entry) → (has_begun past ≡ false → has_begun new ≡ false) → has_begun new ≡ true → has_begun past ≡ true
begun_before [] new f h = absurd (cc (f refl, h))
begun_before (e ∷ past) new f h = refl

-- ---- what is entered

-- The journal stays legal and settled, and each connection stays open but for one that leaves.
pub record Step (table : TableForm) (past new : List Entry) (gone : Option ℕ) : Type 0 where
  pub sound : IsSound (journal new)
  pub served : AllServed table new
  pub stays : (d : ℕ) → is_open (journal past) d ≡ true → gone ≢ Some d → is_open (journal new) d ≡ true
  pub begins : has_begun past ≡ false → has_begun new ≡ false

pub still : (table : TableForm) (past new : List Entry) (gone : Option ℕ) → new ≡ past → IsSound (journal past) → AllServed table past → Step table past new gone
still table past new gone e s a = subst (λ (x : List Entry). Step table past x gone) (sym e) (record { sound = s; served = a; stays = λ d o n. o; begins = λ b. b })

pub then_step : (table : TableForm) (a b c : List Entry) → Step table a b None → Step table b c None → Step table a c None
then_step table a b c x y = record {
  sound = y.sound;
  served = y.served;
  stays = λ d o n. y.stays d (x.stays d o n) n;
  begins = λ none. y.begins (x.begins none);
}

added : (past new entries : List Entry) → Adds (journal past) entries (journal new) → new ≡ entries ++ past
added past new entries h = ap (λ (j : History). j.past) h

-- these entries, the newest first
adds : (table : TableForm) (past new entries : List Entry) (gone : Option ℕ) → Adds (journal past) entries (journal new) → IsSound (journal (entries ++ past)) → AllServed table (entries ++ past)
    → ((d : ℕ) → is_open (journal past) d ≡ true → gone ≢ Some d → is_open (journal (entries ++ past)) d ≡ true) → has_begun past ≡ true → Step table past new gone
adds table past new entries gone h s a o b =
    subst (λ (x : List Entry). Step table past x gone) (sym (added past new entries h)) (record { sound = s; served = a; stays = o; begins = λ none. absurd (cc (b, none)) })

-- an End, and the Shut behind it where it is due
pub end_step : (table : TableForm) (past new : List Entry) (k : ℕ) (results : List Outcome) (said : Said) → IsSound (journal past) → AllServed table past → runs (journal past) k ≡ true
    → suit (slots (journal past) k) results ≡ true → Enters past (End k results said) new → Step table past new None
end_step table past new k results said s a r f (rest.Stays, (due_, h)) =
    adds table past new (End k results said ∷ []) None h (end_sound (journal past) k results said s (r, f) due_) a (λ d o n. o) (runs_begun past k r)
end_step table past new k results said s a r f (rest.Shut items, (due_, are, h)) =
    adds table past new (Shut items ∷ End k results said ∷ []) None h
    (subst (λ (x : List DueItem). IsSound (journal (Shut x ∷ End k results said ∷ past))) (sym are) (end_shut_sound (journal past) k results said s (r, f) due_)) a (λ d o n. o) (runs_begun past k r)

-- another connection stays open
open_by : (b j l : Bool) → b ≡ false → (j && not l) ≡ true → (j && not (b || l)) ≡ true
open_by true j l e h = absurd (cc (e))
open_by false j l e h = h

other_number : (c d : ℕ) (b : Bool) → eqb c d ≡ b → Some c ≢ Some d → eqb c d ≡ false
other_number c d true e n = absurd (n (ap (λ (x : ℕ). Some x) (eqb-true c d e)))
other_number c d false e n = e

still_open : (past : List Entry) (c d : ℕ) → is_open (journal past) d ≡ true → Some c ≢ Some d → is_open (journal (Leave c ∷ past)) d ≡ true
still_open past c d o n = open_by (eqb c d) (has_joined (journal past) d) (list_any (leaves d) past) (other_number c d (eqb c d) refl n) o

pub leave_step : (table : TableForm) (past new : List Entry) (member : Option ℕ) → IsSound (journal past) → AllServed table past → ((c : ℕ) → member ≡ Some c → is_open (journal past) c ≡ true)
    → Leaves member past new → Step table past new member
leave_step table past new None s a o h = still table past new None h s a
leave_step table past new (Some c) s a o (rest.Stays, (due_, h)) =
    adds table past new (Leave c ∷ []) (Some c) h (leave_sound (journal past) c s (o c refl) due_) a (λ d p n. still_open past c d p n) (open_begun past c (o c refl))
leave_step table past new (Some c) s a o (rest.Shut items, (due_, are, h)) =
    adds table past new (Shut items ∷ Leave c ∷ []) (Some c) h
    (subst (λ (x : List DueItem). IsSound (journal (Shut x ∷ Leave c ∷ past))) (sym are) (leave_shut_sound (journal past) c s (o c refl) due_)) a (λ d p n. still_open past c d p n)
    (open_begun past c (o c refl))

or_left : (a b : Bool) → a ≡ true → (a || b) ≡ true
or_left true b h = refl
or_left false b h = absurd (cc (h))

pub cancel_step : (table : TableForm) (past new : List Entry) (k : ℕ) → IsSound (journal past) → AllServed table past → IsCancelled past k new → Step table past new None
cancel_step table past new k s a (cancelled.Ended, (w, h)) =
    let j = journal past in
    adds table past new (Cancel k ∷ []) None h (cancel_sound j k s (or_left (waits j k) (runs j k && not (is_cancelled j k)) w)) a (λ d o n. o) (waits_begun past k w)
cancel_step table past new k s a (cancelled.Flagged, (r, h)) =
    let j = journal past in
    adds table past new (Cancel k ∷ []) None h (cancel_sound j k s (or_right (waits j k) (runs j k && not (is_cancelled j k)) r)) a (λ d o n. o)
    (runs_begun past k (and_left (runs j k) (not (is_cancelled j k)) r))
cancel_step table past new k s a (cancelled.Late, (w, r, h)) = still table past new None (added past new [] h) s a

pub orphan_step : (table : TableForm) (past new : List Entry) (k : ℕ) → IsSound (journal past) → AllServed table past → IsOrphaned past k new → Step table past new None
orphan_step table past new k s a (orphaned.Dropped, (w, h)) =
    let j = journal past in
    adds table past new (Orphan k ∷ []) None h (orphan_sound j k s (or_left (waits j k) (runs j k && not (is_orphaned j k)) w)) a (λ d o n. o) (waits_begun past k w)
orphan_step table past new k s a (orphaned.Running, (r, h)) =
    let j = journal past in
    adds table past new (Orphan k ∷ []) None h (orphan_sound j k s (or_right (waits j k) (runs j k && not (is_orphaned j k)) r)) a (λ d o n. o)
    (runs_begun past k (and_left (runs j k) (not (is_orphaned j k)) r))
orphan_step table past new k s a (orphaned.Late, (w, r, h)) = still table past new None (added past new [] h) s a

pub take_step : (table : TableForm) (past new : List Entry) (k serial : ℕ) (row : List (Option ℕ)) → IsSound (journal past) → AllServed table past → Takes (journal past) k (taking.Run row serial) (journal new) → Step table past new None
take_step table past new k serial row s a (w, free, fine, row_is, serial_is, h) =
    let j = journal past in
    adds table past new (Take k (cookies_for j (slots j k)) ∷ []) None h (take_sound j k (cookies_for j (slots j k)) s (w, free, fine, refl)) a (λ d o n. o) (waits_begun past k w)

pub deny_step : (table : TableForm) (past new : List Entry) (k slot : ℕ) → IsSound (journal past) → AllServed table past → Takes (journal past) k (taking.Denied slot) (journal new) → Step table past new None
deny_step table past new k slot s a (w, free, fault_, h) =
    adds table past new (Deny k slot ∷ []) None h (deny_sound (journal past) k slot s (w, free, fault_)) a (λ d o n. o) (waits_begun past k w)

pub accept_step : (table : TableForm) (past new : List Entry) (a : Asked) (k : ℕ) → IsSound (journal past) → AllServed table past → is_open (journal past) a.conn ≡ true → length a.slots ≤ 4 → IsServed table a
    → IsAccepted past a k new → Step table past new None
accept_step table past new a k s all o few serves (limit, is, h) =
    let j = journal past in
    let b = numbered j a in
    let serves_ : IsServed table b = (let n = length-filled (opened j) a.slots in omega (arith, n, serves)) in
    adds table past new (Accept k b ∷ []) None h (accept_sound j k b s (fits_accept j a b k o few limit is refl)) (serves_, all) (λ d p n. p) (open_begun past a.conn o)

-- ---- a connection joins

none_before : (past : List Entry) → has_begun past ≡ false → past ≡ []
none_before [] h = refl
none_before (e ∷ past) h = absurd (cc (h))

no_limit : (limit : Option JoinLimit) → by_limit limit ≡ None → limit ≡ None
no_limit None h = refl
no_limit (Some limit) h = absurd (cc (h))

was_there : (there : Bool) (limit : Option JoinLimit) → cond there (by_limit limit) (Some no_group) ≡ None → (there ≡ true) × (limit ≡ None)
was_there true limit h = (refl, no_limit limit h)
was_there false limit h = absurd (cc (h))

not_shut : (b : Bool) → not b ≡ true → b ≡ false
not_shut true h = absurd (cc (h))
not_shut false h = refl

-- a new group was asked for, or the group was there and no limit was reached
pub join_cases : (past : List Entry) (asked_ : ℕ) → bind_refusal past asked_ ≡ None → (asked_ ≡ 0) ⊎ ((has_begun past ≡ true) × (list_any is_shut past ≡ false) × (join_limit (journal past) ≡ None))
join_cases past asked_ h = by (eqb asked_ 0) refl h
  where
    by : (b : Bool) → eqb asked_ 0 ≡ b → cond b None (cond (is_there past) (by_limit (join_limit (journal past))) (Some no_group)) ≡ None
        → (asked_ ≡ 0) ⊎ ((has_begun past ≡ true) × (list_any is_shut past ≡ false) × (join_limit (journal past) ≡ None))
    by true e g = inl (eqb-true asked_ 0 e)
    by false e g =
        let w = was_there (is_there past) (join_limit (journal past)) g in
        inr (and_left (has_begun past) (not (list_any is_shut past)) w.0, not_shut (list_any is_shut past) (and_right (has_begun past) (not (list_any is_shut past)) w.0), w.1)

join_first : (past : List Entry) → past ≡ [] → IsSound (journal past) → IsSound (journal (joined past))
join_first past e s =
    subst (λ (x : List Entry). IsSound (journal (joined x))) (sym e) (join_sound (journal []) 1 (subst (λ (x : List Entry). IsSound (journal x)) e s) refl (refl, omega arith))

pub joined_sound : (past : List Entry) (asked_ : ℕ) → bind_refusal past asked_ ≡ None → (asked_ ≡ 0 → has_begun past ≡ false) → IsSound (journal past) → IsSound (journal (joined past))
joined_sound past asked_ h first s = elim (join_cases past asked_ h) [
  | inl new ↦ join_first past (none_before past (first new)) s
  | inr old ↦ join_sound (journal past) (next_conn past) s old.1 (fits_join (journal past) (next_conn past) old.2 refl)
]

-- it is open, others stay open, and it has a number of its own
never_left : (past : List Entry) (c : ℕ) (b : Bool) → Legal (journal past) → join_count (journal past) < c → list_any (leaves c) past ≡ b → list_any (leaves c) past ≡ false
never_left past c true l f h =
    absurd (omega (arith, joined_within home empty_base past c l (left_joined home empty_base past c l h), f))
never_left past c false l f h = h

opens_by : (b j l : Bool) → b ≡ true → l ≡ false → ((b || j) && not l) ≡ true
opens_by true j false e f = refl
opens_by true j true e f = absurd (cc (f))
opens_by false j l e f = absurd (cc (e))

pub joins_open : (past : List Entry) → IsSound (journal past) → is_open (journal (joined past)) (next_conn past) ≡ true
joins_open past s =
    let c = next_conn past in
    opens_by (eqb c c) (has_joined (journal past) c) (list_any (leaves c) past) (eq-eqb c c refl) (never_left past c (list_any (leaves c) past) s.legal (omega arith) refl)

stays_by : (b j l : Bool) → (j && not l) ≡ true → ((b || j) && not l) ≡ true
stays_by true true l h = h
stays_by true false l h = absurd (cc (h))
stays_by false j l h = h

pub join_stays : (past : List Entry) (d : ℕ) → is_open (journal past) d ≡ true → is_open (journal (joined past)) d ≡ true
join_stays past d o = stays_by (eqb (next_conn past) d) (has_joined (journal past) d) (list_any (leaves d) past) o

pub join_apart : (past : List Entry) (d : ℕ) → IsSound (journal past) → is_open (journal past) d ≡ true → Some (next_conn past) ≢ Some d
join_apart past d s o e =
    let within_ = joined_within home empty_base past d s.legal (and_left (has_joined (journal past) d) (not (list_any (leaves d) past)) o) in
    absurd (omega (arith, within_, some_is (next_conn past) d e))
