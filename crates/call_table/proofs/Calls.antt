-- What holds of the calls of a journal, by its base and its entries.
use Rattle.std.proofs.Common.{◌≡◌, ℕ, ◌+◌, ◌≤◌, ◌<◌, Bool, true, false, ◌&&◌, ◌||◌, not, ◌==◌, nat_lt, nat_le, Option, Some, None, is_some, List, [], ◌∷◌, ◌++◌, reverse, refl, sym, ◌∙◌, ap, subst, arith, inl, inr}
use Rattle.std.specs.List.{list_any, list_all, filter, find}
use Rattle.std.proofs.lemmas.Grind.{common_steps}
use Rattle.std.proofs.lemmas.Bool.{eq-eqb, cases_Bool, false_from_ne_true, ltb-true}
use Rattle.std.proofs.lemmas.Bool.Decides.{eqb_tells}
use Rattle.handle_model.specs.declared.entry.Home.{Home}
use Rattle.handle_model.specs.declared.entry.Asked.{Asked}
use Rattle.handle_model.specs.declared.entry.Entry.{Entry}
use Rattle.handle_model.specs.declared.entry.Entry.TheVariants.{Accept, Take, Deny, Cancel, Orphan, End}
use Rattle.handle_model.specs.declared.base.BaseCall.{BaseCall}
use Rattle.handle_model.specs.declared.base.Base.{Base}
use Rattle.handle_model.specs.Bases.{is_number, is_call, is_taken_call, is_cancelled_call, is_orphaned_call, numbers_of, taken_calls}
use Rattle.handle_model.specs.Sound.{rise_above, rise, at_most, is_fresh}
use Rattle.handle_model.specs.History.{History, since}
use Rattle.handle_model.specs.Journal.{Legal, ends, asked, accept_count, accepted, taken, has_left, is_taken, is_decided, is_cancelled, is_orphaned, waits, runs}
use Rattle.handle_model.proofs.Tests.{and_left, and_right, or_right, or_cases}
use Rattle.handle_model.proofs.Held.{found_call}
use Rattle.handle_model.proofs.Reversed.{reverse-cons, list_any-reverse}
use Rattle.handle_model.proofs.BaseFacts.{asked_before_within, taken_before_within, taken_asked}

pub self : (k : ℕ) → (k == k) ≡ true
self k = eq-eqb k k refl

pub turned : (k m : ℕ) → (k == m) ≡ false → (m == k) ≡ false
turned k m e = elim (eqb_tells m k) [ inl f ↦ absurd (let q = eq-eqb k m (sym f.1) in cc) | inr f ↦ f.0 ]

-- DECIDED CALLS

taken_since : (home : Home) (base : Base) (past : List Entry) (k : ℕ) → is_taken (since home base past) k ≡ true → is_decided (since home base past) k ≡ true
taken_since home base [] k h = h
taken_since home base (Take m cookies ∷ past) k h = grind (arith, common_steps, taken_since home base past k)
taken_since home base (Deny m slot ∷ past) k h = or_right (m == k) _ (taken_since home base past k h)
taken_since home base (Cancel m ∷ past) k h = or_right (m == k) _ (taken_since home base past k h)
taken_since home base (Orphan m ∷ past) k h = or_right (m == k) _ (taken_since home base past k h)
taken_since home base (_ ∷ past) k h = taken_since home base past k h

pub taken_decided : (j : History) (k : ℕ) → is_taken j k ≡ true → is_decided j k ≡ true
taken_decided j k h = taken_since j.home j.base j.past k h

-- a call of the base that has a mark was taken
marked_taken : (base : Base) (cs : List BaseCall) (p : BaseCall → Bool) (k : ℕ) → ((c : BaseCall) → p c ≡ true → is_fresh base c ≡ true → is_taken_call k c ≡ true) → list_all (is_fresh base) cs ≡ true → list_any p cs ≡ true → list_any (is_taken_call k) cs ≡ true
marked_taken base [] p k f a h = absurd (cc)
marked_taken base (c ∷ cs) p k f a h =
    elim (or_cases (p c) (list_any p cs) h) [
      | inl e ↦ rw (f c e (and_left (is_fresh base c) (list_all (is_fresh base) cs) a)) refl
      | inr r ↦ or_right (is_taken_call k c) (list_any (is_taken_call k) cs) (marked_taken base cs p k f (and_right (is_fresh base c) (list_all (is_fresh base) cs) a) r)
    ]

cancelled_taken : (base : Base) (k : ℕ) (c : BaseCall) → is_cancelled_call k c ≡ true → is_fresh base c ≡ true → is_taken_call k c ≡ true
cancelled_taken base k c h f =
    let e = and_left (c.call == k) c.cancelled h in
    let m = and_right (c.call == k) c.cancelled h in grind (arith, common_steps)

orphaned_taken : (base : Base) (k : ℕ) (c : BaseCall) → is_orphaned_call k c ≡ true → is_fresh base c ≡ true → is_taken_call k c ≡ true
orphaned_taken base k c h f =
    let e = and_left (c.call == k) c.orphaned h in
    let m = and_right (c.call == k) c.orphaned h in grind (arith, common_steps)

cancels_since : (home : Home) (base : Base) (past : List Entry) (k : ℕ) → Legal (since home base past) → is_cancelled (since home base past) k ≡ true → is_decided (since home base past) k ≡ true
cancels_since home base [] k l h = marked_taken base base.calls (is_cancelled_call k) k (cancelled_taken base k) l.fresh h
cancels_since home base (Cancel m ∷ past) k l h = grind (arith, common_steps, cancels_since home base past k l.1)
cancels_since home base (Take m cookies ∷ past) k l h = or_right (m == k) _ (cancels_since home base past k l.1 h)
cancels_since home base (Deny m slot ∷ past) k l h = or_right (m == k) _ (cancels_since home base past k l.1 h)
cancels_since home base (Orphan m ∷ past) k l h = or_right (m == k) _ (cancels_since home base past k l.1 h)
cancels_since home base (_ ∷ past) k l h = cancels_since home base past k l.1 h

pub cancels_decided : (j : History) (k : ℕ) → Legal j → is_cancelled j k ≡ true → is_decided j k ≡ true
cancels_decided j k l h = cancels_since j.home j.base j.past k l h

orphans_since : (home : Home) (base : Base) (past : List Entry) (k : ℕ) → Legal (since home base past) → is_orphaned (since home base past) k ≡ true → is_decided (since home base past) k ≡ true
orphans_since home base [] k l h = marked_taken base base.calls (is_orphaned_call k) k (orphaned_taken base k) l.fresh h
orphans_since home base (Orphan m ∷ past) k l h = grind (arith, common_steps, orphans_since home base past k l.1)
orphans_since home base (Take m cookies ∷ past) k l h = or_right (m == k) _ (orphans_since home base past k l.1 h)
orphans_since home base (Deny m slot ∷ past) k l h = or_right (m == k) _ (orphans_since home base past k l.1 h)
orphans_since home base (Cancel m ∷ past) k l h = or_right (m == k) _ (orphans_since home base past k l.1 h)
orphans_since home base (_ ∷ past) k l h = orphans_since home base past k l.1 h

pub orphans_decided : (j : History) (k : ℕ) → Legal j → is_orphaned j k ≡ true → is_decided j k ≡ true
orphans_decided j k l h = orphans_since j.home j.base j.past k l h

pub runs_taken : (j : History) (k : ℕ) → runs j k ≡ true → is_taken j k ≡ true
runs_taken j k r = and_left (is_taken j k) (not (list_any (ends k) j.past)) r

-- a call does not wait and run
pub waits_idle : (j : History) (k : ℕ) → waits j k ≡ true → runs j k ≡ false
waits_idle j k w = false_from_ne_true (runs j k) (λ r. let d = taken_decided j k (runs_taken j k r) in grind (arith, common_steps))

-- an End comes after a Take
ended_since : (home : Home) (base : Base) (past : List Entry) (k : ℕ) → Legal (since home base past) → list_any (ends k) past ≡ true → is_taken (since home base past) k ≡ true
ended_since home base [] k l h = absurd (cc)
ended_since home base (End m results said ∷ past) k l h =
    elim (eqb_tells m k) [
      | inl e ↦ subst (λ n. is_taken (since home base past) n ≡ true) e.1 (runs_taken (since home base past) m l.0.fits.0)
      | inr e ↦ ended_since home base past k l.1 (rw e.0 at h)
    ]
ended_since home base (Take m cookies ∷ past) k l h = or_right (m == k) _ (ended_since home base past k l.1 h)
ended_since home base (_ ∷ past) k l h = ended_since home base past k l.1 h

pub ended_taken : (j : History) (k : ℕ) → Legal j → list_any (ends k) j.past ≡ true → is_taken j k ≡ true
ended_taken j k l h = ended_since j.home j.base j.past k l h

-- ACCEPTED CALLS

pub waits_asked : (j : History) (k : ℕ) → waits j k ≡ true → is_some (asked j k) ≡ true
waits_asked j k w =
    and_left (is_some (asked j k)) (not (has_left j (asked j k))) (and_left (is_some (asked j k) && not (has_left j (asked j k))) (not (is_decided j k)) w)

taken_asked_since : (home : Home) (base : Base) (past : List Entry) (k : ℕ) → Legal (since home base past) → is_taken (since home base past) k ≡ true → is_some (asked (since home base past) k) ≡ true
taken_asked_since home base [] k l h = taken_asked home base k l h
taken_asked_since home base (Take m cookies ∷ past) k l h =
    elim (eqb_tells m k) [
      | inl e ↦ subst (λ n. is_some (asked (since home base past) n) ≡ true) e.1 (waits_asked (since home base past) m l.0.fits.0)
      | inr e ↦ taken_asked_since home base past k l.1 (rw e.0 at h)
    ]
taken_asked_since home base (Accept m a ∷ past) k l h =
    elim (eqb_tells m k) [
      | inl e ↦ rw e.0 refl
      | inr e ↦ rw e.0 (taken_asked_since home base past k l.1 h)
    ]
taken_asked_since home base (_ ∷ past) k l h = taken_asked_since home base past k l.1 h

-- a running call was accepted
pub runs_asked : (j : History) (k : ℕ) (o : Option Asked) → Legal j → asked j k ≡ o → runs j k ≡ true → is_some o ≡ true
runs_asked j k None l e r = absurd (let t = taken_asked_since j.home j.base j.past k l (runs_taken j k r) in let f = rw e at t in cc)
runs_asked j k (Some a) l e r = refl

-- NUMBERS

-- they fall from below one number down to another
abbrev pub Falls : ℕ → ℕ → List ℕ → Type 0
Falls high low [] = low ≤ high
Falls high low (x ∷ xs) = (x < high) × Falls x low xs

falls_last : (high low x : ℕ) (xs : List ℕ) → Falls high (x + 1) xs → low ≤ x → Falls high low (xs ++ x ∷ [])
falls_last high low x [] f le = (omega (arith, f), le)
falls_last high low x (y ∷ xs) f le = (f.0, falls_last y low x xs f.1 le)

risen_falls : (n top : ℕ) (ns : List ℕ) → rise_above n ns ≡ true → at_most top ns ≡ true → n ≤ top → Falls (top + 1) (n + 1) (reverse ns)
risen_falls n top [] r a le = omega arith
risen_falls n top (m ∷ ns) r a le =
    let up = ltb-true n m (and_left (nat_lt n m) (rise_above m ns) r) in
    let high : m ≤ top = (let h = and_left (nat_le m top) (at_most top ns) a in grind (arith, common_steps)) in
    let rest = risen_falls m top ns (and_right (nat_lt n m) (rise_above m ns) r) (and_right (nat_le m top) (at_most top ns) a) high in
    subst (Falls (top + 1) (n + 1)) (sym (reverse-cons m ns)) (falls_last (top + 1) (n + 1) m (reverse ns) rest (omega arith))

pub rises_fall : (top : ℕ) (ns : List ℕ) → rise ns ≡ true → at_most top ns ≡ true → Falls (top + 1) 0 (reverse ns)
rises_fall top [] r a = omega arith
rises_fall top (m ∷ ns) r a =
    let high : m ≤ top = (let h = and_left (nat_le m top) (at_most top ns) a in grind (arith, common_steps)) in
    subst (Falls (top + 1) 0) (sym (reverse-cons m ns)) (falls_last (top + 1) 0 m (reverse ns) (risen_falls m top ns r (and_right (nat_le m top) (at_most top ns) a) high) (omega arith))

falls_since : (home : Home) (base : Base) (past : List Entry) → Legal (since home base past) → Falls (accept_count (since home base past) + 1) 0 (accepted (since home base past))
falls_since home base [] l = rises_fall base.accepts (numbers_of base.calls) l.calls_rise l.calls_within
falls_since home base (Accept k a ∷ past) l =
    let first = l.0.fits.0 in
    (omega (arith, first), subst (λ n. Falls n 0 (accepted (since home base past))) (sym first) (falls_since home base past l.1))
falls_since home base (_ ∷ past) l = falls_since home base past l.1

pub accepted_falls : (j : History) → Legal j → Falls (accept_count j + 1) 0 (accepted j)
accepted_falls j l = falls_since j.home j.base j.past l

pub falls_within : (high low : ℕ) (xs : List ℕ) (m : ℕ) → Falls high low xs → list_any (is_number m) xs ≡ true → m < high
falls_within high low [] m f i = absurd (cc)
falls_within high low (x ∷ xs) m f i =
    let top = f.0 in
    elim (eqb_tells x m) [
      | inl e ↦ let same = e.1 in omega arith
      | inr e ↦ let less = falls_within x low xs m f.1 (rw e.0 at i) in omega arith
    ]

-- a call that asked, was decided, or runs, has a number up to how many were accepted
asked_within : (home : Home) (base : Base) (past : List Entry) (k : ℕ) (a : Asked) → Legal (since home base past) → asked (since home base past) k ≡ Some a → k ≤ accept_count (since home base past)
asked_within home base [] k a l h = asked_before_within home base k a l h
asked_within home base (Accept m b ∷ past) k a l h = let e = l.0.fits.0 in grind (arith, common_steps, asked_within home base past k a l.1)
asked_within home base (_ ∷ past) k a l h = asked_within home base past k a l.1 h

waits_within : (j : History) (k : ℕ) (o : Option Asked) → Legal j → asked j k ≡ o → waits j k ≡ true → k ≤ accept_count j
waits_within j k None l e w = let f = rw e at w in absurd (cc)
waits_within j k (Some a) l e w = asked_within j.home j.base j.past k a l e

active_within : (j : History) (k : ℕ) (b : Bool) (o : Option Asked) → Legal j → asked j k ≡ o → (waits j k || runs j k && b) ≡ true → k ≤ accept_count j
active_within j k b None l e h =
    elim (or_cases (waits j k) (runs j k && b) h) [
      | inl w ↦ waits_within j k None l e w
      | inr r ↦ absurd (let s = runs_asked j k None l e (and_left (runs j k) b r) in cc)
    ]
active_within j k b (Some a) l e h = asked_within j.home j.base j.past k a l e

decided_since : (home : Home) (base : Base) (past : List Entry) (k : ℕ) → Legal (since home base past) → is_decided (since home base past) k ≡ true → k ≤ accept_count (since home base past)
decided_since home base [] k l h = taken_before_within home base k l h
decided_since home base (Accept m a ∷ past) k l h = let w = decided_since home base past k l.1 h in omega arith
decided_since home base (Take m cookies ∷ past) k l h =
    elim (eqb_tells m k) [
      | inl e ↦ let w = waits_within (since home base past) m _ l.1 refl l.0.fits.0 in let same = e.1 in omega arith
      | inr e ↦ decided_since home base past k l.1 (rw e.0 at h)
    ]
decided_since home base (Deny m slot ∷ past) k l h =
    elim (eqb_tells m k) [
      | inl e ↦ let w = waits_within (since home base past) m _ l.1 refl l.0.fits.0 in let same = e.1 in omega arith
      | inr e ↦ decided_since home base past k l.1 (rw e.0 at h)
    ]
decided_since home base (Cancel m ∷ past) k l h =
    elim (eqb_tells m k) [
      | inl e ↦ let w = active_within (since home base past) m _ _ l.1 refl l.0.fits in let same = e.1 in omega arith
      | inr e ↦ decided_since home base past k l.1 (rw e.0 at h)
    ]
decided_since home base (Orphan m ∷ past) k l h =
    elim (eqb_tells m k) [
      | inl e ↦ let w = active_within (since home base past) m _ _ l.1 refl l.0.fits in let same = e.1 in omega arith
      | inr e ↦ decided_since home base past k l.1 (rw e.0 at h)
    ]
decided_since home base (_ ∷ past) k l h = decided_since home base past k l.1 h

pub decided_within : (j : History) (k : ℕ) → Legal j → is_decided j k ≡ true → k ≤ accept_count j
decided_within j k l h = decided_since j.home j.base j.past k l h

pub taken_within : (j : History) (k : ℕ) → Legal j → is_taken j k ≡ true → k ≤ accept_count j
taken_within j k l h = decided_within j k l (taken_decided j k h)

-- LISTED CALLS

found_listed : (cs : List BaseCall) (k : ℕ) (c : BaseCall) → find (is_call k) cs ≡ Some c → list_any (is_number k) (numbers_of cs) ≡ true
found_listed [] k c f = absurd (cc)
found_listed (d ∷ cs) k c f = grind (arith, common_steps, found_listed cs k c)

asked_listed_since : (home : Home) (base : Base) (past : List Entry) (k : ℕ) (a : Asked) → asked (since home base past) k ≡ Some a → list_any (is_number k) (accepted (since home base past)) ≡ true
asked_listed_since home base [] k a e =
    let w = found_call base k a e in
    list_any-reverse (is_number k) (numbers_of base.calls) ∙ found_listed base.calls k w.call w.found
asked_listed_since home base (Accept m b ∷ past) k a e =
    elim (eqb_tells m k) [
      | inl f ↦ rw f.0 refl
      | inr f ↦ rw f.0 (asked_listed_since home base past k a (rw f.0 at e))
    ]
asked_listed_since home base (_ ∷ past) k a e = asked_listed_since home base past k a e

-- an accepted call is listed
pub asked_listed : (j : History) (k : ℕ) (a : Asked) → asked j k ≡ Some a → list_any (is_number k) (accepted j) ≡ true
asked_listed j k a e = asked_listed_since j.home j.base j.past k a e

taken_numbered : (cs : List BaseCall) (k : ℕ) → list_any (is_number k) (numbers_of (filter (λ (c : BaseCall). c.taken) cs)) ≡ list_any (is_taken_call k) cs
taken_numbered [] k = refl
taken_numbered (c ∷ cs) k =
    let more = taken_numbered cs k in
    elim (cases_Bool c.taken) [
      | inl t ↦ elim (cases_Bool (c.call == k)) [ inl e ↦ rw (t, e) refl | inr e ↦ rw (t, e) more ]
      | inr t ↦ elim (cases_Bool (c.call == k)) [ inl e ↦ rw (t, e) more | inr e ↦ rw (t, e) more ]
    ]

number_taken_since : (home : Home) (base : Base) (past : List Entry) (m : ℕ) → list_any (is_number m) (taken (since home base past)) ≡ is_taken (since home base past) m
number_taken_since home base [] m = list_any-reverse (is_number m) (numbers_of (taken_calls base)) ∙ taken_numbered base.calls m
number_taken_since home base (Take k cookies ∷ past) m = ap (λ b. (k == m) || b) (number_taken_since home base past m)
number_taken_since home base (_ ∷ past) m = number_taken_since home base past m

-- and so is a taken one
pub number_taken : (j : History) (m : ℕ) → list_any (is_number m) (taken j) ≡ is_taken j m
number_taken j m = number_taken_since j.home j.base j.past m
