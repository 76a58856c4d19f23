-- The order of the entries of a call.
use Rattle.std.proofs.Common.{◌≡◌, ℕ, ◌+◌, ◌≤◌, Bool, true, false, ◌&&◌, ◌||◌, not, ◌==◌, Option, is_some, List, [], ◌∷◌, length, refl, subst, arith, inl, inr}
use Rattle.std.specs.List.{list_any, list_all, filter}
use Rattle.std.proofs.lemmas.Grind.{common_steps}
use Rattle.std.proofs.lemmas.Bool.{cases_Bool, eqb-true, not-true, or_parts, false_from_ne_true}
use Rattle.handle_model.specs.declared.entry.Home.{Home}
use Rattle.handle_model.specs.declared.entry.Asked.{Asked}
use Rattle.handle_model.specs.declared.entry.Outcome.{Outcome}
use Rattle.handle_model.specs.declared.entry.Said.{Said}
use Rattle.handle_model.specs.declared.entry.Entry.{Entry}
use Rattle.handle_model.specs.declared.entry.Entry.TheVariants.{Accept, Take, Deny, Cancel, Orphan, End}
use Rattle.handle_model.specs.declared.base.BaseCall.{BaseCall}
use Rattle.handle_model.specs.declared.base.Base.{Base}
use Rattle.handle_model.specs.Bases.{is_taken_call, is_cancelled_call, is_orphaned_call, taken_before, cancelled_before, orphaned_before}
use Rattle.handle_model.specs.Sound.{is_fresh, IsSoundBase}
use Rattle.handle_model.specs.History.{History, since, with_entry}
use Rattle.handle_model.specs.Journal.{Legal, Fits, takes, denies, cancels, orphans, ends, decides, asked, has_left, is_taken, is_decided, is_cancelled, is_orphaned, any_since, waits, runs}
use Rattle.handle_model.proofs.Held.{and_left, and_right, or_right, or_cases}
use Rattle.handle_model.proofs.BaseFacts.{taken_asked}
use Rattle.handle_model.specs.Further.{with_entries, once_where}
use Rattle.handle_model.proofs.Apart.{runs_taken_before}
use Rattle.handle_model.proofs.Older.{older_legal}
use Rattle.handle_model.proofs.Once.{none_passes, once_more, once_since, once_start}

-- A TEST THAT PASSES WITH ANOTHER

any_less : (p q : Entry → Bool) (past : List Entry) → ((e : Entry) → p e ≡ true → q e ≡ true) → list_any p past ≡ true → list_any q past ≡ true
any_less p q [] f h = absurd (cc)
any_less p q (e ∷ past) f h =
    elim (or_cases (p e) (list_any p past) h) [
      | inl t ↦ rw (f e t) refl
      | inr r ↦ or_right (q e) (list_any q past) (any_less p q past f r)
    ]

takes_decides : (k : ℕ) (e : Entry) → takes k e ≡ true → decides k e ≡ true
takes_decides k (Take m cookies) t = t
takes_decides k _ t = absurd (cc)

denies_decides : (k : ℕ) (e : Entry) → denies k e ≡ true → decides k e ≡ true
denies_decides k (Deny m j) t = t
denies_decides k _ t = absurd (cc)

cancels_decides : (k : ℕ) (e : Entry) → cancels k e ≡ true → decides k e ≡ true
cancels_decides k (Cancel m) t = t
cancels_decides k _ t = absurd (cc)

orphans_decides : (k : ℕ) (e : Entry) → orphans k e ≡ true → decides k e ≡ true
orphans_decides k (Orphan m) t = t
orphans_decides k _ t = absurd (cc)

none_less : (p q : Entry → Bool) (past : List Entry) → ((e : Entry) → p e ≡ true → q e ≡ true) → list_any q past ≡ false → list_any p past ≡ false
none_less p q past f n = false_from_ne_true (list_any p past) (λ t. let s = any_less p q past f t in cc)

-- what is so since the base is so in the base or by an entry
pub since_left : (start : Bool) (p : Entry → Bool) (past : List Entry) → any_since start p past ≡ false → start ≡ false
since_left start p [] n = n
since_left start p (e ∷ past) n = since_left start p past (or_parts (p e) (any_since start p past) n).1

pub since_right : (start : Bool) (p : Entry → Bool) (past : List Entry) → any_since start p past ≡ false → list_any p past ≡ false
since_right start p [] n = refl
since_right start p (e ∷ past) n =
    let parts = or_parts (p e) (any_since start p past) n in rw parts.0 (since_right start p past parts.1)

pub since_none : (start : Bool) (p : Entry → Bool) (past : List Entry) → start ≡ false → list_any p past ≡ false → any_since start p past ≡ false
since_none start p [] b n = b
since_none start p (e ∷ past) b n =
    let parts = or_parts (p e) (list_any p past) n in rw parts.0 (since_none start p past b parts.1)

-- MARKS OF A BASE

-- a call of the base that was not taken has no mark
unmarked_call : (base : Base) (c : BaseCall) → is_fresh base c ≡ true → c.taken ≡ false → (c.cancelled ≡ false) × (c.orphaned ≡ false)
unmarked_call base c f t = (grind (arith, common_steps), grind (arith, common_steps))

cancelled_taken : (base : Base) (cs : List BaseCall) (k : ℕ) → list_all (is_fresh base) cs ≡ true → list_any (is_taken_call k) cs ≡ false → list_any (is_cancelled_call k) cs ≡ false
cancelled_taken base [] k f t = refl
cancelled_taken base (c ∷ cs) k f t =
    let here = and_left (is_fresh base c) (list_all (is_fresh base) cs) f in
    let parts = or_parts (is_taken_call k c) (list_any (is_taken_call k) cs) t in
    let rest = cancelled_taken base cs k (and_right (is_fresh base c) (list_all (is_fresh base) cs) f) parts.1 in
    elim (cases_Bool (c.call == k)) [
      | inl e ↦ let off = (unmarked_call base c here (rw e at parts.0)).0 in rw (e, off, rest) refl
      | inr e ↦ rw (e, rest) refl
    ]

orphaned_taken : (base : Base) (cs : List BaseCall) (k : ℕ) → list_all (is_fresh base) cs ≡ true → list_any (is_taken_call k) cs ≡ false → list_any (is_orphaned_call k) cs ≡ false
orphaned_taken base [] k f t = refl
orphaned_taken base (c ∷ cs) k f t =
    let here = and_left (is_fresh base c) (list_all (is_fresh base) cs) f in
    let parts = or_parts (is_taken_call k c) (list_any (is_taken_call k) cs) t in
    let rest = orphaned_taken base cs k (and_right (is_fresh base c) (list_all (is_fresh base) cs) f) parts.1 in
    elim (cases_Bool (c.call == k)) [
      | inl e ↦ let off = (unmarked_call base c here (rw e at parts.0)).1 in rw (e, off, rest) refl
      | inr e ↦ rw (e, rest) refl
    ]

pub base_sound : (home : Home) (base : Base) (past : List Entry) → Legal (since home base past) → IsSoundBase home base
base_sound home base [] l = l
base_sound home base (e ∷ past) l = base_sound home base past l.1

-- A WAITING CALL

-- a waiting call was accepted, its connection has not left, and nothing is entered of it
pub waits_asked : (j : History) (k : ℕ) → waits j k ≡ true → is_some (asked j k) ≡ true
waits_asked j k w =
    and_left (is_some (asked j k)) (not (has_left j (asked j k))) (and_left (is_some (asked j k) && not (has_left j (asked j k))) (not (is_decided j k)) w)

pub waits_here : (j : History) (k : ℕ) → waits j k ≡ true → has_left j (asked j k) ≡ false
waits_here j k w =
    not-true (has_left j (asked j k)) (and_right (is_some (asked j k)) (not (has_left j (asked j k))) (and_left (is_some (asked j k) && not (has_left j (asked j k))) (not (is_decided j k)) w))

pub waits_undecided : (j : History) (k : ℕ) → waits j k ≡ true → is_decided j k ≡ false
waits_undecided j k w = not-true (is_decided j k) (and_right (is_some (asked j k) && not (has_left j (asked j k))) (not (is_decided j k)) w)

-- what nothing is entered of is not taken, denied, cancelled or orphaned
pub record Undecided (j : History) (k : ℕ) : Type 0 where
  pub untaken : is_taken j k ≡ false
  pub undenied : list_any (denies k) j.past ≡ false
  pub uncancelled : is_cancelled j k ≡ false
  pub unorphaned : is_orphaned j k ≡ false

pub undecided : (j : History) (k : ℕ) → Legal j → is_decided j k ≡ false → Undecided j k
undecided j k l n =
    let s = base_sound j.home j.base j.past l in
    let start = since_left (taken_before j.base k) (decides k) j.past n in
    let later = since_right (taken_before j.base k) (decides k) j.past n in
    record {
      untaken = since_none (taken_before j.base k) (takes k) j.past start (none_less (takes k) (decides k) j.past (takes_decides k) later);
      undenied = none_less (denies k) (decides k) j.past (denies_decides k) later;
      uncancelled = since_none (cancelled_before j.base k) (cancels k) j.past (cancelled_taken j.base j.base.calls k s.fresh start) (none_less (cancels k) (decides k) j.past (cancels_decides k) later);
      unorphaned = since_none (orphaned_before j.base k) (orphans k) j.past (orphaned_taken j.base j.base.calls k s.fresh start) (none_less (orphans k) (decides k) j.past (orphans_decides k) later);
    }

pub waits_fresh : (j : History) (k : ℕ) → Legal j → waits j k ≡ true → Undecided j k
waits_fresh j k l w = undecided j k l (waits_undecided j k w)

-- what an entry needs of its own call, said of the call that it decides
for_call : (j : History) (m k : ℕ) → (m == k) ≡ true → waits j m ≡ true → waits j k ≡ true
for_call j m k e w = subst (λ n. waits j n ≡ true) (eqb-true m k e) w

-- ACCEPTED FIRST

asked_more : (j : History) (m k : ℕ) (a : Asked) → is_some (asked j k) ≡ true → is_some (asked (with_entry j (Accept m a)) k) ≡ true
asked_more j m k a s = elim (cases_Bool (m == k)) [ inl e ↦ rw e refl | inr e ↦ rw e s ]

pub taken_asked_since : (home : Home) (base : Base) (past : List Entry) (k : ℕ) → Legal (since home base past) → is_taken (since home base past) k ≡ true → is_some (asked (since home base past) k) ≡ true
taken_asked_since home base [] k l t = taken_asked home base k l t
taken_asked_since home base (Take m cookies ∷ past) k l t =
    elim (or_cases (m == k) (is_taken (since home base past) k) t) [
      | inl e ↦ waits_asked (since home base past) k (for_call (since home base past) m k e l.0.fits.0)
      | inr r ↦ taken_asked_since home base past k l.1 r
    ]
taken_asked_since home base (Accept m a ∷ past) k l t = asked_more (since home base past) m k a (taken_asked_since home base past k l.1 t)
taken_asked_since home base (_ ∷ past) k l t = taken_asked_since home base past k l.1 t

runs_asked : (j : History) (k : ℕ) → Legal j → runs j k ≡ true → is_some (asked j k) ≡ true
runs_asked j k l r = taken_asked_since j.home j.base j.past k l (runs_taken_before j k r)

active_asked : (j : History) (k : ℕ) (b : Bool) → Legal j → (waits j k || runs j k && b) ≡ true → is_some (asked j k) ≡ true
active_asked j k b l h =
    elim (or_cases (waits j k) (runs j k && b) h) [
      | inl w ↦ waits_asked j k w
      | inr r ↦ runs_asked j k l (and_left (runs j k) b r)
    ]

decided_asked : (j : History) (e : Entry) (k : ℕ) → Legal j → Fits j e → decides k e ≡ true → is_some (asked j k) ≡ true
decided_asked j (Take m cookies) k l f d = waits_asked j k (for_call j m k d f.0)
decided_asked j (Deny m place) k l f d = waits_asked j k (for_call j m k d f.0)
decided_asked j (Cancel m) k l f d =
    subst (λ n. is_some (asked j n) ≡ true) (eqb-true m k d) (active_asked j m (not (is_cancelled j m)) l f)
decided_asked j (Orphan m) k l f d =
    subst (λ n. is_some (asked j n) ≡ true) (eqb-true m k d) (active_asked j m (not (is_orphaned j m)) l f)
decided_asked j _ k l f d = absurd (cc)

-- what something is entered of was accepted
decided_since : (home : Home) (base : Base) (past : List Entry) (k : ℕ) → Legal (since home base past) → is_decided (since home base past) k ≡ true → is_some (asked (since home base past) k) ≡ true
decided_since home base [] k l d = taken_asked home base k l d
decided_since home base (Accept m a ∷ past) k l d = asked_more (since home base past) m k a (decided_since home base past k l.1 d)
decided_since home base (Take m cookies ∷ past) k l d =
    elim (or_cases (m == k) (is_decided (since home base past) k) d) [
      | inl e ↦ decided_asked (since home base past) (Take m cookies) k l.1 l.0.fits e
      | inr r ↦ decided_since home base past k l.1 r
    ]
decided_since home base (Deny m place ∷ past) k l d =
    elim (or_cases (m == k) (is_decided (since home base past) k) d) [
      | inl e ↦ decided_asked (since home base past) (Deny m place) k l.1 l.0.fits e
      | inr r ↦ decided_since home base past k l.1 r
    ]
decided_since home base (Cancel m ∷ past) k l d =
    elim (or_cases (m == k) (is_decided (since home base past) k) d) [
      | inl e ↦ decided_asked (since home base past) (Cancel m) k l.1 l.0.fits e
      | inr r ↦ decided_since home base past k l.1 r
    ]
decided_since home base (Orphan m ∷ past) k l d =
    elim (or_cases (m == k) (is_decided (since home base past) k) d) [
      | inl e ↦ decided_asked (since home base past) (Orphan m) k l.1 l.0.fits e
      | inr r ↦ decided_since home base past k l.1 r
    ]
decided_since home base (_ ∷ past) k l d = decided_since home base past k l.1 d

pub decided_some : (j : History) (k : ℕ) → Legal j → is_decided j k ≡ true → is_some (asked j k) ≡ true
decided_some j k l d = decided_since j.home j.base j.past k l d

pub decides_after_accept : (j : History) (newer : List Entry) (e : Entry) (k : ℕ) → Legal (with_entries (with_entry j e) newer) → decides k e ≡ true → is_some (asked j k) ≡ true
decides_after_accept j newer e k l d =
    let here = older_legal (with_entry j e) newer l in decided_asked j e k here.1 here.0.fits d

pub takes_after_accept : (j : History) (newer : List Entry) (k : ℕ) (cookies : List (Option ℕ)) → Legal (with_entries (with_entry j (Take k cookies)) newer) → is_some (asked j k) ≡ true
takes_after_accept j newer k cookies l =
    let here = older_legal (with_entry j (Take k cookies)) newer l in waits_asked j k here.0.fits.0

-- BEFORE THE CONNECTION LEAVES

active_here : (j : History) (k : ℕ) (b : Bool) → (waits j k || runs j k && b) ≡ true → runs j k ≡ false → has_left j (asked j k) ≡ false
active_here j k b h n =
    elim (or_cases (waits j k) (runs j k && b) h) [
      | inl w ↦ waits_here j k w
      | inr r ↦ let on = and_left (runs j k) b r in absurd (cc)
    ]

decided_here : (j : History) (e : Entry) (k : ℕ) → Fits j e → decides k e ≡ true → runs j k ≡ false → has_left j (asked j k) ≡ false
decided_here j (Take m cookies) k f d n = waits_here j k (for_call j m k d f.0)
decided_here j (Deny m place) k f d n = waits_here j k (for_call j m k d f.0)
decided_here j (Cancel m) k f d n =
    let same = eqb-true m k d in
    subst (λ x. has_left j (asked j x) ≡ false) same (active_here j m (not (is_cancelled j m)) f (rw same n))
decided_here j (Orphan m) k f d n =
    let same = eqb-true m k d in
    subst (λ x. has_left j (asked j x) ≡ false) same (active_here j m (not (is_orphaned j m)) f (rw same n))
decided_here j _ k f d n = absurd (cc)

pub decides_before_leave : (j : History) (newer : List Entry) (e : Entry) (k : ℕ) → Legal (with_entries (with_entry j e) newer) → decides k e ≡ true → runs j k ≡ false → has_left j (asked j k) ≡ false
decides_before_leave j newer e k l d n =
    let here = older_legal (with_entry j e) newer l in decided_here j e k here.0.fits d n

-- ONCE

taken_once : (home : Home) (base : Base) (past : List Entry) (k : ℕ) → Legal (since home base past) → once_where (taken_before base k) + length (filter (takes k) past) ≤ 1
taken_once home base [] k l = once_start (taken_before base k)
taken_once home base (Take m cookies ∷ past) k l =
    let j : History = since home base past in
    once_since (taken_before base k) (takes k) (Take m cookies) past (λ t. since_left (taken_before base k) (takes k) past (waits_fresh j k l.1 (for_call j m k t l.0.fits.0)).untaken) (λ t. since_right (taken_before base k) (takes k) past (waits_fresh j k l.1 (for_call j m k t l.0.fits.0)).untaken) (taken_once home base past k l.1)
taken_once home base (_ ∷ past) k l = taken_once home base past k l.1

pub takes_once : (j : History) (k : ℕ) → Legal j → once_where (taken_before j.base k) + length (filter (takes k) j.past) ≤ 1
takes_once j k l = taken_once j.home j.base j.past k l

denied_once : (home : Home) (base : Base) (past : List Entry) (k : ℕ) → Legal (since home base past) → length (filter (denies k) past) ≤ 1
denied_once home base [] k l = omega arith
denied_once home base (Deny m place ∷ past) k l =
    let j : History = since home base past in
    once_more (denies k) (Deny m place) past (λ t. (waits_fresh j k l.1 (for_call j m k t l.0.fits.0)).undenied) (denied_once home base past k l.1)
denied_once home base (_ ∷ past) k l = denied_once home base past k l.1

-- what was taken is not denied
undenied_since : (home : Home) (base : Base) (past : List Entry) (k : ℕ) → Legal (since home base past) → is_taken (since home base past) k ≡ true → list_any (denies k) past ≡ false
undenied_since home base [] k l t = refl
undenied_since home base (Take m cookies ∷ past) k l t =
    let j : History = since home base past in
    elim (or_cases (m == k) (is_taken j k) t) [
      | inl e ↦ (waits_fresh j k l.1 (for_call j m k e l.0.fits.0)).undenied
      | inr r ↦ undenied_since home base past k l.1 r
    ]
undenied_since home base (Deny m place ∷ past) k l t =
    let j : History = since home base past in
    elim (cases_Bool (m == k)) [
      | inl e ↦ let not_yet = (waits_fresh j k l.1 (for_call j m k e l.0.fits.0)).untaken in absurd (cc)
      | inr e ↦ rw e (undenied_since home base past k l.1 t)
    ]
undenied_since home base (_ ∷ past) k l t = undenied_since home base past k l.1 t

pub taken_undenied : (j : History) (k : ℕ) → Legal j → is_taken j k ≡ true → list_any (denies k) j.past ≡ false
taken_undenied j k l t = undenied_since j.home j.base j.past k l t

pub decided_once : (j : History) (k : ℕ) → Legal j → once_where (taken_before j.base k) + length (filter (takes k) j.past) + length (filter (denies k) j.past) ≤ 1
decided_once j k l =
    elim (cases_Bool (is_taken j k)) [
      | inl t ↦
          let none = none_passes (denies k) j.past (taken_undenied j k l t) in
          let one = takes_once j k l in omega arith
      | inr n ↦
          let none = none_passes (takes k) j.past (since_right (taken_before j.base k) (takes k) j.past n) in
          let start = since_left (taken_before j.base k) (takes k) j.past n in
          let zero_of : once_where (taken_before j.base k) ≡ 0 = rw start refl in
          let one = denied_once j.home j.base j.past k l in omega arith
    ]

unmarked : (j : History) (k : ℕ) (b : Bool) → (waits j k ≡ true → b ≡ false) → (waits j k || runs j k && not b) ≡ true → b ≡ false
unmarked j k b f h =
    elim (or_cases (waits j k) (runs j k && not b) h) [
      | inl w ↦ f w
      | inr r ↦ not-true b (and_right (runs j k) (not b) r)
    ]

-- a call that a Cancel fits is not cancelled yet, and so of an Orphan
uncancelled : (j : History) (m k : ℕ) → Legal j → Fits j (Cancel m) → (m == k) ≡ true → is_cancelled j k ≡ false
uncancelled j m k l f t =
    subst (λ n. is_cancelled j n ≡ false) (eqb-true m k t) (unmarked j m (is_cancelled j m) (λ w. (waits_fresh j m l w).uncancelled) f)

unorphaned : (j : History) (m k : ℕ) → Legal j → Fits j (Orphan m) → (m == k) ≡ true → is_orphaned j k ≡ false
unorphaned j m k l f t =
    subst (λ n. is_orphaned j n ≡ false) (eqb-true m k t) (unmarked j m (is_orphaned j m) (λ w. (waits_fresh j m l w).unorphaned) f)

cancelled_once : (home : Home) (base : Base) (past : List Entry) (k : ℕ) → Legal (since home base past) → once_where (cancelled_before base k) + length (filter (cancels k) past) ≤ 1
cancelled_once home base [] k l = once_start (cancelled_before base k)
cancelled_once home base (Cancel m ∷ past) k l =
    let j : History = since home base past in
    once_since (cancelled_before base k) (cancels k) (Cancel m) past (λ t. since_left (cancelled_before base k) (cancels k) past (uncancelled j m k l.1 l.0.fits t)) (λ t. since_right (cancelled_before base k) (cancels k) past (uncancelled j m k l.1 l.0.fits t)) (cancelled_once home base past k l.1)
cancelled_once home base (_ ∷ past) k l = cancelled_once home base past k l.1

pub cancels_once : (j : History) (k : ℕ) → Legal j → once_where (cancelled_before j.base k) + length (filter (cancels k) j.past) ≤ 1
cancels_once j k l = cancelled_once j.home j.base j.past k l

orphaned_once : (home : Home) (base : Base) (past : List Entry) (k : ℕ) → Legal (since home base past) → once_where (orphaned_before base k) + length (filter (orphans k) past) ≤ 1
orphaned_once home base [] k l = once_start (orphaned_before base k)
orphaned_once home base (Orphan m ∷ past) k l =
    let j : History = since home base past in
    once_since (orphaned_before base k) (orphans k) (Orphan m) past (λ t. since_left (orphaned_before base k) (orphans k) past (unorphaned j m k l.1 l.0.fits t)) (λ t. since_right (orphaned_before base k) (orphans k) past (unorphaned j m k l.1 l.0.fits t)) (orphaned_once home base past k l.1)
orphaned_once home base (_ ∷ past) k l = orphaned_once home base past k l.1

pub orphans_once : (j : History) (k : ℕ) → Legal j → once_where (orphaned_before j.base k) + length (filter (orphans k) j.past) ≤ 1
orphans_once j k l = orphaned_once j.home j.base j.past k l

-- TAKEN BEFORE IT ENDS

pub ends_after_take : (j : History) (newer : List Entry) (k : ℕ) (results : List Outcome) (said : Said) → Legal (with_entries (with_entry j (End k results said)) newer) → is_taken j k ≡ true
ends_after_take j newer k results said l =
    let here = older_legal (with_entry j (End k results said)) newer l in runs_taken_before j k here.0.fits.0

ended_once : (home : Home) (base : Base) (past : List Entry) (k : ℕ) → Legal (since home base past) → length (filter (ends k) past) ≤ 1
ended_once home base [] k l = omega arith
ended_once home base (End m results said ∷ past) k l =
    let j : History = since home base past in
    once_more (ends k) (End m results said) past (λ t.
    let r : runs j k ≡ true = subst (λ n. runs j n ≡ true) (eqb-true m k t) l.0.fits.0 in
    not-true (list_any (ends k) past) (and_right (is_taken j k) (not (list_any (ends k) past)) r)) (ended_once home base past k l.1)
ended_once home base (_ ∷ past) k l = ended_once home base past k l.1

pub ends_once : (j : History) (k : ℕ) → Legal j → length (filter (ends k) j.past) ≤ 1
ends_once j k l = ended_once j.home j.base j.past k l
