-- Bases as far as their lines have come.
use Rattle.std.proofs.Common.{◌≡◌, ℕ, ◌<◌, ◌^◌, Bool, true, false, ◌&&◌, ◌||◌, not, ◌==◌, nat_le, nat_lt, List, [], ◌∷◌, ◌++◌, refl, sym, ◌∙◌, ap, subst, arith, ◌↔◌, inl, inr, append_assoc}
use Rattle.std.specs.List.{list_any, list_all}
use Rattle.std.proofs.lemmas.Grind.{common_steps}
use Rattle.std.proofs.lemmas.List.{append-nil, map-append}
use Rattle.std.proofs.lemmas.List.Elements.{filter-append}
use Rattle.std.proofs.lemmas.List.Folds.{list_any-append}
use Rattle.std.proofs.lemmas.Bool.Decides.{eqb_tells}
use Rattle.std.proofs.lemmas.Bool.{cases_Bool, eqb-true, eq-eqb, false_from_ne_true}
use Rattle.handle_model.specs.declared.entry.Home.{Home}
use Rattle.handle_model.specs.declared.base.BaseCall.{BaseCall}
use Rattle.handle_model.specs.declared.base.Base.{Base}
use Rattle.handle_model.specs.Bases.{is_number, has_item, numbers_of, serials_of}
use Rattle.handle_model.specs.Sound.{rise_above, rise, at_most, differ, is_fresh, is_within, conflicts_with, are_apart, names_apart, is_known, opening, is_held, IsSoundBase}
use Rattle.handle_model.proofs.Held.{and_left, and_right}
use Rattle.journal_audit.specs.Sounds.{taken_of, is_head}
use Rattle.journal_audit.specs.Calls.{serials_in, may_open, takes_apart, opens_apart, joins_calls, comes_next}
use Rattle.journal_audit.specs.SoFar.{with_call, IsSoundSoFar}

-- ALL OF A BASE

held_other : (base : Base) → 0 < base.count → is_held base ≡ true → is_held base ≡ false → ⊥
held_other base c h n = cc

held_of : (home : Home) (base : Base) → 0 < base.count → IsSoundBase home base → is_held base ≡ true
held_of home base c s =
    elim (cases_Bool (is_held base)) [
      | inl h ↦ h
      | inr n ↦ let none : base.count ≡ 0 = ap (λ (b : Base). b.count) (s.held n) in absurd (omega arith)
    ]

pub sound_by_lines : (home : Home) (base : Base) → 0 < base.count → (IsSoundSoFar home base × (is_held base ≡ true)) ↔ IsSoundBase home base
sound_by_lines home base c = (
  λ w. let s = w.0 in record {
    joins_small = s.joins_small;
    accepts_small = s.accepts_small;
    opens_small = s.opens_small;
    conns_rise = s.conns_rise;
    conns_within = s.conns_within;
    calls_rise = s.calls_rise;
    calls_within = s.calls_within;
    fresh = s.fresh;
    within = s.within;
    apart = s.apart;
    names_once = s.names_once;
    known = s.known;
    serials_rise = s.serials_rise;
    serials_within = s.serials_within;
    openings_differ = s.openings_differ;
    openings_counted = s.openings_counted;
    openings_within = s.openings_within;
    openings_free = s.openings_free;
    held = λ n. absurd (held_other base c w.1 n);
  },
  λ s. (
    record {
      joins_small = s.joins_small;
      accepts_small = s.accepts_small;
      opens_small = s.opens_small;
      conns_rise = s.conns_rise;
      conns_within = s.conns_within;
      calls_rise = s.calls_rise;
      calls_within = s.calls_within;
      fresh = s.fresh;
      within = s.within;
      apart = s.apart;
      names_once = s.names_once;
      known = s.known;
      serials_rise = s.serials_rise;
      serials_within = s.serials_within;
      openings_differ = s.openings_differ;
      openings_counted = s.openings_counted;
      openings_within = s.openings_within;
      openings_free = s.openings_free;
    },
    held_of home base c s,
  ),
)

-- ITS OWN LINE

pub head_sound : (home : Home) (base : Base) → base.calls ≡ [] → base.joins < 2 ^ 32 → base.accepts < 2 ^ 32 → base.opens < 2 ^ 32 → is_head base ≡ true → IsSoundSoFar home base
head_sound home base none j a o t =
    let one = rise base.conns in
    let two = at_most base.joins base.conns in
    let three = rise_above 0 (serials_of base.handles) in
    let four = at_most base.opens (serials_of base.handles) in
    let front = and_left (one && two && three) four t in
    let first = and_left (one && two) three front in
    record {
      joins_small = j;
      accepts_small = a;
      opens_small = o;
      conns_rise = and_left one two first;
      conns_within = and_right one two first;
      calls_rise = rw none refl;
      calls_within = rw none refl;
      fresh = rw none refl;
      within = rw none refl;
      apart = rw none refl;
      names_once = rw none refl;
      known = rw none refl;
      serials_rise = and_right (one && two) three front;
      serials_within = and_right (one && two && three) four t;
      openings_differ = rw none refl;
      openings_counted = rw none refl;
      openings_within = rw none refl;
      openings_free = rw none refl;
    }

pub head_tests : (home : Home) (base : Base) → IsSoundSoFar home base → is_head base ≡ true
head_tests home base s = rw (s.conns_rise, s.conns_within, s.serials_rise, s.serials_within) refl

-- LISTS WITH ONE MORE

pub all_more : {X : Type 0} (p : X → Bool) (xs ys : List X) → list_all p (xs ++ ys) ≡ (list_all p xs && list_all p ys)
all_more p [] ys = refl
all_more p (x ∷ xs) ys = rw (all_more p xs ys) (grind (arith, common_steps))

numbers_more : (cs : List BaseCall) (c : BaseCall) → numbers_of (cs ++ c ∷ []) ≡ numbers_of cs ++ c.call ∷ []
numbers_more cs c = map-append (λ (d : BaseCall). d.call) cs (c ∷ [])

taken_more : (cs : List BaseCall) (c : BaseCall) → taken_of (cs ++ c ∷ []) ≡ taken_of cs ++ taken_of (c ∷ [])
taken_more cs c = filter-append (λ (d : BaseCall). d.taken) cs (c ∷ [])

pub opening_more : (cs : List BaseCall) (c : BaseCall) → opening (cs ++ c ∷ []) ≡ opening cs ++ serials_in c.asked.slots
opening_more [] c = append-nil (serials_in c.asked.slots)
opening_more (d ∷ cs) c =
    ap (λ t. serials_in d.asked.slots ++ t) (opening_more cs c) ∙ sym (append_assoc (serials_in d.asked.slots) (opening cs) (serials_in c.asked.slots))

apart_more : (cs : List BaseCall) (c : BaseCall) → are_apart (cs ++ c ∷ []) ≡ (are_apart cs && not (list_any (λ d. conflicts_with d c) cs))
apart_more [] c = refl
apart_more (d ∷ cs) c =
    rw (list_any-append (conflicts_with d) cs (c ∷ []), apart_more cs c) (grind (arith, common_steps))

turned : (x y : ℕ) → (x == y) ≡ (y == x)
turned x y =
    elim (eqb_tells x y) [
      | inl e ↦ e.0 ∙ sym (eq-eqb y x (sym e.1))
      | inr e ↦ e.0 ∙ sym (false_from_ne_true (y == x) (λ t. e.1 (sym (eqb-true y x t))))
    ]

-- that no number is x or among xs
spread : (x : ℕ) (xs ys : List ℕ) → list_all (λ n. not (list_any (is_number n) (x ∷ xs))) ys ≡ (not (list_any (is_number x) ys) && list_all (λ n. not (list_any (is_number n) xs)) ys)
spread x xs [] = refl
spread x xs (y ∷ ys) = rw (spread x xs ys, turned x y) (grind (arith, common_steps))

none_of_none : (ys : List ℕ) → list_all (λ n. not (list_any (is_number n) [])) ys ≡ true
none_of_none [] = refl
none_of_none (y ∷ ys) = none_of_none ys

and_true : (b : Bool) → b ≡ (b && true)
and_true true = refl
and_true false = refl

differ_both : (xs ys : List ℕ) → differ (xs ++ ys) ≡ (differ xs && differ ys && list_all (λ n. not (list_any (is_number n) xs)) ys)
differ_both [] ys = rw (none_of_none ys) (and_true (differ ys))
differ_both (x ∷ xs) ys = rw (list_any-append (is_number x) xs ys, differ_both xs ys, spread x xs ys) (grind (arith, common_steps))

pub taken_if : (cs : List BaseCall) (c : BaseCall) → c.taken ≡ true → taken_of (cs ++ c ∷ []) ≡ taken_of cs ++ c ∷ []
taken_if cs c t = taken_more cs c ∙ ap (λ xs. taken_of cs ++ xs) (rw t refl)

pub taken_not : (cs : List BaseCall) (c : BaseCall) → c.taken ≡ false → taken_of (cs ++ c ∷ []) ≡ taken_of cs
taken_not cs c t = taken_more cs c ∙ (ap (λ xs. taken_of cs ++ xs) (rw t refl) ∙ append-nil (taken_of cs))

-- WHAT A SERIAL MAY BE

all_less : (p q : ℕ → Bool) (ns : List ℕ) → ((n : ℕ) → p n ≡ true → q n ≡ true) → list_all p ns ≡ true → list_all q ns ≡ true
all_less p q [] f a = refl
all_less p q (n ∷ ns) f a = rw (f n (and_left (p n) (list_all p ns) a), all_less p q ns f (and_right (p n) (list_all p ns) a)) refl

pub record MayOpen (base : Base) (n : ℕ) : Type 0 where
  pub counted : nat_lt 0 n ≡ true
  pub within : nat_le n base.opens ≡ true
  pub free : not (has_item base n) ≡ true
  pub new : not (list_any (is_number n) (opening base.calls)) ≡ true

opens_as : (base : Base) (n : ℕ) → may_open base n ≡ true → MayOpen base n
opens_as base n m =
    let a = nat_lt 0 n in
    let b = nat_le n base.opens in
    let c = not (has_item base n) in
    let d = not (list_any (is_number n) (opening base.calls)) in
    let front = and_left (a && b && c) d m in
    let first = and_left (a && b) c front in
    record { counted = and_left a b first; within = and_right a b first; free = and_right (a && b) c front; new = and_right (a && b && c) d m }

all_open : (base : Base) (ns : List ℕ) → list_all (nat_lt 0) ns ≡ true → list_all (λ m. nat_le m base.opens) ns ≡ true → list_all (λ n. not (has_item base n)) ns ≡ true → list_all (λ n. not (list_any (is_number n) (opening base.calls))) ns ≡ true → list_all (may_open base) ns ≡ true
all_open base [] a b c d = refl
all_open base (n ∷ ns) a b c d =
    let p : ℕ → Bool = λ m. nat_le m base.opens in
    let q : ℕ → Bool = λ m. not (has_item base m) in
    let r : ℕ → Bool = λ m. not (list_any (is_number m) (opening base.calls)) in
    let rest = all_open base ns (and_right (nat_lt 0 n) (list_all (nat_lt 0) ns) a) (and_right (p n) (list_all p ns) b) (and_right (q n) (list_all q ns) c) (and_right (r n) (list_all r ns) d) in
    rw (and_left (nat_lt 0 n) (list_all (nat_lt 0) ns) a, and_left (p n) (list_all p ns) b, and_left (q n) (list_all q ns) c, and_left (r n) (list_all r ns) d, rest) refl

-- THE LINE OF A CALL

-- what the tests say of it
pub record Joins (home : Home) (base : Base) (c : BaseCall) : Type 0 where
  pub within : is_within base c ≡ true
  pub fresh : is_fresh base c ≡ true
  pub taken : (not c.taken || takes_apart home base c) ≡ true
  pub differ_own : differ (serials_in c.asked.slots) ≡ true
  pub open_own : list_all (may_open base) (serials_in c.asked.slots) ≡ true

joins_as : (home : Home) (base : Base) (c : BaseCall) → joins_calls home base c ≡ true → Joins home base c
joins_as home base c j =
    let a = is_within base c in
    let b = is_fresh base c in
    let t = not c.taken || takes_apart home base c in
    let o = opens_apart base c in
    let front = and_left (a && b && t) o j in
    let first = and_left (a && b) t front in
    let opens = and_right (a && b && t) o j in
    record {
      within = and_left a b first;
      fresh = and_right a b first;
      taken = and_right (a && b) t front;
      differ_own = and_left (differ (serials_in c.asked.slots)) (list_all (may_open base) (serials_in c.asked.slots)) opens;
      open_own = and_right (differ (serials_in c.asked.slots)) (list_all (may_open base) (serials_in c.asked.slots)) opens;
    }

pub record Takes (home : Home) (base : Base) (c : BaseCall) : Type 0 where
  pub alone : not (list_any (λ d. conflicts_with d c) (taken_of base.calls)) ≡ true
  pub once : names_apart c.asked.slots ≡ true
  pub known : list_all (is_known home base) c.asked.slots ≡ true

takes_as : (home : Home) (base : Base) (c : BaseCall) → c.taken ≡ true → (not c.taken || takes_apart home base c) ≡ true → Takes home base c
takes_as home base c t h =
    let a = not (list_any (λ d. conflicts_with d c) (taken_of base.calls)) in
    let b = names_apart c.asked.slots in
    let k = list_all (is_known home base) c.asked.slots in
    let all : takes_apart home base c ≡ true = rw t at h in
    let front = and_left (a && b) k all in
    record { alone = and_left a b front; once = and_right a b front; known = and_right (a && b) k all }

pub call_sound : (home : Home) (base : Base) (c : BaseCall) → IsSoundSoFar home base → nat_le c.call base.accepts ≡ true → rise (numbers_of (base.calls ++ c ∷ [])) ≡ true → joins_calls home base c ≡ true → IsSoundSoFar home (with_call base c)
call_sound home base c s n r j =
    let w = joins_as home base c j in
    let own : List ℕ = serials_in c.asked.slots in
    let names : BaseCall → Bool = λ d. names_apart d.asked.slots in
    let knows : BaseCall → Bool = λ d. list_all (is_known home base) d.asked.slots in
    record {
      joins_small = s.joins_small;
      accepts_small = s.accepts_small;
      opens_small = s.opens_small;
      conns_rise = s.conns_rise;
      conns_within = s.conns_within;
      calls_rise = r;
      calls_within = rw (numbers_more base.calls c, all_more (λ m. nat_le m base.accepts) (numbers_of base.calls) (c.call ∷ []), s.calls_within, n) refl;
      fresh = rw (all_more (is_fresh base) base.calls (c ∷ []), s.fresh, w.fresh) refl;
      within = rw (all_more (is_within base) base.calls (c ∷ []), s.within, w.within) refl;
      apart = elim (cases_Bool c.taken) [
        | inl t ↦ rw (taken_if base.calls c t, apart_more (taken_of base.calls) c, s.apart, (takes_as home base c t w.taken).alone) refl
        | inr t ↦ rw (taken_not base.calls c t) s.apart
      ];
      names_once = elim (cases_Bool c.taken) [
        | inl t ↦ rw (taken_if base.calls c t, all_more names (taken_of base.calls) (c ∷ []), s.names_once, (takes_as home base c t w.taken).once) refl
        | inr t ↦ rw (taken_not base.calls c t) s.names_once
      ];
      known = elim (cases_Bool c.taken) [
        | inl t ↦ rw (taken_if base.calls c t, all_more knows (taken_of base.calls) (c ∷ []), s.known, (takes_as home base c t w.taken).known) refl
        | inr t ↦ rw (taken_not base.calls c t) s.known
      ];
      serials_rise = s.serials_rise;
      serials_within = s.serials_within;
      openings_differ = rw (opening_more base.calls c, differ_both (opening base.calls) own, s.openings_differ, w.differ_own, all_less (may_open base) (λ n. not (list_any (is_number n) (opening base.calls))) own (λ n m. (opens_as base n m).new) w.open_own) refl;
      openings_counted = rw (opening_more base.calls c, all_more (nat_lt 0) (opening base.calls) own, s.openings_counted, all_less (may_open base) (nat_lt 0) own (λ n m. (opens_as base n m).counted) w.open_own) refl;
      openings_within = rw (opening_more base.calls c, all_more (λ m. nat_le m base.opens) (opening base.calls) own, s.openings_within, all_less (may_open base) (λ m. nat_le m base.opens) own (λ n m. (opens_as base n m).within) w.open_own) refl;
      openings_free = rw (opening_more base.calls c, all_more (λ n. not (has_item base n)) (opening base.calls) own, s.openings_free, all_less (may_open base) (λ n. not (has_item base n)) own (λ n m. (opens_as base n m).free) w.open_own) refl;
    }

-- and back
last_of_all : {X : Type 0} (p : X → Bool) (xs : List X) (x : X) → list_all p (xs ++ x ∷ []) ≡ true → p x ≡ true
last_of_all p xs x a = and_left (p x) true (and_right (list_all p xs) (list_all p (x ∷ [])) (sym (all_more p xs (x ∷ [])) ∙ a))

rest_of_all : (p : ℕ → Bool) (xs ys : List ℕ) → list_all p (xs ++ ys) ≡ true → list_all p ys ≡ true
rest_of_all p xs ys a = and_right (list_all p xs) (list_all p ys) (sym (all_more p xs ys) ∙ a)

pub takes_back : (home : Home) (base : Base) (c : BaseCall) → IsSoundSoFar home (with_call base c) → c.taken ≡ true → takes_apart home base c ≡ true
takes_back home base c s t =
    let cs : List BaseCall = taken_of base.calls in
    let names : BaseCall → Bool = λ d. names_apart d.asked.slots in
    let knows : BaseCall → Bool = λ d. list_all (is_known home base) d.asked.slots in
    let apart : are_apart (cs ++ c ∷ []) ≡ true = subst (λ xs. are_apart xs ≡ true) (taken_if base.calls c t) s.apart in
    let alone = and_right (are_apart cs) (not (list_any (λ d. conflicts_with d c) cs)) (sym (apart_more cs c) ∙ apart) in
    let once = last_of_all names cs c (subst (λ xs. list_all names xs ≡ true) (taken_if base.calls c t) s.names_once) in
    let known = last_of_all knows cs c (subst (λ xs. list_all knows xs ≡ true) (taken_if base.calls c t) s.known) in
    rw (alone, once, known) refl

pub call_tests : (home : Home) (base : Base) (c : BaseCall) → IsSoundSoFar home (with_call base c) → (nat_le c.call base.accepts ≡ true) × (rise (numbers_of (base.calls ++ c ∷ [])) ≡ true) × (joins_calls home base c ≡ true)
call_tests home base c s =
    let own : List ℕ = serials_in c.asked.slots in
    let numbers : list_all (λ m. nat_le m base.accepts) (numbers_of base.calls ++ c.call ∷ []) ≡ true = subst (λ ns. list_all (λ m. nat_le m base.accepts) ns ≡ true) (numbers_more base.calls c) s.calls_within in
    let apart : differ (opening base.calls ++ own) ≡ true = subst (λ ns. differ ns ≡ true) (opening_more base.calls c) s.openings_differ in
    let parts = sym (differ_both (opening base.calls) own) ∙ apart in
    let new = and_right (differ (opening base.calls) && differ own) (list_all (λ n. not (list_any (is_number n) (opening base.calls))) own) parts in
    let own_differ = and_right (differ (opening base.calls)) (differ own) (and_left (differ (opening base.calls) && differ own) (list_all (λ n. not (list_any (is_number n) (opening base.calls))) own) parts) in
    let counted = rest_of_all (nat_lt 0) (opening base.calls) own (subst (λ ns. list_all (nat_lt 0) ns ≡ true) (opening_more base.calls c) s.openings_counted) in
    let within = rest_of_all (λ m. nat_le m base.opens) (opening base.calls) own (subst (λ ns. list_all (λ m. nat_le m base.opens) ns ≡ true) (opening_more base.calls c) s.openings_within) in
    let free = rest_of_all (λ n. not (has_item base n)) (opening base.calls) own (subst (λ ns. list_all (λ n. not (has_item base n)) ns ≡ true) (opening_more base.calls c) s.openings_free) in
    let open_own = all_open base own counted within free new in
    let taken : (not c.taken || takes_apart home base c) ≡ true = elim (cases_Bool c.taken) [ inl t ↦ rw (t, takes_back home base c s t) refl | inr t ↦ rw t refl ] in
    (last_of_all (λ m. nat_le m base.accepts) (numbers_of base.calls) c.call numbers, s.calls_rise, rw (last_of_all (is_within base) base.calls c s.within, last_of_all (is_fresh base) base.calls c s.fresh, taken, own_differ, open_own) refl)

-- a call's number is above those before it
rise_above_more : (n : ℕ) (ns : List ℕ) (m k : ℕ) → rise_above n (ns ++ m ∷ k ∷ []) ≡ (rise_above n (ns ++ m ∷ []) && nat_lt m k)
rise_above_more n [] m k = grind (arith, common_steps)
rise_above_more n (x ∷ ns) m k = rw (rise_above_more x ns m k) (grind (arith, common_steps))

rise_more : (ns : List ℕ) (m k : ℕ) → rise (ns ++ m ∷ k ∷ []) ≡ (rise (ns ++ m ∷ []) && nat_lt m k)
rise_more [] m k = grind (arith, common_steps)
rise_more (x ∷ ns) m k = rise_above_more x ns m k

pub behind_last : (front : List BaseCall) (last c : BaseCall) (cs : List BaseCall) → cs ≡ front ++ last ∷ [] → rise (numbers_of cs) ≡ true → nat_lt last.call c.call ≡ rise (numbers_of (cs ++ c ∷ []))
behind_last front last c cs e r =
    let before : rise (numbers_of front ++ last.call ∷ []) ≡ true = subst (λ ns. rise ns ≡ true) (ap numbers_of e ∙ numbers_more front last) r in
    let whole : numbers_of (cs ++ c ∷ []) ≡ numbers_of front ++ last.call ∷ c.call ∷ [] =
    numbers_more cs c ∙ (ap (λ ns. ns ++ c.call ∷ []) (ap numbers_of e ∙ numbers_more front last) ∙ append_assoc (numbers_of front) (last.call ∷ []) (c.call ∷ [])) in
    sym (ap rise whole ∙ (rise_more (numbers_of front) last.call c.call ∙ rw before refl))

pub next_sound : (home : Home) (base : Base) (c : BaseCall) → IsSoundSoFar home base → comes_next home base c ≡ true → IsSoundSoFar home (with_call base c)
next_sound home base c s t =
    let n = nat_le c.call base.accepts in
    let r = rise (numbers_of (base.calls ++ c ∷ [])) in
    let front = and_left (n && r) (joins_calls home base c) t in
    call_sound home base c s (and_left n r front) (and_right n r front) (and_right (n && r) (joins_calls home base c) t)

pub next_tests : (home : Home) (base : Base) (c : BaseCall) → IsSoundSoFar home (with_call base c) → comes_next home base c ≡ true
next_tests home base c s = let t = call_tests home base c s in rw (t.0, t.1, t.2) refl
