-- A base that is sound as far as some of its lines is so as far as the first of them.
use Rattle.std.proofs.Common.{◌≡◌, ℕ, Bool, true, false, not, ◌||◌, List, [], ◌∷◌, ◌++◌, refl, ap, sym, ◌∙◌, subst, append_assoc}
use Rattle.std.specs.Prelude.{nat_le, nat_lt, filter}
use Rattle.std.specs.List.{list_any, list_all, filter_map}
use Rattle.std.proofs.lemmas.List.{map-append}
use Rattle.std.proofs.lemmas.List.Elements.{filter-append}
use Rattle.handle_model.specs.declared.entry.Home.{Home}
use Rattle.handle_model.specs.declared.base.BaseCall.{BaseCall}
use Rattle.handle_model.specs.declared.base.Base.{Base}
use Rattle.handle_model.specs.Bases.{is_number, has_item, numbers_of}
use Rattle.handle_model.specs.Sound.{rise_above, rise, differ, is_fresh, is_within, conflicts_with, are_apart, names_apart, is_known, opening, serial_of}
use Rattle.handle_model.proofs.Held.{and_left, and_right}
use Rattle.journal_audit.specs.SoFar.{IsSoundSoFar}

-- FRONTS OF LISTS

all_front : {X : Type 0} (p : X → Bool) (xs ys : List X) → list_all p (xs ++ ys) ≡ true → list_all p xs ≡ true
all_front p [] ys a = refl
all_front p (x ∷ xs) ys a =
    let here = and_left (p x) (list_all p (xs ++ ys)) a in
    let later = all_front p xs ys (and_right (p x) (list_all p (xs ++ ys)) a) in
    rw (here, later) refl

rise_above_front : (n : ℕ) (xs ys : List ℕ) → rise_above n (xs ++ ys) ≡ true → rise_above n xs ≡ true
rise_above_front n [] ys a = refl
rise_above_front n (x ∷ xs) ys a =
    let here = and_left (nat_lt n x) (rise_above x (xs ++ ys)) a in
    let later = rise_above_front x xs ys (and_right (nat_lt n x) (rise_above x (xs ++ ys)) a) in
    rw (here, later) refl

rise_front : (xs ys : List ℕ) → rise (xs ++ ys) ≡ true → rise xs ≡ true
rise_front [] ys a = refl
rise_front (x ∷ xs) ys a = rise_above_front x xs ys a

none_step : (b all front : Bool) → (not all ≡ true → not front ≡ true) → not (b || all) ≡ true → not (b || front) ≡ true
none_step true all front f a = a
none_step false all front f a = f a

-- what is not in a list isn't in its front
none_front : {X : Type 0} (p : X → Bool) (xs ys : List X) → not (list_any p (xs ++ ys)) ≡ true → not (list_any p xs) ≡ true
none_front p [] ys a = refl
none_front p (x ∷ xs) ys a = none_step (p x) (list_any p (xs ++ ys)) (list_any p xs) (λ h. none_front p xs ys h) a

differ_front : (xs ys : List ℕ) → differ (xs ++ ys) ≡ true → differ xs ≡ true
differ_front [] ys a = refl
differ_front (x ∷ xs) ys a =
    let here = none_front (is_number x) xs ys (and_left (not (list_any (is_number x) (xs ++ ys))) (differ (xs ++ ys)) a) in
    let later = differ_front xs ys (and_right (not (list_any (is_number x) (xs ++ ys))) (differ (xs ++ ys)) a) in
    rw (here, later) refl

apart_front : (xs ys : List BaseCall) → are_apart (xs ++ ys) ≡ true → are_apart xs ≡ true
apart_front [] ys a = refl
apart_front (x ∷ xs) ys a =
    let here = none_front (conflicts_with x) xs ys (and_left (not (list_any (conflicts_with x) (xs ++ ys))) (are_apart (xs ++ ys)) a) in
    let later = apart_front xs ys (and_right (not (list_any (conflicts_with x) (xs ++ ys))) (are_apart (xs ++ ys)) a) in
    rw (here, later) refl

opening_both : (xs ys : List BaseCall) → opening (xs ++ ys) ≡ opening xs ++ opening ys
opening_both [] ys = refl
opening_both (x ∷ xs) ys =
    ap (λ t. filter_map serial_of x.asked.slots ++ t) (opening_both xs ys) ∙ sym (append_assoc (filter_map serial_of x.asked.slots) (opening xs) (opening ys))

-- BASES

abbrev pub with_calls : Base → List BaseCall → Base
with_calls b calls =
    record {
      count = b.count;
      joins = b.joins;
      accepts = b.accepts;
      opens = b.opens;
      conns = b.conns;
      calls = calls;
      handles = b.handles;
    }

abbrev taken_in : List BaseCall → List BaseCall
taken_in calls = filter (λ (c : BaseCall). c.taken) calls

numbers_both : (xs ys : List BaseCall) → numbers_of (xs ++ ys) ≡ numbers_of xs ++ numbers_of ys
numbers_both xs ys = map-append (λ (c : BaseCall). c.call) xs ys

taken_both : (xs ys : List BaseCall) → taken_in (xs ++ ys) ≡ taken_in xs ++ taken_in ys
taken_both xs ys = filter-append (λ (c : BaseCall). c.taken) xs ys

pub front_so_far : (home : Home) (b : Base) (front more : List BaseCall) → IsSoundSoFar home (with_calls b (front ++ more)) → IsSoundSoFar home (with_calls b front)
front_so_far home b front more s =
    let names : BaseCall → Bool = λ c. names_apart c.asked.slots in
    let knows : BaseCall → Bool = λ c. list_all (is_known home b) c.asked.slots in
    let free : ℕ → Bool = λ n. not (has_item b n) in
    let few : ℕ → Bool = λ n. nat_le n b.opens in
    let low : ℕ → Bool = λ n. nat_le n b.accepts in
    record {
      joins_small = s.joins_small;
      accepts_small = s.accepts_small;
      opens_small = s.opens_small;
      conns_rise = s.conns_rise;
      conns_within = s.conns_within;
      calls_rise = rise_front (numbers_of front) (numbers_of more) (subst (λ xs. rise xs ≡ true) (numbers_both front more) s.calls_rise);
      calls_within = all_front low (numbers_of front) (numbers_of more) (subst (λ xs. list_all low xs ≡ true) (numbers_both front more) s.calls_within);
      fresh = all_front (is_fresh b) front more s.fresh;
      within = all_front (is_within b) front more s.within;
      apart = apart_front (taken_in front) (taken_in more) (subst (λ xs. are_apart xs ≡ true) (taken_both front more) s.apart);
      names_once = all_front names (taken_in front) (taken_in more) (subst (λ xs. list_all names xs ≡ true) (taken_both front more) s.names_once);
      known = all_front knows (taken_in front) (taken_in more) (subst (λ xs. list_all knows xs ≡ true) (taken_both front more) s.known);
      serials_rise = s.serials_rise;
      serials_within = s.serials_within;
      openings_differ = differ_front (opening front) (opening more) (subst (λ xs. differ xs ≡ true) (opening_both front more) s.openings_differ);
      openings_counted = all_front (nat_lt 0) (opening front) (opening more) (subst (λ xs. list_all (nat_lt 0) xs ≡ true) (opening_both front more) s.openings_counted);
      openings_within = all_front few (opening front) (opening more) (subst (λ xs. list_all few xs ≡ true) (opening_both front more) s.openings_within);
      openings_free = all_front free (opening front) (opening more) (subst (λ xs. list_all free xs ≡ true) (opening_both front more) s.openings_free);
    }
