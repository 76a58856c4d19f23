-- What a sound base says of one of its calls.
use Rattle.std.proofs.Common.{◌≡◌, ◌≢◌, ℕ, ◌≤◌, ◌<◌, Bool, true, false, ◌&&◌, not, ◌==◌, nat_le, nat_lt, Option, Some, None, is_some, List, [], ◌∷◌, ◌++◌, refl, sym, ◌∙◌, subst, arith, inl, inr}
use Rattle.std.specs.List.{list_any, list_all, filter, find, filter_map}
use Rattle.std.proofs.lemmas.Grind.{common_steps}
use Rattle.std.proofs.lemmas.Bool.{eqb-true, false_from_ne_true, not-true}
use Rattle.std.proofs.lemmas.Bool.Decides.{eqb_tells}
use Rattle.handle_model.specs.declared.entry.Home.{Home}
use Rattle.handle_model.specs.declared.entry.Asked.{Asked}
use Rattle.handle_model.specs.declared.base.BaseCall.{BaseCall}
use Rattle.handle_model.specs.declared.base.Base.{Base}
use Rattle.handle_model.specs.declared.entry.DueItem.{DueItem}
use Rattle.handle_model.specs.Bases.{is_number, is_call, is_taken_call, asked_before, taken_before, numbers_of, has_item, serials_of}
use Rattle.handle_model.specs.Journal.{slots_in, any_clash, is_item_of}
use Rattle.handle_model.specs.Sound.{rise_above, rise, conflicts_with, are_apart, names_apart, is_known, serial_of, opening, differ, IsSoundBase}
use Rattle.handle_model.proofs.Tests.{and_left, and_right, or_right, or_cases, all_of}
use Rattle.handle_model.proofs.Held.{found_call}

-- RISING NUMBERS

pub above_least : (n m : ℕ) (ns : List ℕ) → rise_above n ns ≡ true → list_any (is_number m) ns ≡ true → n < m
above_least n m [] r i = absurd (cc)
above_least n m (x ∷ ns) r i = grind (arith, common_steps, above_least x m ns)

pub rise_later : (n : ℕ) (ns : List ℕ) → rise_above n ns ≡ true → rise ns ≡ true
rise_later n [] r = refl
rise_later n (x ∷ ns) r = and_right (nat_lt n x) (rise_above x ns) r

-- A CALL OF THE BASE

numbered : (cs : List BaseCall) (k : ℕ) → list_any (is_taken_call k) cs ≡ true → list_any (is_number k) (numbers_of cs) ≡ true
numbered [] k h = absurd (cc)
numbered (d ∷ cs) k h = grind (arith, common_steps, numbered cs k)

-- a call that was taken, as it is found by its number
pub record FoundTaken (calls : List BaseCall) (k : ℕ) : Type 0 where
  pub call : BaseCall
  pub found : find (is_call k) calls ≡ Some call
  pub taken : call.taken ≡ true

pub found_taken : (cs : List BaseCall) (k : ℕ) → rise (numbers_of cs) ≡ true → list_any (is_taken_call k) cs ≡ true → FoundTaken cs k
found_taken [] k r h = absurd (cc)
found_taken (d ∷ cs) k r h =
    elim (eqb_tells d.call k) [
      | inl e ↦ elim (or_cases (is_taken_call k d) (list_any (is_taken_call k) cs) h) [
        | inl t ↦ record { call = d; found = rw e.0 refl; taken = and_right (d.call == k) d.taken t }
        | inr t ↦ let low = above_least d.call k (numbers_of cs) r (numbered cs k t) in let same = e.1 in absurd (omega arith)
      ]
      | inr e ↦
          let w = found_taken cs k (rise_later d.call (numbers_of cs) r) (rw e.0 at h) in
          record { call = w.call; found = rw e.0 w.found; taken = w.taken }
    ]

pub taken_found : (home : Home) (base : Base) (k : ℕ) → IsSoundBase home base → taken_before base k ≡ true → FoundTaken base.calls k
taken_found home base k s t = found_taken base.calls k s.calls_rise t

-- what holds of all calls that were taken, or of none
pub taken_passes : (p : BaseCall → Bool) (cs : List BaseCall) (k : ℕ) (c : BaseCall) → find (is_call k) cs ≡ Some c → c.taken ≡ true → list_all p (filter (λ (d : BaseCall). d.taken) cs) ≡ true → p c ≡ true
taken_passes p [] k c f t a = absurd (cc)
taken_passes p (d ∷ cs) k c f t a = grind (arith, common_steps, and_left, and_right, taken_passes p cs k c)

pub taken_fails : (p : BaseCall → Bool) (cs : List BaseCall) (k : ℕ) (c : BaseCall) → find (is_call k) cs ≡ Some c → c.taken ≡ true → list_any p (filter (λ (d : BaseCall). d.taken) cs) ≡ false → p c ≡ false
taken_fails p [] k c f t a = absurd (cc)
taken_fails p (d ∷ cs) k c f t a = grind (arith, common_steps, taken_fails p cs k c)

-- its slots are those that the journal gives it
pub found_slots : (base : Base) (k : ℕ) (c : BaseCall) → find (is_call k) base.calls ≡ Some c → slots_in (asked_before base k) ≡ c.asked.slots
found_slots base k c f = rw f refl

-- NUMBERS

found_number : (cs : List BaseCall) (k : ℕ) (c : BaseCall) → find (is_call k) cs ≡ Some c → list_any (is_number k) (numbers_of cs) ≡ true
found_number [] k c f = absurd (cc)
found_number (d ∷ cs) k c f = grind (arith, common_steps, found_number cs k c)

pub asked_before_within : (home : Home) (base : Base) (k : ℕ) (a : Asked) → IsSoundBase home base → asked_before base k ≡ Some a → k ≤ base.accepts
asked_before_within home base k a s e =
    let w = found_call base k a e in
    let h = all_of (λ m. nat_le m base.accepts) (numbers_of base.calls) k s.calls_within (found_number base.calls k w.call w.found) in
    grind (arith, common_steps)

pub taken_before_within : (home : Home) (base : Base) (k : ℕ) → IsSoundBase home base → taken_before base k ≡ true → k ≤ base.accepts
taken_before_within home base k s t =
    let h = all_of (λ m. nat_le m base.accepts) (numbers_of base.calls) k s.calls_within (numbered base.calls k t) in
    grind (arith, common_steps)

-- a call that was taken asked something
pub taken_asked : (home : Home) (base : Base) (k : ℕ) → IsSoundBase home base → taken_before base k ≡ true → is_some (asked_before base k) ≡ true
taken_asked home base k s t = let w = taken_found home base k s t in rw w.found refl

-- CALLS THAT WERE TAKEN

-- they are apart, that of the lesser number first
apart_found : (cs : List BaseCall) (k m : ℕ) (c d : BaseCall) → are_apart (filter (λ (x : BaseCall). x.taken) cs) ≡ true → find (is_call k) cs ≡ Some c → c.taken ≡ true → find (is_call m) cs ≡ Some d → d.taken ≡ true → k ≢ m → (conflicts_with c d && conflicts_with d c) ≡ false
apart_found [] k m c d a f t g u n = absurd (cc)
apart_found (x ∷ cs) k m c d a f t g u n =
    elim (eqb_tells x.call k) [
      | inl e ↦
          let other : (x.call == m) ≡ false = elim (eqb_tells x.call m) [ inl q ↦ absurd (n (sym e.1 ∙ q.1)) | inr q ↦ q.0 ] in
          let here : x ≡ c = (let h = rw e.0 at f in cc) in
          let h = rw other at g in grind (arith, common_steps, taken_fails (conflicts_with x) cs m d)
      | inr e ↦ elim (eqb_tells x.call m) [
        | inl q ↦
            let here : x ≡ d = (let h = rw q.0 at g in cc) in
            let h = rw e.0 at f in grind (arith, common_steps, taken_fails (conflicts_with x) cs k c)
        | inr q ↦
            let more = apart_found cs k m c d in
            let h = rw e.0 at f in let i = rw q.0 at g in grind (arith, common_steps, and_right, more)
      ]
    ]

-- two of them don't conflict, one way round at least
pub apart_before : (home : Home) (base : Base) (k m : ℕ) → IsSoundBase home base → taken_before base k ≡ true → taken_before base m ≡ true → k ≢ m → (any_clash (slots_in (asked_before base k)) (slots_in (asked_before base m)) && any_clash (slots_in (asked_before base m)) (slots_in (asked_before base k))) ≡ false
apart_before home base k m s t u n =
    let v = taken_found home base k s t in
    let w = taken_found home base m s u in
    rw (v.found, w.found) (apart_found base.calls k m v.call w.call s.apart v.found v.taken w.found w.taken n)

-- none names a handle twice, one of the uses being exclusive
pub names_before : (home : Home) (base : Base) (k : ℕ) → IsSoundBase home base → taken_before base k ≡ true → names_apart (slots_in (asked_before base k)) ≡ true
names_before home base k s t =
    let v = taken_found home base k s t in
    rw v.found (taken_passes (λ (c : BaseCall). names_apart c.asked.slots) base.calls k v.call v.found v.taken s.names_once)

-- and each names handles of the base alone, of their kinds
pub known_before : (home : Home) (base : Base) (k : ℕ) → IsSoundBase home base → taken_before base k ≡ true → list_all (is_known home base) (slots_in (asked_before base k)) ≡ true
known_before home base k s t =
    let v = taken_found home base k s t in
    rw v.found (taken_passes (λ (c : BaseCall). list_all (is_known home base) c.asked.slots) base.calls k v.call v.found v.taken s.known)

-- SERIALS THAT THE CALLS MAY ISSUE

-- those of one call
abbrev pub opens_before : Base → ℕ → List ℕ
opens_before base k = filter_map serial_of (slots_in (asked_before base k))

in_front : (h : ℕ) (xs ys : List ℕ) → list_any (is_number h) xs ≡ true → list_any (is_number h) (xs ++ ys) ≡ true
in_front h [] ys i = absurd (cc)
in_front h (x ∷ xs) ys i = grind (arith, common_steps, in_front h xs ys)

behind : (h : ℕ) (xs ys : List ℕ) → list_any (is_number h) ys ≡ true → list_any (is_number h) (xs ++ ys) ≡ true
behind h [] ys i = i
behind h (x ∷ xs) ys i = or_right (is_number h x) (list_any (is_number h) (xs ++ ys)) (behind h xs ys i)

differ_later : (xs ys : List ℕ) → differ (xs ++ ys) ≡ true → differ ys ≡ true
differ_later [] ys d = d
differ_later (x ∷ xs) ys d = differ_later xs ys (and_right (not (list_any (is_number x) (xs ++ ys))) (differ (xs ++ ys)) d)

-- no number stands in both parts
differ_parts : (h : ℕ) (xs ys : List ℕ) → differ (xs ++ ys) ≡ true → list_any (is_number h) xs ≡ true → list_any (is_number h) ys ≡ false
differ_parts h [] ys d i = absurd (cc)
differ_parts h (x ∷ xs) ys d i =
    elim (or_cases (x == h) (list_any (is_number h) xs) i) [
      | inl e ↦
          let same = eqb-true x h e in
          let off = not-true (list_any (is_number x) (xs ++ ys)) (and_left (not (list_any (is_number x) (xs ++ ys))) (differ (xs ++ ys)) d) in
          false_from_ne_true (list_any (is_number h) ys) (λ t.
          let on = subst (λ n. list_any (is_number n) (xs ++ ys) ≡ true) (sym same) (behind h xs ys t) in cc)
      | inr r ↦ differ_parts h xs ys (and_right (not (list_any (is_number x) (xs ++ ys))) (differ (xs ++ ys)) d) r
    ]

found_opening : (cs : List BaseCall) (k h : ℕ) (c : BaseCall) → find (is_call k) cs ≡ Some c → list_any (is_number h) (filter_map serial_of c.asked.slots) ≡ true → list_any (is_number h) (opening cs) ≡ true
found_opening [] k h c f i = absurd (cc)
found_opening (d ∷ cs) k h c f i =
    elim (eqb_tells d.call k) [
      | inl e ↦
          let same : d ≡ c = (let g = rw e.0 at f in cc) in
          in_front h (filter_map serial_of d.asked.slots) (opening cs) (subst (λ (x : BaseCall). list_any (is_number h) (filter_map serial_of x.asked.slots) ≡ true) (sym same) i)
      | inr e ↦ behind h (filter_map serial_of d.asked.slots) (opening cs) (found_opening cs k h c (rw e.0 at f) i)
    ]

-- a serial of one call is that of no other
opening_once : (cs : List BaseCall) (h k m : ℕ) (c d : BaseCall) → differ (opening cs) ≡ true → find (is_call k) cs ≡ Some c → list_any (is_number h) (filter_map serial_of c.asked.slots) ≡ true → find (is_call m) cs ≡ Some d → list_any (is_number h) (filter_map serial_of d.asked.slots) ≡ true → k ≡ m
opening_once [] h k m c d w f i g j = absurd (cc)
opening_once (x ∷ cs) h k m c d w f i g j =
    let mine : List ℕ = filter_map serial_of x.asked.slots in
    elim (eqb_tells x.call k) [
      | inl e ↦ elim (eqb_tells x.call m) [
        | inl q ↦ sym e.1 ∙ q.1
        | inr q ↦
            let same : x ≡ c = (let g' = rw e.0 at f in cc) in
            let here : list_any (is_number h) mine ≡ true = subst (λ (y : BaseCall). list_any (is_number h) (filter_map serial_of y.asked.slots) ≡ true) (sym same) i in
            let off = differ_parts h mine (opening cs) w here in
            let on = found_opening cs m h d (rw q.0 at g) j in absurd (cc)
      ]
      | inr e ↦ elim (eqb_tells x.call m) [
        | inl q ↦
            let same : x ≡ d = (let g' = rw q.0 at g in cc) in
            let here : list_any (is_number h) mine ≡ true = subst (λ (y : BaseCall). list_any (is_number h) (filter_map serial_of y.asked.slots) ≡ true) (sym same) j in
            let off = differ_parts h mine (opening cs) w here in
            let on = found_opening cs k h c (rw e.0 at f) i in absurd (cc)
        | inr q ↦ opening_once cs h k m c d (differ_later mine (opening cs) w) (rw e.0 at f) i (rw q.0 at g) j
      ]
    ]

call_opening : (base : Base) (k h : ℕ) (o : Option BaseCall) → find (is_call k) base.calls ≡ o → list_any (is_number h) (opens_before base k) ≡ true → (c : BaseCall) × (find (is_call k) base.calls ≡ Some c) × (list_any (is_number h) (filter_map serial_of c.asked.slots) ≡ true)
call_opening base k h None f i = let g = rw f at i in absurd (cc)
call_opening base k h (Some c) f i = (c, f, rw f at i)

pub opened_before : (home : Home) (base : Base) (k h : ℕ) → IsSoundBase home base → list_any (is_number h) (opens_before base k) ≡ true → (0 < h) × (h ≤ base.opens) × (has_item base h ≡ false)
opened_before home base k h s i =
    let w = call_opening base k h (find (is_call k) base.calls) refl i in
    let on = found_opening base.calls k h w.0 w.1 w.2 in
    let low = all_of (nat_lt 0) (opening base.calls) h s.openings_counted on in
    let high = all_of (λ n. nat_le n base.opens) (opening base.calls) h s.openings_within on in
    let off = all_of (λ n. not (has_item base n)) (opening base.calls) h s.openings_free on in
    (grind (arith, common_steps), grind (arith, common_steps), not-true (has_item base h) off)

pub opened_before_once : (home : Home) (base : Base) (h k m : ℕ) → IsSoundBase home base → list_any (is_number h) (opens_before base k) ≡ true → list_any (is_number h) (opens_before base m) ≡ true → k ≡ m
opened_before_once home base h k m s i j =
    let v = call_opening base k h (find (is_call k) base.calls) refl i in
    let w = call_opening base m h (find (is_call m) base.calls) refl j in
    opening_once base.calls h k m v.0 w.0 s.openings_differ v.1 v.2 w.1 w.2

-- HANDLES

item_number : (items : List DueItem) (h : ℕ) → list_any (is_item_of h) items ≡ true → list_any (is_number h) (serials_of items) ≡ true
item_number [] h i = absurd (cc)
item_number (x ∷ items) h i = grind (arith, common_steps, item_number items h)

pub item_within : (home : Home) (base : Base) (h : ℕ) → IsSoundBase home base → has_item base h ≡ true → (0 < h) × (h ≤ base.opens)
item_within home base h s i =
    let n = item_number base.handles h i in
    let high = all_of (λ m. nat_le m base.opens) (serials_of base.handles) h s.serials_within n in
    (above_least 0 h (serials_of base.handles) s.serials_rise n, grind (arith, common_steps))
