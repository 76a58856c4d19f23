-- Which slots name a live handle of their kind, and which are at fault.
use Rattle.std.proofs.Common.{◌≡◌, ◌≢◌, ℕ, ◌+◌, ◌*◌, ◌^◌, ◌≤◌, ◌<◌, true, false, ◌&&◌, not, ◌==◌, Option, Some, None, is_some, List, [], ◌∷◌, ◌++◌, length, refl, sym, ◌∙◌, ap, subst, arith, inl, inr, append_assoc}
use Rattle.std.specs.List.{list_any, find}
use Rattle.std.specs.Option.{option_or, option_map}
use Rattle.std.proofs.lemmas.List.{append-nil, length_push}
use Rattle.std.proofs.lemmas.List.Folds.{list_any-append}
use Rattle.std.proofs.lemmas.Bool.{cases_Bool, cases_order, eqb-true, eq-eqb, and_from, false_from_ne_true}
use Rattle.rpc_base.specs.declared.identifiers.WireHandle.{WireHandle}
use Rattle.handle_model.specs.declared.entry.Home.{Home}
use Rattle.handle_model.specs.declared.entry.Slot.{Slot}
use Rattle.handle_model.specs.declared.entry.Slot.TheVariants.{Shares, Holds, Changes, Opens}
use Rattle.handle_model.specs.declared.entry.Outcome.{Outcome}
use Rattle.handle_model.specs.declared.entry.Outcome.TheVariants.{Issue}
use Rattle.handle_model.specs.declared.entry.Entry.{Entry}
use Rattle.handle_model.specs.declared.entry.Entry.TheVariants.{End}
use Rattle.handle_model.specs.declared.entry.DueItem.{DueItem}
use Rattle.handle_model.specs.declared.base.Base.{Base}
use Rattle.handle_model.specs.Bases.{is_named_by}
use Rattle.handle_model.specs.History.{History, since}
use Rattle.handle_model.specs.Slots.{wire_of, kind_of, named, names, is_null}
use Rattle.handle_model.specs.Journal.{Legal, issues, is_item_of, is_issued, is_closed, runs_down, is_live, kind, is_kind, first_named, serial_named, is_usable_as, is_usable, repeats, is_at_fault, fault_from, fault, slots}
use Rattle.handle_model.proofs.Held.{and_left, and_right, or_right, or_cases, opened_small}
use Rattle.handle_model.specs.Refused.{NamesLive, RefusedBy, any_alone}
use Rattle.handle_model.proofs.Apart.{same_wire_from}
use Rattle.handle_model.proofs.LiveNames.{names_one, first_named_is, serial_named_is, issued_within}
use Rattle.handle_model.proofs.OneSlot.{wire_is}

-- NAMES

pub named_names : (w : WireHandle) (s : Slot) → named s ≡ Some w → names w s ≡ true
named_names w (Shares t x) e = let q : x ≡ w = cc in rw q (same_wire_from w w refl refl)
named_names w (Holds t x) e = let q : x ≡ w = cc in rw q (same_wire_from w w refl refl)
named_names w (Changes t x) e = let q : x ≡ w = cc in rw q (same_wire_from w w refl refl)
named_names w (Opens t g) e = absurd (cc)

names_named : (w : WireHandle) (s : Slot) → names w s ≡ true → named s ≡ Some w
names_named w (Shares t x) n = ap (λ y. Some y) (wire_is x w n)
names_named w (Holds t x) n = ap (λ y. Some y) (wire_is x w n)
names_named w (Changes t x) n = ap (λ y. Some y) (wire_is x w n)
names_named w (Opens t g) n = absurd (cc)

-- THE SERIAL THAT A SLOT NAMES

first_found : (home : Home) (s : Slot) (os : List Outcome) (h : ℕ) → list_any (issues h) os ≡ true → names (wire_of home h) s ≡ true → is_some (first_named home s os) ≡ true
first_found home s [] h i n = absurd (cc)
first_found home s (Issue g c ∷ os) h i n =
    elim (cases_Bool (names (wire_of home g) s)) [
      | inl m ↦ rw m refl
      | inr m ↦ elim (or_cases (g == h) (list_any (issues h) os) i) [
        | inl e ↦ let there : names (wire_of home g) s ≡ true = subst (λ x. names (wire_of home x) s ≡ true) (sym (eqb-true g h e)) n in absurd (cc)
        | inr r ↦ rw m (first_found home s os h r n)
      ]
    ]
first_found home s (_ ∷ os) h i n = first_found home s os h i n

from_first : (home : Home) (s : Slot) (h : ℕ) (os : List Outcome) (o before : Option ℕ) → first_named home s os ≡ o → names (wire_of home h) s ≡ true → (o ≡ None → before ≡ Some h) → option_or o before ≡ Some h
from_first home s h os None before e n f = f refl
from_first home s h os (Some g) before e n f =
    let w = first_named_is home s os g e in ap (λ x. Some x) (sym (names_one home h g s n w.0))

item_named : (home : Home) (s : Slot) (items : List DueItem) (h : ℕ) → list_any (is_item_of h) items ≡ true → names (wire_of home h) s ≡ true → option_map (λ (i : DueItem). i.serial) (find (is_named_by home s) items) ≡ Some h
item_named home s [] h i n = absurd (cc)
item_named home s (x ∷ items) h i n =
    elim (cases_Bool (is_named_by home s x)) [
      | inl m ↦ rw m (ap (λ g. Some g) (sym (names_one home h x.serial s n m)))
      | inr m ↦ elim (or_cases (is_item_of h x) (list_any (is_item_of h) items) i) [
        | inl e ↦ let there : is_named_by home s x ≡ true = subst (λ g. names (wire_of home g) s ≡ true) (sym (eqb-true x.serial h e)) n in absurd (cc)
        | inr r ↦ rw m (item_named home s items h r n)
      ]
    ]

-- a slot that names an issued handle names its serial
pub named_issued : (home : Home) (base : Base) (past : List Entry) (s : Slot) (h : ℕ) → is_issued (since home base past) h ≡ true → names (wire_of home h) s ≡ true → serial_named (since home base past) s ≡ Some h
named_issued home base [] s h i n = item_named home s base.handles h i n
named_issued home base (End k os said ∷ past) s h i n =
    from_first home s h os (first_named home s os) (serial_named (since home base past) s) refl n (λ none. elim (or_cases (list_any (issues h) os) (is_issued (since home base past) h) i) [
      | inl e ↦ let some = first_found home s os h e n in let f = rw none at some in absurd (cc)
      | inr r ↦ named_issued home base past s h r n
    ])
named_issued home base (_ ∷ past) s h i n = named_issued home base past s h i n

-- A SLOT THAT NAMES A LIVE HANDLE OF ITS KIND

kind_is : (o : Option ℕ) (n : ℕ) → is_kind o n ≡ true → o ≡ Some n
kind_is None n e = absurd (cc)
kind_is (Some m) n e = ap (λ x. Some x) (eqb-true m n e)

of_kind : (o : Option ℕ) (n : ℕ) → o ≡ Some n → is_kind o n ≡ true
of_kind None n e = absurd (cc)
of_kind (Some m) n e = let q : m ≡ n = cc in eq-eqb m n q

usable_by : (j : History) (s : Slot) (o : Option ℕ) → serial_named j s ≡ o → is_usable_as j (kind_of s) o ≡ true → NamesLive j s
usable_by j s None e u = absurd (cc)
usable_by j s (Some h) e u =
    record {
      serial = h;
      name = names_named (wire_of j.home h) s (serial_named_is j.home j.base j.past s h e);
      live = and_left (is_live j h) (is_kind (kind j h) (kind_of s)) u;
      its_kind = kind_is (kind j h) (kind_of s) (and_right (is_live j h) (is_kind (kind j h) (kind_of s)) u);
    }

pub live_issued : (j : History) (h : ℕ) → is_live j h ≡ true → is_issued j h ≡ true
live_issued j h v =
    and_left (is_issued j h) (not (is_closed j h)) (and_left (is_issued j h && not (is_closed j h)) (not (list_any (runs_down h) j.past)) v)

pub usable_named : (j : History) (s : Slot) → is_usable j s ≡ true → NamesLive j s
usable_named j s u = usable_by j s (serial_named j s) refl u

pub named_usable : (j : History) (s : Slot) → NamesLive j s → is_usable j s ≡ true
named_usable j s v =
    let e = named_issued j.home j.base j.past s v.serial (live_issued j v.serial v.live) (named_names (wire_of j.home v.serial) s v.name) in
    rw e (and_from (is_live j v.serial) (is_kind (kind j v.serial) (kind_of s)) v.live (of_kind (kind j v.serial) (kind_of s) v.its_kind))

-- FOREIGN HANDLES

-- a live handle has a serial from 1 within 32 bits
live_range : (j : History) (h : ℕ) → Legal j → is_live j h ≡ true → (0 < h) × (h < 2 ^ 32)
live_range j h l v =
    let range = issued_within j h l (live_issued j h v) in
    let small = opened_small j.home j.base j.past l in (range.0, omega (arith, range.1, small))

-- a slot is at fault that names what no live handle is
unusable : (j : History) (earlier all : List Slot) (s : Slot) (w : WireHandle) → named s ≡ Some w → ((h : ℕ) → is_live j h ≡ true → w ≢ wire_of j.home h) → is_at_fault j earlier all s ≡ true
unusable j earlier all s w n f =
    let off : is_usable j s ≡ false =
    false_from_ne_true (is_usable j s) (λ u. let v = usable_named j s u in let same : w ≡ wire_of j.home v.serial = (let a = v.name in cc) in f v.serial v.live same) in
    let some : is_some (named s) ≡ true = rw n refl in rw (some, off) refl

pub null_at_fault : (j : History) (earlier all : List Slot) (s : Slot) (w : WireHandle) → Legal j → named s ≡ Some w → is_null w ≡ true → is_at_fault j earlier all s ≡ true
null_at_fault j earlier all s w l n z =
    unusable j earlier all s w n (λ h v same.
    let range = live_range j h l v in
    let none : w.id ≡ 0 = eqb-true w.id 0 (and_right (w.attributes == 0) (w.id == 0) z) in
    let id : w.id ≡ j.home.boot * 2 ^ 64 + j.home.group * 2 ^ 32 + h = ap (λ (x : WireHandle). x.id) same in
    let low = range.0 in absurd (omega arith))

same_home : (a b : Home) → a.boot ≡ b.boot → a.group ≡ b.group → a ≡ b
same_home a b p q =
    let made : ℕ → ℕ → Home = λ x y. record { boot = x; group = y } in
    ap (λ x. made x a.group) p ∙ ap (made b.boot) q

pub foreign_at_fault : (j : History) (other : Home) (earlier all : List Slot) (s : Slot) (h : ℕ) → Legal j → j.home.group < 2 ^ 32 → other.group < 2 ^ 32 → h < 2 ^ 32 → other ≢ j.home → named s ≡ Some (wire_of other h) → is_at_fault j earlier all s ≡ true
foreign_at_fault j other earlier all s h l ours theirs small d n =
    unusable j earlier all s (wire_of other h) n (λ g v same.
    let range = live_range j g l v in
    let high = range.1 in
    let id : other.boot * 2 ^ 64 + other.group * 2 ^ 32 + h ≡ j.home.boot * 2 ^ 64 + j.home.group * 2 ^ 32 + g = ap (λ (x : WireHandle). x.id) same in
    elim (cases_order other.boot j.home.boot) [
      | inl b ↦ elim (cases_order other.group j.home.group) [
        | inl c ↦ d (same_home other j.home b c)
        | inr c ↦ elim c [ inl lt ↦ absurd (omega arith) | inr gt ↦ absurd (omega arith) ]
      ]
      | inr b ↦ elim b [ inl lt ↦ absurd (omega arith) | inr gt ↦ absurd (omega arith) ]
    ])

-- HANDLES NAMED TWICE

pub twice_at_fault : (j : History) (front middle rest : List Slot) (s t : Slot) (w : WireHandle) → named s ≡ Some w → named t ≡ Some w → any_alone w (front ++ s ∷ middle ++ t ∷ rest) ≡ true → is_at_fault j (front ++ s ∷ middle) (front ++ s ∷ middle ++ t ∷ rest) t ≡ true
twice_at_fault j front middle rest s t w m n a =
    let first : list_any (names w) (front ++ s ∷ middle) ≡ true =
    list_any-append (names w) front (s ∷ middle) ∙ or_right (list_any (names w) front) (list_any (names w) (s ∷ middle)) (rw (named_names w s m) refl) in
    let again : repeats (front ++ s ∷ middle) (front ++ s ∷ middle ++ t ∷ rest) t ≡ true =
    rw n (and_from (list_any (names w) (front ++ s ∷ middle)) (any_alone w (front ++ s ∷ middle ++ t ∷ rest)) first a) in
    let some : is_some (named t) ≡ true = rw n refl in
    rw some (or_right (not (is_usable j t)) (repeats (front ++ s ∷ middle) (front ++ s ∷ middle ++ t ∷ rest) t) again)

-- A CALL WITH A SLOT AT FAULT

-- the first slot at fault stands at a place up to that one
pub record FirstFault (j : History) (all earlier later : List Slot) (n : ℕ) : Type 0 where
  pub at : ℕ
  pub found : fault_from j all earlier later ≡ Some at
  pub within : at ≤ n

faulty : (j : History) (all earlier front rest : List Slot) (s : Slot) → is_at_fault j (earlier ++ front) all s ≡ true → FirstFault j all earlier (front ++ s ∷ rest) (length earlier + length front)
faulty j all earlier [] rest s f =
    let here : is_at_fault j earlier all s ≡ true = subst (λ xs. is_at_fault j xs all s ≡ true) (append-nil earlier) f in
    record { at = length earlier; found = rw here refl; within = omega arith }
faulty j all earlier (x ∷ front) rest s f =
    elim (cases_Bool (is_at_fault j earlier all x)) [
      | inl here ↦ record { at = length earlier; found = rw here refl; within = omega arith }
      | inr off ↦
          let moved : is_at_fault j ((earlier ++ x ∷ []) ++ front) all s ≡ true =
          subst (λ xs. is_at_fault j xs all s ≡ true) (sym (append_assoc earlier (x ∷ []) front)) f in
          let more = faulty j all (earlier ++ x ∷ []) front rest s moved in
          let long = length_push earlier x in
          let low = more.within in
          record { at = more.at; found = rw off more.found; within = omega arith }
    ]

pub fault_refuses : (j : History) (k : ℕ) (front rest : List Slot) (s : Slot) → slots j k ≡ front ++ s ∷ rest → is_at_fault j front (slots j k) s ≡ true → RefusedBy j k (length front)
fault_refuses j k front rest s e f =
    let first = faulty j (slots j k) [] front rest s f in
    let found : fault j k ≡ Some first.at = ap (fault_from j (slots j k) []) e ∙ first.found in
    record { slot = first.at; first = found; within = let low = first.within in omega arith; untaken = λ cookies a. let none = a.fits.2 in cc }
