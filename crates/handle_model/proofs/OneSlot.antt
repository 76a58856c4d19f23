-- A running call closes a handle at one slot, and issues one at one slot.
use Rattle.std.proofs.Common.{◌≡◌, ℕ, ◌+◌, ◌≤◌, suc, Bool, true, false, ◌&&◌, ◌||◌, not, ◌==◌, Option, Some, None, List, [], ◌∷◌, ◌++◌, length, is_some, refl, sym, ◌∙◌, ap, subst, arith, inl, inr, append_assoc}
use Rattle.std.specs.List.{list_any, list_all, filter, filter_map, find}
use Rattle.std.specs.Option.{option_map}
use Rattle.std.proofs.lemmas.Grind.{common_steps}
use Rattle.std.proofs.lemmas.List.Folds.{list_any-append}
use Rattle.std.proofs.lemmas.Bool.Decides.{eqb_tells}
use Rattle.std.proofs.lemmas.Bool.{eqb-true, cases_Bool, false_from_ne_true, not-true, or_parts}
use Rattle.rpc_base.specs.declared.identifiers.WireHandle.{WireHandle}
use Rattle.handle_model.specs.declared.entry.Home.{Home}
use Rattle.handle_model.specs.declared.entry.Slot.{Slot}
use Rattle.handle_model.specs.declared.entry.Slot.TheVariants.{Shares, Holds, Changes, Opens}
use Rattle.handle_model.specs.declared.entry.Outcome.{Outcome}
use Rattle.handle_model.specs.declared.entry.Outcome.TheVariants.{Keep, Close, Issue, Nothing}
use Rattle.handle_model.specs.declared.entry.Entry.{Entry}
use Rattle.handle_model.specs.declared.entry.Entry.TheVariants.{Accept, Take, End}
use Rattle.handle_model.specs.declared.base.BaseCall.{BaseCall}
use Rattle.handle_model.specs.declared.base.Base.{Base}
use Rattle.handle_model.specs.Slots.{wire_of, named, names, same_wire, is_null, same_name, clash, is_exclusive}
use Rattle.handle_model.specs.Bases.{is_number, is_call}
use Rattle.handle_model.specs.Sound.{serial_of, opening, differ, names_apart, is_item_for, is_known}
use Rattle.handle_model.specs.History.{History, since}
use Rattle.handle_model.specs.Journal.{runs, slots, slots_in, repeats, fault_from, closes, any_closes, issues, suits, suit, follow, opened, Legal}
use Rattle.handle_model.proofs.Held.{and_left, and_right, or_right}
use Rattle.handle_model.proofs.BaseFacts.{names_before, known_before, item_within}
use Rattle.handle_model.specs.Fates.{closed_slots}
use Rattle.handle_model.proofs.Apart.{slots_kept, runs_below, runs_taken, runs_ended, runs_taken_before, same_wire_is, clash_comm}
use Rattle.handle_model.proofs.Once.{none_passes}
use Rattle.handle_model.proofs.LiveNames.{suit_opens, one_opens, opens_serial, opens_listed, served, wire_live}

-- NAMES THAT ARE NOT REPEATED

-- no slot repeats the name of an earlier one beside an exclusive use
abbrev pub Unrepeated : List Slot → List Slot → List Slot → Type 0
Unrepeated all earlier [] = Unit {0}
Unrepeated all earlier (s ∷ later) = (is_some (named s) ≡ true → repeats earlier all s ≡ false) × Unrepeated all (earlier ++ s ∷ []) later

faultless : (j : History) (all earlier later : List Slot) → fault_from j all earlier later ≡ None → Unrepeated all earlier later
faultless j all earlier [] f = tt
faultless j all earlier (s ∷ later) f =
    let more = faultless j all (earlier ++ s ∷ []) later in (λ n. grind (arith, common_steps), more (grind (arith, common_steps)))

-- SLOTS THAT DON'T CLASH

-- two slots that name one handle, which isn't null
clash_named : (w : WireHandle) (x s : Slot) → is_null w ≡ false → names w x ≡ true → named s ≡ Some w → clash x s ≡ (is_exclusive x || is_exclusive s)
clash_named w (Shares t v) s n x e = let q = same_wire_is v w x in let m : is_null v ≡ false = rw (q.0, q.1) n in rw (e, x, m) refl
clash_named w (Holds t v) s n x e = let q = same_wire_is v w x in let m : is_null v ≡ false = rw (q.0, q.1) n in rw (e, x, m) refl
clash_named w (Changes t v) s n x e = let q = same_wire_is v w x in let m : is_null v ≡ false = rw (q.0, q.1) n in rw (e, x, m) refl
clash_named w (Opens t g) s n x e = absurd (cc)

-- where the slots before s clash with it at none, s is no exclusive use of a handle that one of them names
before_shared : (w : WireHandle) (xs : List Slot) (s : Slot) → is_null w ≡ false → named s ≡ Some w → list_any (λ x. clash x s) xs ≡ false → list_any (names w) xs ≡ true → is_exclusive s ≡ false
before_shared w [] s n e c h = absurd (cc)
before_shared w (x ∷ xs) s n e c h =
    let parts = or_parts (clash x s) (list_any (λ y. clash y s) xs) c in
    elim (cases_Bool (names w x)) [
      | inl t ↦ (or_parts (is_exclusive x) (is_exclusive s) (sym (clash_named w x s n t e) ∙ parts.0)).1
      | inr t ↦ before_shared w xs s n e parts.1 (rw t at h)
    ]

-- and none of them is one either
none_alone : (w : WireHandle) (xs : List Slot) (s : Slot) → is_null w ≡ false → named s ≡ Some w → list_any (λ x. clash x s) xs ≡ false → list_any (λ x. names w x && is_exclusive x) xs ≡ false
none_alone w [] s n e c = refl
none_alone w (x ∷ xs) s n e c =
    let parts = or_parts (clash x s) (list_any (λ y. clash y s) xs) c in
    let rest = none_alone w xs s n e parts.1 in
    elim (cases_Bool (names w x)) [
      | inl t ↦ let off = (or_parts (is_exclusive x) (is_exclusive s) (sym (clash_named w x s n t e) ∙ parts.0)).0 in rw (t, off, rest) refl
      | inr t ↦ rw (t, rest) refl
    ]

turned : (s : Slot) (ys : List Slot) → list_any (clash s) ys ≡ list_any (λ y. clash y s) ys
turned s [] = refl
turned s (y ∷ ys) = rw (clash_comm s y, turned s ys) refl

-- a slot clashes with none around it
pub record Apart (front : List Slot) (s : Slot) (rest : List Slot) : Type 0 where
  pub before : list_any (λ x. clash x s) front ≡ false
  pub behind : list_any (clash s) rest ≡ false

apart_around : (front : List Slot) (s : Slot) (rest : List Slot) → names_apart (front ++ s ∷ rest) ≡ true → Apart front s rest
apart_around [] s rest a =
    record { before = refl; behind = not-true (list_any (clash s) rest) (and_left (not (list_any (clash s) rest)) (names_apart rest) a) }
apart_around (x ∷ front) s rest a =
    let more = apart_around front s rest (and_right (not (list_any (clash x) (front ++ s ∷ rest))) (names_apart (front ++ s ∷ rest)) a) in
    let off = not-true (list_any (clash x) (front ++ s ∷ rest)) (and_left (not (list_any (clash x) (front ++ s ∷ rest))) (names_apart (front ++ s ∷ rest)) a) in
    let split = or_parts (list_any (clash x) front) (list_any (clash x) (s ∷ rest)) (sym (list_any-append (clash x) front (s ∷ rest)) ∙ off) in
    let here = (or_parts (clash x s) (list_any (clash x) rest) split.1).0 in
    record { before = rw (here, more.before) refl; behind = more.behind }

same_none : (xs : List Slot) → list_any (same_name None) xs ≡ false
same_none [] = refl
same_none (x ∷ xs) = same_none xs

and_off : (a : Bool) → (a && false) ≡ false
and_off true = refl
and_off false = refl

pub wire_is : (a b : WireHandle) → same_wire a b ≡ true → a ≡ b
wire_is a b h =
    let e = same_wire_is a b h in
    let made : ℕ → ℕ → WireHandle = λ x y. record { attributes = x; id = y } in
    ap (λ x. made x a.id) e.0 ∙ ap (made b.attributes) e.1

-- a slot that names a handle names no other
names_wire : (v w : WireHandle) (s : Slot) → named s ≡ Some w → names v s ≡ true → w ≡ v
names_wire v w (Shares t x) e n = let q : x ≡ w = cc in sym q ∙ wire_is x v n
names_wire v w (Holds t x) e n = let q : x ≡ w = cc in sym q ∙ wire_is x v n
names_wire v w (Changes t x) e n = let q : x ≡ w = cc in sym q ∙ wire_is x v n
names_wire v w (Opens t g) e n = absurd (cc)

-- the base's handles are not null
known_wire : (home : Home) (base : Base) (s : Slot) (w : WireHandle) → Legal (since home base []) → named s ≡ Some w → is_known home base s ≡ true → is_null w ≡ false
known_wire home base s w l e k =
    let item : list_any (is_item_for home s) base.handles ≡ true = rw e at k in
    let it = served home s base.handles item in
    let low = item_within home base it.0 l it.2 in
    let same = names_wire (wire_of home it.0) w s e it.1 in
    subst (λ (v : WireHandle). is_null v ≡ false) (sym same) (wire_live home it.0 low.0)

unrepeated_at : (w : WireHandle) (front : List Slot) (s : Slot) (rest : List Slot) → is_null w ≡ false → named s ≡ Some w → Apart front s rest → repeats front (front ++ s ∷ rest) s ≡ false
unrepeated_at w front s rest n e a =
    elim (cases_Bool (list_any (names w) front)) [
      | inl t ↦
          let single = before_shared w front s n e a.before t in
          let first = none_alone w front s n e a.before in
          let last = none_alone w rest s n e (sym (turned s rest) ∙ a.behind) in
          let here : (names w s && is_exclusive s) ≡ false = rw single (and_off (names w s)) in
          let all : list_any (λ x. names w x && is_exclusive x) (front ++ s ∷ rest) ≡ false =
          list_any-append (λ x. names w x && is_exclusive x) front (s ∷ rest) ∙ rw (first, here, last) refl in
          rw (e, t, all) refl
      | inr t ↦ rw (e, t) refl
    ]

known_slot : (home : Home) (base : Base) (all earlier : List Slot) (s : Slot) (later : List Slot) (o : Option WireHandle) → Legal (since home base []) → all ≡ earlier ++ s ∷ later → names_apart all ≡ true → is_known home base s ≡ true → named s ≡ o → repeats earlier all s ≡ false
known_slot home base all earlier s later None l q a k e = rw (e, same_none earlier) refl
known_slot home base all earlier s later (Some w) l q a k e =
    let wire = known_wire home base s w l e k in
    let around = apart_around earlier s later (subst (λ xs. names_apart xs ≡ true) q a) in
    subst (λ xs. repeats earlier xs s ≡ false) (sym q) (unrepeated_at w earlier s later wire e around)

known_unrepeated : (home : Home) (base : Base) (all earlier later : List Slot) → Legal (since home base []) → all ≡ earlier ++ later → names_apart all ≡ true → list_all (is_known home base) later ≡ true → Unrepeated all earlier later
known_unrepeated home base all earlier [] l q a k = tt
known_unrepeated home base all earlier (s ∷ later) l q a k = (
  λ n. known_slot home base all earlier s later (named s) l q a (and_left (is_known home base s) (list_all (is_known home base) later) k) refl,
  known_unrepeated home base all (earlier ++ s ∷ []) later l (q ∙ sym (append_assoc earlier (s ∷ []) later)) a (and_right (is_known home base s) (list_all (is_known home base) later) k),
)

-- RUNNING CALLS

unrepeated_since : (home : Home) (base : Base) (past : List Entry) (k : ℕ) → Legal (since home base past) → runs (since home base past) k ≡ true → Unrepeated (slots (since home base past) k) [] (slots (since home base past) k)
unrepeated_since home base [] k l r =
    let j : History = since home base [] in
    let t = runs_taken_before j k r in
    known_unrepeated home base (slots j k) [] (slots j k) l refl (names_before home base k l t) (known_before home base k l t)
unrepeated_since home base (Take m cookies ∷ past) k l r =
    let j : History = since home base past in
    elim (runs_taken j m k cookies r) [
      | inl e ↦ subst (λ (i : ℕ). Unrepeated (slots j i) [] (slots j i)) e (faultless j (slots j m) [] (slots j m) l.0.fits.2)
      | inr s ↦ unrepeated_since home base past k l.1 s
    ]
unrepeated_since home base (Accept m a ∷ past) k l r =
    let j : History = since home base past in
    rw (slots_kept j m k a (runs_below j m k l.1 l.0.fits.0 r)) (unrepeated_since home base past k l.1 r)
unrepeated_since home base (End m results said ∷ past) k l r =
    unrepeated_since home base past k l.1 (runs_ended (since home base past) m k results said r)
unrepeated_since home base (_ ∷ past) k l r = unrepeated_since home base past k l.1 r

-- the slots of a running call are so
pub running_unrepeated : (j : History) (k : ℕ) → Legal j → runs j k ≡ true → Unrepeated (slots j k) [] (slots j k)
running_unrepeated j k l r = unrepeated_since j.home j.base j.past k l r

-- CLOSED AT ONE SLOT

pub closed_none : (w : WireHandle) (ss : List Slot) (os : List Outcome) → any_closes w ss os ≡ false → closed_slots w ss os ≡ 0
closed_none w [] os n = refl
closed_none w (s ∷ ss) [] n = refl
closed_none w (s ∷ ss) (o ∷ os) n =
    let h = or_parts (closes w s o) (any_closes w ss os) n in rw (h.0, closed_none w ss os h.1) refl

-- a slot that closes a handle changes it
pub record Changer (w : WireHandle) (s : Slot) : Type 0 where
  pub handle : WireHandle
  pub same : handle ≡ w
  pub name : named s ≡ Some handle
  pub names_it : names w s ≡ true
  pub alone : is_exclusive s ≡ true

pub changer : (w : WireHandle) (s : Slot) (o : Outcome) → suits s o ≡ true → closes w s o ≡ true → Changer w s
changer w (Changes t x) Close u c = record { handle = x; same = wire_is x w c; name = refl; names_it = c; alone = refl }
changer w (Shares t x) Close u c = absurd (cc)
changer w (Holds t x) Close u c = absurd (cc)
changer w (Opens t x) Close u c = absurd (cc)
changer w s (Keep d) u c = absurd (cc)
changer w s (Issue g d) u c = absurd (cc)
changer w s Nothing u c = absurd (cc)

both : (a b : Bool) → a ≡ true → b ≡ true → (a && b) ≡ true
both a b p q = rw (p, q) refl

repeats_it : (w : WireHandle) (earlier all : List Slot) (s : Slot) → Changer w s → list_any (names w) earlier ≡ true → list_any (λ t. names w t && is_exclusive t) all ≡ true → repeats earlier all s ≡ true
repeats_it w earlier all s c e a =
    let n : named s ≡ Some w = c.name ∙ ap (λ x. Some x) c.same in
    rw n (both (list_any (names w) earlier) (list_any (λ t. names w t && is_exclusive t) all) e a)

-- once the name has stood, no later slot closes it
later_unclosed : (w : WireHandle) (all earlier later : List Slot) (os : List Outcome) → list_any (names w) earlier ≡ true → list_any (λ t. names w t && is_exclusive t) all ≡ true → Unrepeated all earlier later → suit later os ≡ true → closed_slots w later os ≡ 0
later_unclosed w all earlier [] os e a u s = refl
later_unclosed w all earlier (t ∷ later) [] e a u s = refl
later_unclosed w all earlier (t ∷ later) (o ∷ os) e a u s =
    let here : closes w t o ≡ false =
    false_from_ne_true (closes w t o) (λ c.
    let who = changer w t o (and_left (suits t o) (suit later os) s) c in
    let some : is_some (named t) ≡ true = rw who.name refl in
    let twice = repeats_it w earlier all t who e a in
    let once = u.0 some in cc) in
    let more : list_any (names w) (earlier ++ t ∷ []) ≡ true = list_any-append (names w) earlier (t ∷ []) ∙ rw e refl in
    rw (here, later_unclosed w all (earlier ++ t ∷ []) later os more a u.1 (and_right (suits t o) (suit later os) s)) refl

first_closer : (w : WireHandle) (all earlier later : List Slot) (os : List Outcome) (t : Slot) (o : Outcome) → all ≡ earlier ++ t ∷ later → Unrepeated all (earlier ++ t ∷ []) later → suits t o ≡ true → suit later os ≡ true → closes w t o ≡ true → closed_slots w later os ≡ 0
first_closer w all earlier later os t o q u s ss e =
    let who = changer w t o s e in
    let it : (names w t && is_exclusive t) ≡ true = both (names w t) (is_exclusive t) who.names_it who.alone in
    let exclusive : list_any (λ x. names w x && is_exclusive x) all ≡ true =
    ap (list_any (λ x. names w x && is_exclusive x)) q ∙ (list_any-append (λ x. names w x && is_exclusive x) earlier (t ∷ later) ∙ or_right (list_any (λ x. names w x && is_exclusive x) earlier) (list_any (λ x. names w x && is_exclusive x) (t ∷ later)) (rw it refl)) in
    let before : list_any (names w) (earlier ++ t ∷ []) ≡ true =
    list_any-append (names w) earlier (t ∷ []) ∙ or_right (list_any (names w) earlier) (list_any (names w) (t ∷ [])) (rw who.names_it refl) in
    later_unclosed w all (earlier ++ t ∷ []) later os before exclusive u ss

pub closed_once : (w : WireHandle) (all earlier later : List Slot) (os : List Outcome) → all ≡ earlier ++ later → Unrepeated all earlier later → suit later os ≡ true → any_closes w later os ≡ true → closed_slots w later os ≡ 1
closed_once w all earlier [] os q u s c = absurd (cc)
closed_once w all earlier (t ∷ later) [] q u s c = absurd (cc)
closed_once w all earlier (t ∷ later) (o ∷ os) q u s c =
    let one = and_left (suits t o) (suit later os) s in
    let rest = and_right (suits t o) (suit later os) s in
    elim (cases_Bool (closes w t o)) [
      | inl e ↦ rw (e, first_closer w all earlier later os t o q u.1 one rest e) refl
      | inr e ↦ rw (e, closed_once w all (earlier ++ t ∷ []) later os (q ∙ sym (append_assoc earlier (t ∷ []) later)) u.1 rest (rw e at c)) refl
    ]

-- ISSUED AT ONE SLOT

-- serials that go on differ
follow_above : (n h : ℕ) (ss : List Slot) → h ≤ n → follow n ss ≡ true → list_any (is_number h) (filter_map serial_of ss) ≡ false
follow_above n h [] low f = refl
follow_above n h (Opens t serial ∷ later) low f =
    let first : serial ≡ n + 1 = eqb-true serial (n + 1) (and_left (serial == n + 1) (follow (n + 1) later) f) in
    let above : h ≤ n + 1 = omega arith in
    let rest = follow_above (n + 1) h later above (and_right (serial == n + 1) (follow (n + 1) later) f) in
    let other : is_number h serial ≡ false = false_from_ne_true (is_number h serial) (λ q. let same = eqb-true serial h q in absurd (omega arith)) in
    rw (other, rest) refl
follow_above n h (_ ∷ later) low f = follow_above n h later low f

follow_differ : (n : ℕ) (ss : List Slot) → follow n ss ≡ true → differ (filter_map serial_of ss) ≡ true
follow_differ n [] f = refl
follow_differ n (Opens t serial ∷ later) f =
    let first : serial ≡ n + 1 = eqb-true serial (n + 1) (and_left (serial == n + 1) (follow (n + 1) later) f) in
    let on = and_right (serial == n + 1) (follow (n + 1) later) f in
    let low : serial ≤ n + 1 = omega arith in
    rw (follow_above (n + 1) serial later low on, follow_differ (n + 1) later on) refl
follow_differ n (_ ∷ later) f = follow_differ n later f

differ_front : (xs ys : List ℕ) → differ (xs ++ ys) ≡ true → differ xs ≡ true
differ_front [] ys d = refl
differ_front (x ∷ xs) ys d =
    let rest = differ_front xs ys (and_right (not (list_any (is_number x) (xs ++ ys))) (differ (xs ++ ys)) d) in
    let off = not-true (list_any (is_number x) (xs ++ ys)) (and_left (not (list_any (is_number x) (xs ++ ys))) (differ (xs ++ ys)) d) in
    let here = (or_parts (list_any (is_number x) xs) (list_any (is_number x) ys) (sym (list_any-append (is_number x) xs ys) ∙ off)).0 in
    rw (here, rest) refl

differ_rest : (xs ys : List ℕ) → differ (xs ++ ys) ≡ true → differ ys ≡ true
differ_rest [] ys d = d
differ_rest (x ∷ xs) ys d = differ_rest xs ys (and_right (not (list_any (is_number x) (xs ++ ys))) (differ (xs ++ ys)) d)

call_differ : (cs : List BaseCall) (k : ℕ) → differ (opening cs) ≡ true → differ (filter_map serial_of (slots_in (option_map (λ (c : BaseCall). c.asked) (find (is_call k) cs)))) ≡ true
call_differ [] k d = refl
call_differ (c ∷ cs) k d =
    elim (cases_Bool (is_call k c)) [
      | inl e ↦ rw e (differ_front (filter_map serial_of c.asked.slots) (opening cs) d)
      | inr e ↦ rw e (call_differ cs k (differ_rest (filter_map serial_of c.asked.slots) (opening cs) d))
    ]

slots_differ : (home : Home) (base : Base) (past : List Entry) (k : ℕ) → Legal (since home base past) → differ (filter_map serial_of (slots (since home base past) k)) ≡ true
slots_differ home base [] k l = call_differ base.calls k l.openings_differ
slots_differ home base (Accept m a ∷ past) k l =
    elim (eqb_tells m k) [
      | inl e ↦ rw e.0 (follow_differ (opened (since home base past)) a.slots l.0.fits.3)
      | inr e ↦ rw e.0 (slots_differ home base past k l.1)
    ]
slots_differ home base (_ ∷ past) k l = slots_differ home base past k l.1

-- the serials that a call's slots may issue differ
pub serials_differ : (j : History) (k : ℕ) → Legal j → differ (filter_map serial_of (slots j k)) ≡ true
serials_differ j k l = slots_differ j.home j.base j.past k l

-- what follows the first that issues a handle issues another
rest_issues : (h : ℕ) (ss : List Slot) (os : List Outcome) → list_any (is_number h) (filter_map serial_of ss) ≡ false → suit ss os ≡ true → list_any (issues h) os ≡ false
rest_issues h ss os off s =
    false_from_ne_true (list_any (issues h) os) (λ i. let on = opens_listed h ss (suit_opens h ss os s i) in cc)

-- a slot that opens it, and those behind it
opener_alone : (h : ℕ) (t : Slot) (ss : List Slot) → opens_serial h t ≡ true → differ (filter_map serial_of (t ∷ ss)) ≡ true → list_any (is_number h) (filter_map serial_of ss) ≡ false
opener_alone h (Opens k serial) ss o d =
    let same : serial ≡ h = eqb-true serial h o in
    let off = not-true (list_any (is_number serial) (filter_map serial_of ss)) (and_left (not (list_any (is_number serial) (filter_map serial_of ss))) (differ (filter_map serial_of ss)) d) in
    subst (λ n. list_any (is_number n) (filter_map serial_of ss) ≡ false) same off
opener_alone h (Shares k w) ss o d = absurd (cc)
opener_alone h (Holds k w) ss o d = absurd (cc)
opener_alone h (Changes k w) ss o d = absurd (cc)

differ_on : (t : Slot) (ss : List Slot) → differ (filter_map serial_of (t ∷ ss)) ≡ true → differ (filter_map serial_of ss) ≡ true
differ_on (Opens k serial) ss d = and_right (not (list_any (is_number serial) (filter_map serial_of ss))) (differ (filter_map serial_of ss)) d
differ_on (Shares k w) ss d = d
differ_on (Holds k w) ss d = d
differ_on (Changes k w) ss d = d

pub issued_at_one : (h : ℕ) (ss : List Slot) (os : List Outcome) → differ (filter_map serial_of ss) ≡ true → suit ss os ≡ true → list_any (issues h) os ≡ true → length (filter (issues h) os) ≡ 1
issued_at_one h [] [] d s i = absurd (cc)
issued_at_one h [] (o ∷ os) d s i = absurd (cc)
issued_at_one h (t ∷ ss) [] d s i = absurd (cc)
issued_at_one h (t ∷ ss) (o ∷ os) d s i =
    let one = and_left (suits t o) (suit ss os) s in
    let rest = and_right (suits t o) (suit ss os) s in
    elim (cases_Bool (issues h o)) [
      | inl e ↦
          let alone = opener_alone h t ss (one_opens h t o one e) d in
          rw (e, ap (λ x. suc x) (none_passes (issues h) os (rest_issues h ss os alone rest))) refl
      | inr e ↦ rw e (issued_at_one h ss os (differ_on t ss d) rest (rw e at i))
    ]
