-- The rows of a base.
use Rattle.std.proofs.Common.{◌≡◌, ℕ, ◌+◌, ◌≤◌, ◌<◌, ◌^◌, Bool, true, false, ◌&&◌, ◌||◌, ◌==◌, nat_le, nat_lt, Some, List, [], ◌∷◌, length, map, refl, ◌∙◌, ap, arith, inl, inr}
use Rattle.std.specs.List.{list_any, list_all, filter_map, find}
use Rattle.std.specs.Option.{option_map}
use Rattle.std.proofs.lemmas.Grind.{common_steps}
use Rattle.std.proofs.lemmas.List.{reverse-reverse}
use Rattle.std.proofs.lemmas.Bool.{cases_Bool, false_from_ne_true, ltb-true, lt-ltb}
use Rattle.std.proofs.lemmas.Bool.Decides.{eqb_tells}
use Rattle.handle_model.specs.declared.entry.Home.{Home}
use Rattle.handle_model.specs.declared.base.BaseCall.{BaseCall}
use Rattle.handle_model.specs.declared.base.Base.{Base}
use Rattle.handle_model.specs.Bases.{is_number, is_call, is_taken_call, is_cancelled_call, is_orphaned_call, numbers_of}
use Rattle.handle_model.specs.Sound.{rise_above, rise, at_most, is_within, IsSoundBase}
use Rattle.handle_model.specs.History.{History, since}
use Rattle.handle_model.specs.Journal.{asked}
use Rattle.handle_model.proofs.Tests.{and_left, and_right}
use Rattle.handle_model.proofs.BaseFacts.{above_least, rise_later}
use Rattle.call_table.specs.Kept.{Rises, AllFew}
use Rattle.call_table.specs.Shown.{row_as, row_in, rows_of, base_row, base_rows}
use Rattle.call_table.proofs.Calls.{self}

-- a call is found by its number, and its marks are those of that number
pub record Stands (all : List BaseCall) (c : BaseCall) : Type 0 where
  pub found : find (is_call c.call) all ≡ Some c
  pub taken : list_any (is_taken_call c.call) all ≡ c.taken
  pub cancelled : list_any (is_cancelled_call c.call) all ≡ c.cancelled
  pub orphaned : list_any (is_orphaned_call c.call) all ≡ c.orphaned

abbrev pub AllStand : List BaseCall → List BaseCall → Type 0
AllStand all [] = Unit {0}
AllStand all (c ∷ cs) = Stands all c × AllStand all cs

marked_numbered : (p : BaseCall → Bool) (cs : List BaseCall) (k : ℕ) → list_any (λ (c : BaseCall). (c.call == k) && p c) cs ≡ true → list_any (is_number k) (numbers_of cs) ≡ true
marked_numbered p [] k h = absurd (cc)
marked_numbered p (d ∷ cs) k h = grind (arith, common_steps, marked_numbered p cs k)

unmarked : (p : BaseCall → Bool) (cs : List BaseCall) (k : ℕ) → rise_above k (numbers_of cs) ≡ true → list_any (λ (c : BaseCall). (c.call == k) && p c) cs ≡ false
unmarked p cs k r =
    false_from_ne_true (list_any (λ (c : BaseCall). (c.call == k) && p c) cs) (λ t. let low = above_least k k (numbers_of cs) r (marked_numbered p cs k t) in absurd (omega arith))

or_off : (b : Bool) → ((true && b) || false) ≡ b
or_off true = refl
or_off false = refl

stands_first : (c : BaseCall) (cs : List BaseCall) → rise_above c.call (numbers_of cs) ≡ true → Stands (c ∷ cs) c
stands_first c cs r =
    let q = self c.call in
    let t = unmarked (λ (d : BaseCall). d.taken) cs c.call r in
    let u = unmarked (λ (d : BaseCall). d.cancelled) cs c.call r in
    let v = unmarked (λ (d : BaseCall). d.orphaned) cs c.call r in
    record { found = rw q refl; taken = rw (q, t) (or_off c.taken); cancelled = rw (q, u) (or_off c.cancelled); orphaned = rw (q, v) (or_off c.orphaned) }

stands_more : (d : BaseCall) (all : List BaseCall) (c : BaseCall) → (d.call == c.call) ≡ false → Stands all c → Stands (d ∷ all) c
stands_more d all c e s = record { found = rw e s.found; taken = rw e s.taken; cancelled = rw e s.cancelled; orphaned = rw e s.orphaned }

rise_lower : (n m : ℕ) (ns : List ℕ) → n < m → rise_above m ns ≡ true → rise_above n ns ≡ true
rise_lower n m [] lt r = refl
rise_lower n m (x ∷ ns) lt r =
    let up = ltb-true m x (and_left (nat_lt m x) (rise_above x ns) r) in
    let here = lt-ltb n x (omega arith) in rw here (and_right (nat_lt m x) (rise_above x ns) r)

all_more : (d : BaseCall) (all cs : List BaseCall) → rise_above d.call (numbers_of cs) ≡ true → AllStand all cs → AllStand (d ∷ all) cs
all_more d all [] r s = tt
all_more d all (c ∷ cs) r s =
    let up = ltb-true d.call c.call (and_left (nat_lt d.call c.call) (rise_above c.call (numbers_of cs)) r) in
    let other : (d.call == c.call) ≡ false = elim (eqb_tells d.call c.call) [ inl e ↦ let same = e.1 in absurd (omega arith) | inr e ↦ e.0 ] in
    (stands_more d all c other s.0, all_more d all cs (rise_lower d.call c.call (numbers_of cs) up (and_right (nat_lt d.call c.call) (rise_above c.call (numbers_of cs)) r)) s.1)

pub all_stand : (cs : List BaseCall) → rise (numbers_of cs) ≡ true → AllStand cs cs
all_stand [] r = tt
all_stand (c ∷ cs) r = (stands_first c cs r, all_more c cs cs r (all_stand cs (rise_later c.call (numbers_of cs) r)))

one_row : (home : Home) (base : Base) (c : BaseCall) → Stands base.calls c → row_in (since home base []) c.call ≡ Some (base_row base.count c)
one_row home base c s =
    let j : History = since home base [] in
    let e : asked j c.call ≡ Some c.asked = ap (option_map (λ (x : BaseCall). x.asked)) s.found in
    ap (row_as j c.call) e ∙ elim (cases_Bool c.taken) [
      | inl t ↦ rw (e, s.taken, s.cancelled, s.orphaned, t) refl
      | inr t ↦ rw (e, s.taken, s.cancelled, s.orphaned, t) refl
    ]

all_rows : (home : Home) (base : Base) (cs : List BaseCall) → AllStand base.calls cs → filter_map (row_in (since home base [])) (numbers_of cs) ≡ map (base_row base.count) cs
all_rows home base [] s = refl
all_rows home base (c ∷ cs) s = rw (one_row home base c s.0, all_rows home base cs s.1) refl

-- the rows of a base are those of its calls
pub base_shown : (home : Home) (base : Base) → IsSoundBase home base → rows_of (since home base []) ≡ base_rows base
base_shown home base s =
    ap (filter_map (row_in (since home base []))) (reverse-reverse (numbers_of base.calls)) ∙ all_rows home base base.calls (all_stand base.calls s.calls_rise)

-- ORDER

rows_rise : (place n top : ℕ) (cs : List BaseCall) → rise_above n (numbers_of cs) ≡ true → at_most top (numbers_of cs) ≡ true → top < 2 ^ 32 → Rises (n + 1) (map (base_row place) cs)
rows_rise place n top [] r a small = tt
rows_rise place n top (c ∷ cs) r a small =
    let up = ltb-true n c.call (and_left (nat_lt n c.call) (rise_above c.call (numbers_of cs)) r) in
    let high : c.call ≤ top = (let h = and_left (nat_le c.call top) (at_most top (numbers_of cs)) a in grind (arith, common_steps)) in
    (omega arith, omega arith, rows_rise place c.call top cs (and_right (nat_lt n c.call) (rise_above c.call (numbers_of cs)) r) (and_right (nat_le c.call top) (at_most top (numbers_of cs)) a) small)

pub calls_rise : (place top : ℕ) (cs : List BaseCall) → rise (numbers_of cs) ≡ true → at_most top (numbers_of cs) ≡ true → top < 2 ^ 32 → Rises 0 (map (base_row place) cs)
calls_rise place top [] r a small = tt
calls_rise place top (c ∷ cs) r a small =
    let high : c.call ≤ top = (let h = and_left (nat_le c.call top) (at_most top (numbers_of cs)) a in grind (arith, common_steps)) in
    (omega arith, omega arith, rows_rise place c.call top cs r (and_right (nat_le c.call top) (at_most top (numbers_of cs)) a) small)

pub base_rises : (home : Home) (base : Base) → IsSoundBase home base → Rises 0 (base_rows base)
base_rises home base s = calls_rise base.count base.accepts base.calls s.calls_rise s.calls_within s.accepts_small

pub calls_few : (base : Base) (place : ℕ) (cs : List BaseCall) → list_all (is_within base) cs ≡ true → AllFew (map (base_row place) cs)
calls_few base place [] a = tt
calls_few base place (c ∷ cs) a =
    let w = and_left (is_within base c) (list_all (is_within base) cs) a in
    let few : length c.asked.slots ≤ 4 = (let h = and_left (nat_le (length c.asked.slots) 4) (nat_le c.asked.conn base.joins) w in grind (arith, common_steps)) in
    (few, calls_few base place cs (and_right (is_within base c) (list_all (is_within base) cs) a))
