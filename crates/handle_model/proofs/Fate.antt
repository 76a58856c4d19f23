-- A handle is issued once, and then live, closed once or run down once.
use Rattle.std.proofs.Common.{◌≡◌, ◌≢◌, ℕ, ◌+◌, ◌≤◌, ◌<◌, zero, suc, Bool, true, false, ◌&&◌, ◌||◌, not, nat_lt, ◌==◌, Option, Some, None, List, [], ◌∷◌, length, if◌then◌else◌, is_some, map, refl, sym, ◌∙◌, ap, subst, arith, inl, inr}
use Rattle.std.specs.List.{list_any, filter}
use Rattle.std.proofs.lemmas.List.{map-append, length-append}
use Rattle.std.proofs.lemmas.List.Elements.{filter-append}
use Rattle.std.proofs.lemmas.Bool.Decides.{eqb_tells}
use Rattle.std.proofs.lemmas.Bool.{eq-eqb, ltb-true, ltb-false, cases_Bool, false_from_ne_true}
use Rattle.rpc_base.specs.declared.identifiers.WireHandle.{WireHandle}
use Rattle.handle_model.specs.declared.entry.Home.{Home}
use Rattle.handle_model.specs.declared.entry.Slot.{Slot}
use Rattle.handle_model.specs.declared.entry.Outcome.{Outcome}
use Rattle.handle_model.specs.declared.entry.Said.{Said}
use Rattle.handle_model.specs.declared.entry.DueItem.{DueItem}
use Rattle.handle_model.specs.declared.entry.Entry.{Entry}
use Rattle.handle_model.specs.declared.entry.Entry.TheVariants.{End, Shut}
use Rattle.handle_model.specs.declared.base.Base.{Base}
use Rattle.handle_model.specs.Bases.{has_item, serials_of}
use Rattle.handle_model.specs.Sound.{rise_above}
use Rattle.handle_model.specs.History.{History, since, with_entry}
use Rattle.handle_model.specs.Slots.{wire_of, kind_of, named, names}
use Rattle.handle_model.specs.Journal.{runs, slots, closes, any_closes, issues, is_issued, is_closed, is_live, is_item_of, runs_down, is_kind, kind, serial_named, is_usable_as, suits, suit, numbers, opened, due_item, due_items, Legal}
use Rattle.handle_model.proofs.Held.{and_left, and_right, or_cases}
use Rattle.handle_model.specs.Running.{AllUsable}
use Rattle.handle_model.proofs.BaseFacts.{above_least}
use Rattle.handle_model.specs.Fates.{issuings, closed_slots, closings, rundowns}
use Rattle.handle_model.proofs.Once.{none_passes}
use Rattle.handle_model.proofs.LiveNames.{names_one, serial_named_is, issued_within, issued_once, item_listed, named_live}
use Rattle.handle_model.proofs.OneSlot.{changer, closed_none, closed_once, running_unrepeated, serials_differ, issued_at_one}

-- WHAT A RUNNING CALL CLOSES IS LIVE

pub usable_live : (j : History) (s : Slot) (h : ℕ) (o : Option ℕ) → serial_named j s ≡ o → is_usable_as j (kind_of s) o ≡ true → names (wire_of j.home h) s ≡ true → is_live j h ≡ true
usable_live j s h None e u n = absurd (cc)
usable_live j s h (Some g) e u n =
    let same = names_one j.home h g s n (serial_named_is j.home j.base j.past s g e) in
    subst (λ (x : ℕ). is_live j x ≡ true) (sym same) (and_left (is_live j g) (is_kind (kind j g) (kind_of s)) u)

pub closer_live : (j : History) (h : ℕ) (ss : List Slot) (os : List Outcome) → AllUsable j ss → suit ss os ≡ true → any_closes (wire_of j.home h) ss os ≡ true → is_live j h ≡ true
closer_live j h [] os u s c = absurd (cc)
closer_live j h (t ∷ ss) [] u s c = absurd (cc)
closer_live j h (t ∷ ss) (o ∷ os) u s c =
    elim (or_cases (closes (wire_of j.home h) t o) (any_closes (wire_of j.home h) ss os) c) [
      | inl e ↦
          let who = changer (wire_of j.home h) t o (and_left (suits t o) (suit ss os) s) e in
          let some : is_some (named t) ≡ true = rw who.name refl in
          usable_live j t h (serial_named j t) refl (u.0 some) who.names_it
      | inr r ↦ closer_live j h ss os u.1 (and_right (suits t o) (suit ss os) s) r
    ]

-- COUNTS AND TESTS

closed_some : (w : WireHandle) (ss : List Slot) (os : List Outcome) → any_closes w ss os ≡ true → 0 < closed_slots w ss os
closed_some w [] os c = absurd (cc)
closed_some w (s ∷ ss) [] c = absurd (cc)
closed_some w (s ∷ ss) (o ∷ os) c =
    elim (cases_Bool (closes w s o)) [
      | inl e ↦ rw e (omega arith)
      | inr e ↦ let more = closed_some w ss os (rw e at c) in rw e (omega arith)
    ]

-- a handle that no End closed is not closed
unclosed_since : (home : Home) (base : Base) (past : List Entry) (h : ℕ) → closings (since home base past) h ≡ 0 → is_closed (since home base past) h ≡ false
unclosed_since home base [] h n = refl
unclosed_since home base (End k results said ∷ past) h n =
    let j : History = since home base past in
    elim (cases_Bool (any_closes (wire_of home h) (slots j k) results)) [
      | inl e ↦ let some = closed_some (wire_of home h) (slots j k) results e in absurd (omega arith)
      | inr e ↦ let rest : closings j h ≡ 0 = omega arith in rw (e, unclosed_since home base past h rest) refl
    ]
unclosed_since home base (_ ∷ past) h n = unclosed_since home base past h n

pub unclosed : (j : History) (h : ℕ) → closings j h ≡ 0 → is_closed j h ≡ false
unclosed j h n = unclosed_since j.home j.base j.past h n

-- and one that stands in no Shut is not run down
passes_some : {X : Type 0} (p : X → Bool) (xs : List X) → list_any p xs ≡ true → 0 < length (filter p xs)
passes_some p [] c = absurd (cc)
passes_some p (x ∷ xs) c =
    elim (cases_Bool (p x)) [
      | inl e ↦ rw e (omega arith)
      | inr e ↦ rw e (passes_some p xs (rw e at c))
    ]

pub kept_up : (past : List Entry) (h : ℕ) → rundowns past h ≡ 0 → list_any (runs_down h) past ≡ false
kept_up [] h n = refl
kept_up (Shut items ∷ past) h n =
    elim (cases_Bool (list_any (is_item_of h) items)) [
      | inl e ↦ let some = passes_some (is_item_of h) items e in absurd (omega arith)
      | inr e ↦ let rest : rundowns past h ≡ 0 = omega arith in rw (e, kept_up past h rest) refl
    ]
kept_up (_ ∷ past) h n = kept_up past h n

-- THE LIST OF A SHUT

-- how often h stands in the list of those of the first n that pass
abbrev pub listed : History → (ℕ → Bool) → ℕ → ℕ → ℕ
listed j p h n = length (filter (is_item_of h) (map (due_item j) (filter p (numbers n))))

abbrev pub last_listed : (ℕ → Bool) → ℕ → ℕ → ℕ
last_listed p h m = if p m then (if m == h then 1 else 0) else 0

one_listed : (j : History) (p : ℕ → Bool) (h m : ℕ) → length (filter (is_item_of h) (map (due_item j) (filter p (m ∷ [])))) ≡ last_listed p h m
one_listed j p h m =
    elim (cases_Bool (p m)) [
      | inl e ↦ elim (cases_Bool (m == h)) [ inl f ↦ rw (e, f) refl | inr f ↦ rw (e, f) refl ]
      | inr e ↦ rw e refl
    ]

listed_more : (j : History) (p : ℕ → Bool) (h n : ℕ) → listed j p h (suc n) ≡ listed j p h n + last_listed p h (suc n)
listed_more j p h n =
    rw (filter-append p (numbers n) (suc n ∷ []), map-append (due_item j) (filter p (numbers n)) (filter p (suc n ∷ [])), filter-append (is_item_of h) (map (due_item j) (filter p (numbers n))) (map (due_item j) (filter p (suc n ∷ []))), length-append (filter (is_item_of h) (map (due_item j) (filter p (numbers n)))) (filter (is_item_of h) (map (due_item j) (filter p (suc n ∷ [])))))
    (ap (λ x. listed j p h n + x) (one_listed j p h (suc n)))

last_off : (p : ℕ → Bool) (h m : ℕ) → p h ≡ false → last_listed p h m ≡ 0
last_off p h m off =
    elim (eqb_tells m h) [
      | inl e ↦ let same : p m ≡ false = ap p e.1 ∙ off in rw same refl
      | inr e ↦ elim (cases_Bool (p m)) [ inl f ↦ rw (f, e.0) refl | inr f ↦ rw f refl ]
    ]

-- one that does not pass stands there not at all
listed_off : (j : History) (p : ℕ → Bool) (h n : ℕ) → p h ≡ false → listed j p h n ≡ 0
listed_off j p h zero off = refl
listed_off j p h (suc n) off =
    let more = listed_more j p h n in
    let none = last_off p h (suc n) off in
    let rest = listed_off j p h n off in omega arith

last_other : (p : ℕ → Bool) (h m : ℕ) → m ≢ h → last_listed p h m ≡ 0
last_other p h m d =
    elim (eqb_tells m h) [
      | inl e ↦ absurd (d e.1)
      | inr e ↦ elim (cases_Bool (p m)) [ inl f ↦ rw (f, e.0) refl | inr f ↦ rw f refl ]
    ]

below_next : (h n : ℕ) → h ≤ suc n → suc n ≢ h → h ≤ n
below_next h n high d =
    elim (cases_Bool (nat_lt n h)) [
      | inl e ↦ let above = ltb-true n h e in let same : suc n ≡ h = omega arith in absurd (d same)
      | inr e ↦ ltb-false n h e
    ]

last_here : (p : ℕ → Bool) (h : ℕ) → p h ≡ true → last_listed p h h ≡ 1
last_here p h on = rw (on, eq-eqb h h refl) refl

listed_below : (j : History) (p : ℕ → Bool) (h n : ℕ) → n < h → listed j p h n ≡ 0
listed_below j p h zero low = refl
listed_below j p h (suc n) low =
    let more = listed_more j p h n in
    let none = last_other p h (suc n) (λ e. absurd (omega arith)) in
    let below : n < h = omega arith in
    let rest = listed_below j p h n below in omega arith

-- and one that passes once
listed_once : (j : History) (p : ℕ → Bool) (h n : ℕ) → p h ≡ true → 0 < h → h ≤ n → listed j p h n ≡ 1
listed_once j p h zero on low high = absurd (omega arith)
listed_once j p h (suc n) on low high =
    let more = listed_more j p h n in
    elim (eqb_tells (suc n) h) [
      | inl e ↦
          let last : last_listed p h (suc n) ≡ 1 = subst (λ (x : ℕ). last_listed p h x ≡ 1) (sym e.1) (last_here p h on) in
          let same = e.1 in
          let below : n < h = omega arith in
          let rest = listed_below j p h n below in omega arith
      | inr e ↦
          let other = last_other p h (suc n) e.1 in
          let d = e.1 in
          let within : h ≤ n = below_next h n high e.1 in
          let rest = listed_once j p h n on low within in omega arith
    ]

-- FATES

-- what has become of a handle, by whether it was issued
abbrev pub FateAs : History → ℕ → Bool → Type 0
FateAs j h true = (issuings j h ≡ 1) × (closings j h + rundowns j.past h + (if is_live j h then 1 else 0) ≡ 1)
FateAs j h false = (issuings j h ≡ 0) × (closings j h ≡ 0) × (rundowns j.past h ≡ 0)

and_off : (a : Bool) → (a && false) ≡ false
and_off true = refl
and_off false = refl

none_more : (a c r v : ℕ) → a ≡ 0 → c + r + v ≡ 1 → a + c + r + v ≡ 1
none_more a c r v e f = omega arith

none_down : (c a r v : ℕ) → a ≡ 0 → c + r + v ≡ 1 → c + (a + r) + v ≡ 1
none_down c a r v e f = omega arith

-- the end of a call
ended : (j : History) (m : ℕ) (results : List Outcome) (said : Said) (h : ℕ) → Legal j → runs j m ≡ true → suit (slots j m) results ≡ true → (i b : Bool) → list_any (issues h) results ≡ i → is_issued j h ≡ b → FateAs j h b → FateAs (with_entry j (End m results said)) h (i || b)
ended j m results said h l r u true true is be f = let again = issued_once j m h results l r u is in absurd (cc)
ended j m results said h l r u true false is be f =
    let w = wire_of j.home h in
    let dead : is_live j h ≡ false = rw be refl in
    let here : any_closes w (slots j m) results ≡ false =
    false_from_ne_true (any_closes w (slots j m) results) (λ c. let v = closer_live j h (slots j m) results (named_live j m l r) u c in cc) in
    let none = closed_none w (slots j m) results here in
    let one = issued_at_one h (slots j m) results (serials_differ j m l) u is in
    let lives : is_live (with_entry j (End m results said)) h ≡ true = rw (is, here, unclosed j h f.1, kept_up j.past h f.2) refl in
    let first = f.0 in
    let second = f.1 in
    let third = f.2 in
    (omega arith, rw lives (omega arith))
ended j m results said h l r u false true is be f =
    let w = wire_of j.home h in
    let new = none_passes (issues h) results is in
    let before = f.0 in
    elim (cases_Bool (any_closes w (slots j m) results)) [
      | inl c ↦
          let live_before = closer_live j h (slots j m) results (named_live j m l r) u c in
          let calm : closings j h + rundowns j.past h + 1 ≡ 1 = rw live_before at f.1 in
          let one = closed_once w (slots j m) [] (slots j m) results refl (running_unrepeated j m l r) u c in
          let gone : is_live (with_entry j (End m results said)) h ≡ false = rw (is, be, c) refl in
          (omega arith, rw gone (omega arith))
      | inr c ↦
          let none = closed_none w (slots j m) results c in
          let same : is_live (with_entry j (End m results said)) h ≡ is_live j h = rw (is, c) refl in
          (omega arith, rw same (none_more (closed_slots w (slots j m) results) (closings j h) (rundowns j.past h) (if is_live j h then 1 else 0) none f.1))
    ]
ended j m results said h l r u false false is be f =
    let w = wire_of j.home h in
    let dead : is_live j h ≡ false = rw be refl in
    let here : any_closes w (slots j m) results ≡ false =
    false_from_ne_true (any_closes w (slots j m) results) (λ c. let v = closer_live j h (slots j m) results (named_live j m l r) u c in cc) in
    let none = closed_none w (slots j m) results here in
    let new = none_passes (issues h) results is in
    let first = f.0 in
    let second = f.1 in
    (omega arith, omega arith, f.2)

there : (h : ℕ) (items : List DueItem) → length (filter (is_item_of h) items) ≡ 1 → list_any (is_item_of h) items ≡ true
there h items one =
    elim (cases_Bool (list_any (is_item_of h) items)) [
      | inl e ↦ e
      | inr e ↦ let none = none_passes (is_item_of h) items e in absurd (omega arith)
    ]

not_there : (h : ℕ) (items : List DueItem) → length (filter (is_item_of h) items) ≡ 0 → list_any (is_item_of h) items ≡ false
not_there h items none =
    elim (cases_Bool (list_any (is_item_of h) items)) [
      | inl e ↦ let some = passes_some (is_item_of h) items e in absurd (omega arith)
      | inr e ↦ e
    ]

-- the Shut
shut : (j : History) (items : List DueItem) (h : ℕ) → Legal j → items ≡ due_items j → (b : Bool) → is_issued j h ≡ b → FateAs j h b → FateAs (with_entry j (Shut items)) h b
shut j items h l e true be f =
    let range = issued_within j h l be in
    elim (cases_Bool (is_live j h)) [
      | inl v ↦
          let one : length (filter (is_item_of h) items) ≡ 1 =
          ap (λ xs. length (filter (is_item_of h) xs)) e ∙ listed_once j (is_live j) h (opened j) v range.0 range.1 in
          let calm : closings j h + rundowns j.past h + 1 ≡ 1 = rw v at f.1 in
          let gone : is_live (with_entry j (Shut items)) h ≡ false = rw (there h items one) (and_off (is_issued j h && not (is_closed j h))) in
          (f.0, rw gone (omega arith))
      | inr v ↦
          let none : length (filter (is_item_of h) items) ≡ 0 =
          ap (λ xs. length (filter (is_item_of h) xs)) e ∙ listed_off j (is_live j) h (opened j) v in
          let same : is_live (with_entry j (Shut items)) h ≡ is_live j h = rw (not_there h items none) refl in
          (f.0, rw same (none_down (closings j h) (length (filter (is_item_of h) items)) (rundowns j.past h) (if is_live j h then 1 else 0) none f.1))
    ]
shut j items h l e false be f =
    let off : is_live j h ≡ false = rw be refl in
    let none : length (filter (is_item_of h) items) ≡ 0 =
    ap (λ xs. length (filter (is_item_of h) xs)) e ∙ listed_off j (is_live j) h (opened j) off in
    let third = f.2 in
    (f.0, f.1, omega arith)

-- the base's handles: each stands there once
above_off : (n : ℕ) (items : List DueItem) (h : ℕ) → rise_above n (serials_of items) ≡ true → h ≤ n → list_any (is_item_of h) items ≡ false
above_off n items h r low =
    false_from_ne_true (list_any (is_item_of h) items) (λ i. let high = above_least n h (serials_of items) r (item_listed items h i) in absurd (omega arith))

item_once : (n : ℕ) (items : List DueItem) (h : ℕ) → rise_above n (serials_of items) ≡ true → list_any (is_item_of h) items ≡ true → length (filter (is_item_of h) items) ≡ 1
item_once n [] h r i = absurd (cc)
item_once n (x ∷ items) h r i =
    let later = and_right (nat_lt n x.serial) (rise_above x.serial (serials_of items)) r in
    elim (eqb_tells x.serial h) [
      | inl e ↦
          let same = e.1 in
          let low : h ≤ x.serial = omega arith in
          rw (e.0, ap (λ y. suc y) (none_passes (is_item_of h) items (above_off x.serial items h later low))) refl
      | inr e ↦ rw e.0 (item_once x.serial items h later (rw e.0 at i))
    ]

base_fate : (home : Home) (base : Base) (h : ℕ) → Legal (since home base []) → (b : Bool) → has_item base h ≡ b → FateAs (since home base []) h b
base_fate home base h l true e = (item_once 0 base.handles h l.serials_rise e, rw e refl)
base_fate home base h l false e = (none_passes (is_item_of h) base.handles e, refl, refl)

fate_since : (home : Home) (base : Base) (past : List Entry) (h : ℕ) → Legal (since home base past) → FateAs (since home base past) h (is_issued (since home base past) h)
fate_since home base [] h l = base_fate home base h l (has_item base h) refl
fate_since home base (End m results said ∷ past) h l =
    let j : History = since home base past in
    ended j m results said h l.1 l.0.fits.0 l.0.fits.1 (list_any (issues h) results) (is_issued j h) refl refl (fate_since home base past h l.1)
fate_since home base (Shut items ∷ past) h l =
    let j : History = since home base past in shut j items h l.1 l.0.fits.1 (is_issued j h) refl (fate_since home base past h l.1)
fate_since home base (_ ∷ past) h l = fate_since home base past h l.1

pub fate : (j : History) (h : ℕ) → Legal j → FateAs j h (is_issued j h)
fate j h l = fate_since j.home j.base j.past h l

-- THE LAW

pub one_fate : (j : History) (h : ℕ) → Legal j → is_issued j h ≡ true → (issuings j h ≡ 1) × (closings j h + rundowns j.past h + (if is_live j h then 1 else 0) ≡ 1)
one_fate j h l i = subst (λ (b : Bool). FateAs j h b) i (fate j h l)
