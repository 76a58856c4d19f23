-- The live handles of a journal as a table shows them.
use Rattle.std.proofs.Common.{◌≡◌, ◌≢◌, ℕ, zero, suc, ◌+◌, ◌^◌, ◌≤◌, ◌<◌, Bool, true, false, not, ◌==◌, ◌&&◌, ◌||◌, if◌then◌else◌, Option, Some, None, is_some, unwrap_or, List, [], ◌∷◌, ◌++◌, map, refl, sym, ◌∙◌, ap, subst, arith, inl, inr, add-one}
use Rattle.std.specs.List.{filter, list_any}
use Rattle.std.specs.Option.{option_or}
use Rattle.std.proofs.lemmas.List.{map-append}
use Rattle.std.proofs.lemmas.List.Elements.{filter-append}
use Rattle.std.proofs.lemmas.List.Folds.{find-append}
use Rattle.std.proofs.lemmas.Bool.{cases_lt, eqb-true, eq-eqb, cases_Bool, false_from_ne_true, or_parts}
use Rattle.std.proofs.lemmas.Bool.Decides.{eqb_tells}
use Rattle.handle_model.specs.declared.entry.Home.{Home}
use Rattle.handle_model.specs.declared.entry.Slot.{Slot}
use Rattle.handle_model.specs.declared.entry.Slot.TheVariants.{Shares, Holds, Changes, Opens}
use Rattle.handle_model.specs.declared.entry.Outcome.{Outcome}
use Rattle.handle_model.specs.declared.entry.Outcome.TheVariants.{Keep, Close, Issue, Nothing}
use Rattle.handle_model.specs.declared.entry.Said.{Said}
use Rattle.handle_model.specs.declared.entry.DueItem.{DueItem}
use Rattle.handle_model.specs.declared.entry.Entry.{Entry}
use Rattle.handle_model.specs.declared.entry.Entry.TheVariants.{End}
use Rattle.handle_model.specs.Slots.{wire_of, kind_of, named, names}
use Rattle.handle_model.specs.History.{History, with_entry}
use Rattle.handle_model.specs.Journal.{Legal, is_item_of, is_live, is_issued, is_closed, kind, cookie, issuer_kind, first_given, issues, any_closes, runs_down, suit, suits, slots, runs, numbers, opened, due_item, due_items}
use Rattle.handle_model.proofs.Held.{and_left, and_right, or_right, opened_small}
use Rattle.handle_model.specs.Running.{AllUsable}
use Rattle.handle_model.proofs.LiveNames.{issued_within, opens_within, issued_once, named_live, no_kind, suit_opens}
use Rattle.handle_model.proofs.Fate.{usable_live, unclosed, kept_up, fate, FateAs}
use Rattle.handle_table.specs.Handles.{item_at}
use Rattle.handle_table.specs.Kept.{Rises}
use Rattle.handle_table.specs.Uses.{item_named}
use Rattle.handle_table.specs.Ended.{kept, closed, after_outcome, ended}
use Rattle.handle_table.proofs.Items.{effects, ended_item, same_items}
use Rattle.handle_table.proofs.Edits.{rises_with, rises_without, rises_cookie}

-- THE LIST OF THE LIVE HANDLES

-- those of the first n that pass
abbrev pub listed : History → (ℕ → Bool) → ℕ → List DueItem
listed j p n = map (due_item j) (filter p (numbers n))

abbrev pub last_of : History → (ℕ → Bool) → ℕ → List DueItem
last_of j p m = if p m then due_item j m ∷ [] else []

one_last : (j : History) (p : ℕ → Bool) (m : ℕ) → map (due_item j) (filter p (m ∷ [])) ≡ last_of j p m
one_last j p m = elim (cases_Bool (p m)) [ inl e ↦ rw e refl | inr e ↦ rw e refl ]

listed_more : (j : History) (p : ℕ → Bool) (n : ℕ) → listed j p (suc n) ≡ listed j p n ++ last_of j p (suc n)
listed_more j p n =
    rw (filter-append p (numbers n) (suc n ∷ []), map-append (due_item j) (filter p (numbers n)) (filter p (suc n ∷ []))) (ap (λ xs. listed j p n ++ xs) (one_last j p (suc n)))

last_off : (j : History) (p : ℕ → Bool) (h m : ℕ) → p h ≡ false → item_at (last_of j p m) h ≡ None
last_off j p h m off =
    elim (cases_Bool (p m)) [
      | inl e ↦ elim (eqb_tells m h) [
        | inl f ↦ let same : p m ≡ p h = ap p f.1 in absurd (cc)
        | inr f ↦ rw (e, f.0) refl
      ]
      | inr e ↦ rw e refl
    ]

last_other : (j : History) (p : ℕ → Bool) (h m : ℕ) → m ≢ h → item_at (last_of j p m) h ≡ None
last_other j p h m d =
    elim (cases_Bool (p m)) [
      | inl e ↦ elim (eqb_tells m h) [ inl f ↦ absurd (d f.1) | inr f ↦ rw (e, f.0) refl ]
      | inr e ↦ rw e refl
    ]

at_off : (j : History) (p : ℕ → Bool) (h n : ℕ) → p h ≡ false → item_at (listed j p n) h ≡ None
at_off j p h zero off = refl
at_off j p h (suc n) off =
    ap (λ xs. item_at xs h) (listed_more j p n) ∙ (find-append (is_item_of h) (listed j p n) (last_of j p (suc n)) ∙ rw (at_off j p h n off) (last_off j p h (suc n) off))

at_beyond : (j : History) (p : ℕ → Bool) (h n : ℕ) → n < h → item_at (listed j p n) h ≡ None
at_beyond j p h zero lt = refl
at_beyond j p h (suc n) lt =
    let below : n < h = omega arith in
    ap (λ xs. item_at xs h) (listed_more j p n) ∙ (find-append (is_item_of h) (listed j p n) (last_of j p (suc n)) ∙ rw (at_beyond j p h n below) (last_other j p h (suc n) (λ e. absurd (omega arith))))

at_last : (j : History) (p : ℕ → Bool) (h m : ℕ) → p h ≡ true → m ≡ h → item_at (last_of j p m) h ≡ Some (due_item j h)
at_last j p h m on e =
    let there : p m ≡ true = ap p e ∙ on in
    let q = eq-eqb m h e in rw (there, q) (ap (λ n. Some (due_item j n)) e)

at_on : (j : History) (p : ℕ → Bool) (h n : ℕ) → p h ≡ true → 0 < h → h ≤ n → item_at (listed j p n) h ≡ Some (due_item j h)
at_on j p h zero on low high = absurd (omega arith)
at_on j p h (suc n) on low high =
    ap (λ xs. item_at xs h) (listed_more j p n) ∙ (find-append (is_item_of h) (listed j p n) (last_of j p (suc n)) ∙ elim (eqb_tells (suc n) h) [
      | inl e ↦
          let same = e.1 in
          let below : n < h = omega arith in
          rw (at_beyond j p h n below) (at_last j p h (suc n) on e.1)
      | inr e ↦
          let d = e.1 in
          let within : h ≤ n = elim (cases_lt n h) [ inl lt ↦ let same : suc n ≡ h = omega arith in absurd (d same) | inr le ↦ le ] in
          rw (at_on j p h n on low within) refl
    ])

-- what stands in the list of the live handles
abbrev pub live_item : History → ℕ → Option DueItem
live_item j h = if is_live j h then Some (due_item j h) else None

pub live_issued : (j : History) (h : ℕ) → is_live j h ≡ true → is_issued j h ≡ true
live_issued j h v =
    let before = is_issued j h && not (is_closed j h) in
    and_left (is_issued j h) (not (is_closed j h)) (and_left before (not (list_any (runs_down h) j.past)) v)

pub due_item_at : (j : History) (h : ℕ) → Legal j → item_at (due_items j) h ≡ live_item j h
due_item_at j h l =
    elim (cases_Bool (is_live j h)) [
      | inl v ↦ let range = issued_within j h l (live_issued j h v) in at_on j (is_live j) h (opened j) v range.0 range.1 ∙ rw v refl
      | inr v ↦ at_off j (is_live j) h (opened j) v ∙ rw v refl
    ]

-- ORDER

-- the serials rise from one number and stay below another
abbrev pub RisesTo : ℕ → ℕ → List DueItem → Type 0
RisesTo low high [] = low ≤ high
RisesTo low high (i ∷ items) = (low ≤ i.serial) × RisesTo (i.serial + 1) high items

to_more : (low high more : ℕ) (items : List DueItem) → high ≤ more → RisesTo low high items → RisesTo low more items
to_more low high more [] le r = omega arith
to_more low high more (i ∷ items) le r = (r.0, to_more (i.serial + 1) high more items le r.1)

to_append : (low m : ℕ) (items : List DueItem) (x : DueItem) → x.serial ≡ m → RisesTo low m items → RisesTo low (m + 1) (items ++ x ∷ [])
to_append low m [] x e r = (omega arith, omega arith)
to_append low m (i ∷ items) x e r = (r.0, to_append (i.serial + 1) m items x e r.1)

to_within : (low high : ℕ) (items : List DueItem) → RisesTo low high items → low ≤ high
to_within low high [] r = r
to_within low high (i ∷ items) r = let more = to_within (i.serial + 1) high items r.1 in let first = r.0 in omega arith

to_rises : (low high : ℕ) (items : List DueItem) → high ≤ 2 ^ 32 → RisesTo low high items → Rises low items
to_rises low high [] le r = tt
to_rises low high (i ∷ items) le r = let more = to_within (i.serial + 1) high items r.1 in (r.0, omega arith, to_rises (i.serial + 1) high items le r.1)

append_none : (xs : List DueItem) → xs ++ [] ≡ xs
append_none [] = refl
append_none (x ∷ xs) = ap (λ ys. x ∷ ys) (append_none xs)

listed_rises : (j : History) (p : ℕ → Bool) (n : ℕ) → RisesTo 0 (n + 1) (listed j p n)
listed_rises j p zero = omega arith
listed_rises j p (suc n) =
    let before = listed_rises j p n in
    let next : n + 1 ≡ suc n = add-one n in
    subst (λ xs. RisesTo 0 (suc n + 1) xs) (sym (listed_more j p n)) (elim (cases_Bool (p (suc n))) [
      | inl e ↦ rw e (to_append 0 (suc n) (listed j p n) (due_item j (suc n)) refl (subst (λ m. RisesTo 0 m (listed j p n)) next before))
      | inr e ↦ rw (e, append_none (listed j p n)) (to_more 0 (n + 1) (suc n + 1) (listed j p n) (omega arith) before)
    ])

pub due_rises : (j : History) → Legal j → Rises 0 (due_items j)
due_rises j l =
    let small = opened_small j.home j.base j.past l in
    to_rises 0 (opened j + 1) (due_items j) (omega arith) (listed_rises j (is_live j) (opened j))

-- two journals with the same live handles have the same list
pub same_due : (j newer : History) → Legal j → Legal newer → ((h : ℕ) → live_item newer h ≡ live_item j h) → due_items newer ≡ due_items j
same_due j newer l m e =
    same_items 0 (due_items newer) (due_items j) (due_rises newer m) (due_rises j l) (λ h. due_item_at newer h m ∙ (e h ∙ sym (due_item_at j h l)))

-- THE END OF A CALL

-- what the results issue has 32 bits
abbrev pub IssuesSmall : List Outcome → Type 0
IssuesSmall os = (h : ℕ) → list_any (issues h) os ≡ true → h < 2 ^ 32

settled_rises : (home : Home) (s : Slot) (o : Outcome) (items : List DueItem) → ((h : ℕ) → issues h o ≡ true → h < 2 ^ 32) → Rises 0 items → Rises 0 (after_outcome home s o items)
settled_rises home s (Issue g c) items small r = rises_with (record { serial = g; kind = kind_of s; cookie = c }) 0 items r (omega arith) (small g (eq-eqb g g refl))
settled_rises home s (Keep c) items small r = kept_rises (item_named home items s)
  where
    kept_rises : (x : Option DueItem) → Rises 0 (kept c x items)
    kept_rises None = r
    kept_rises (Some i) = rises_cookie i.serial c 0 items r
settled_rises home s Close items small r = closed_rises (item_named home items s)
  where
    closed_rises : (x : Option DueItem) → Rises 0 (closed x items)
    closed_rises None = r
    closed_rises (Some i) = rises_without i.serial 0 items r
settled_rises home s Nothing items small r = r

pub ended_rises : (home : Home) (ss : List Slot) (os : List Outcome) (items : List DueItem) → IssuesSmall os → Rises 0 items → Rises 0 (ended home ss os items)
ended_rises home [] os items small r = r
ended_rises home (s ∷ ss) [] items small r = r
ended_rises home (s ∷ ss) (o ∷ os) items small r =
    settled_rises home s o (ended home ss os items) (λ h i. small h (rw i refl)) (ended_rises home ss os items (λ h i. small h (or_right (issues h o) (list_any (issues h) os) i)) r)

-- no slot names a handle that is not live
abbrev pub NoneNames : Home → ℕ → List Slot → Type 0
NoneNames home h [] = Unit {0}
NoneNames home h (s ∷ ss) = (names (wire_of home h) s ≡ false) × NoneNames home h ss

names_named : (home : Home) (h : ℕ) (s : Slot) → names (wire_of home h) s ≡ true → is_some (named s) ≡ true
names_named home h (Shares k w) n = refl
names_named home h (Holds k w) n = refl
names_named home h (Changes k w) n = refl
names_named home h (Opens k g) n = n

pub none_names : (j : History) (h : ℕ) (ss : List Slot) → AllUsable j ss → is_live j h ≡ false → NoneNames j.home h ss
none_names j h [] u v = tt
none_names j h (s ∷ ss) u v =
    (false_from_ne_true (names (wire_of j.home h) s) (λ n. let live = usable_live j s h _ refl (u.0 (names_named j.home h s n)) n in cc), none_names j h ss u.1 v)

-- a handle that the results issue, and no slot names
pub record Issued (home : Home) (h : ℕ) (ss : List Slot) (os : List Outcome) : Type 0 where
  pub kind : ℕ
  pub cookie : ℕ
  pub its_kind : issuer_kind h ss os ≡ Some kind
  pub its_cookie : first_given home h ss os ≡ Some cookie
  pub item : (x : Option DueItem) → effects home h ss os x ≡ Some (record { serial = h; kind = kind; cookie = cookie })

new_here : (home : Home) (h g c : ℕ) (s : Slot) (ss : List Slot) (os : List Outcome) → g ≡ h → Issued home h (s ∷ ss) (Issue g c ∷ os)
new_here home h g c s ss os e =
    let q = eq-eqb g h e in
    record {
      kind = kind_of s;
      cookie = c;
      its_kind = rw q refl;
      its_cookie = rw q refl;
      item = λ x. rw q (ap (λ n. Some (record { serial = n; kind = kind_of s; cookie = c })) e);
    }

new_later : (home : Home) (h : ℕ) (s : Slot) (o : Outcome) (ss : List Slot) (os : List Outcome) → issues h o ≡ false → names (wire_of home h) s ≡ false → Issued home h ss os → Issued home h (s ∷ ss) (o ∷ os)
new_later home h s (Issue g c) ss os i n w = record { kind = w.kind; cookie = w.cookie; its_kind = rw i w.its_kind; its_cookie = rw i w.its_cookie; item = λ x. rw i (w.item x) }
new_later home h s (Keep c) ss os i n w = record { kind = w.kind; cookie = w.cookie; its_kind = w.its_kind; its_cookie = rw n w.its_cookie; item = λ x. rw n (w.item x) }
new_later home h s Close ss os i n w = record { kind = w.kind; cookie = w.cookie; its_kind = w.its_kind; its_cookie = w.its_cookie; item = λ x. rw n (w.item x) }
new_later home h s Nothing ss os i n w = record { kind = w.kind; cookie = w.cookie; its_kind = w.its_kind; its_cookie = w.its_cookie; item = w.item }

new_first : (home : Home) (h : ℕ) (s : Slot) (o : Outcome) (ss : List Slot) (os : List Outcome) → issues h o ≡ true → Issued home h (s ∷ ss) (o ∷ os)
new_first home h s (Issue g c) ss os i = new_here home h g c s ss os (eqb-true g h i)
new_first home h s (Keep c) ss os i = absurd (cc)
new_first home h s Close ss os i = absurd (cc)
new_first home h s Nothing ss os i = absurd (cc)

pub new_issued : (home : Home) (h : ℕ) (ss : List Slot) (os : List Outcome) → NoneNames home h ss → suit ss os ≡ true → list_any (issues h) os ≡ true → Issued home h ss os
new_issued home h [] [] n u i = absurd (cc)
new_issued home h [] (o ∷ os) n u i = absurd (cc)
new_issued home h (s ∷ ss) [] n u i = absurd (cc)
new_issued home h (s ∷ ss) (o ∷ os) n u i =
    elim (cases_Bool (issues h o)) [
      | inl e ↦ new_first home h s o ss os e
      | inr e ↦ new_later home h s o ss os e n.0 (new_issued home h ss os n.1 (and_right (suits s o) (suit ss os) u) (rw e at i))
    ]

pub none_closes : (home : Home) (h : ℕ) (ss : List Slot) (os : List Outcome) → NoneNames home h ss → any_closes (wire_of home h) ss os ≡ false
none_closes home h [] os n = refl
none_closes home h (s ∷ ss) [] n = refl
none_closes home h (s ∷ ss) (Close ∷ os) n = rw n.0 (none_closes home h ss os n.1)
none_closes home h (s ∷ ss) (_ ∷ os) n = none_closes home h ss os n.1

-- a handle that is not there, and not issued
pub none_stays : (home : Home) (h : ℕ) (ss : List Slot) (os : List Outcome) → list_any (issues h) os ≡ false → effects home h ss os None ≡ None
none_stays home h [] os i = refl
none_stays home h (s ∷ ss) [] i = refl
none_stays home h (s ∷ ss) (Issue g c ∷ os) i = let w = or_parts (g == h) (list_any (issues h) os) i in rw (w.0, none_stays home h ss os w.1) refl
none_stays home h (s ∷ ss) (Keep c ∷ os) i = rw (none_stays home h ss os i) (elim (cases_Bool (names (wire_of home h) s)) [ inl e ↦ rw e refl | inr e ↦ rw e refl ])
none_stays home h (s ∷ ss) (Close ∷ os) i = rw (none_stays home h ss os i) (elim (cases_Bool (names (wire_of home h) s)) [ inl e ↦ rw e refl | inr e ↦ rw e refl ])
none_stays home h (s ∷ ss) (Nothing ∷ os) i = none_stays home h ss os i

-- one that is closed
pub closed_goes : (home : Home) (h : ℕ) (ss : List Slot) (os : List Outcome) (x : Option DueItem) → list_any (issues h) os ≡ false → any_closes (wire_of home h) ss os ≡ true → effects home h ss os x ≡ None
closed_goes home h [] os x i c = absurd (cc)
closed_goes home h (s ∷ ss) [] x i c = absurd (cc)
closed_goes home h (s ∷ ss) (Issue g d ∷ os) x i c = let w = or_parts (g == h) (list_any (issues h) os) i in rw (w.0, closed_goes home h ss os x w.1 c) refl
closed_goes home h (s ∷ ss) (Keep d ∷ os) x i c = rw (closed_goes home h ss os x i c) (elim (cases_Bool (names (wire_of home h) s)) [ inl e ↦ rw e refl | inr e ↦ rw e refl ])
closed_goes home h (s ∷ ss) (Close ∷ os) x i c =
    elim (cases_Bool (names (wire_of home h) s)) [
      | inl e ↦ rw e refl
      | inr e ↦ rw (e, closed_goes home h ss os x i (rw e at c)) refl
    ]
closed_goes home h (s ∷ ss) (Nothing ∷ os) x i c = closed_goes home h ss os x i c

-- one that stays has the cookie that is given, or its own
pub kept_item : (home : Home) (h : ℕ) (ss : List Slot) (os : List Outcome) (x : DueItem) → list_any (issues h) os ≡ false → any_closes (wire_of home h) ss os ≡ false → effects home h ss os (Some x) ≡ Some (record { serial = x.serial; kind = x.kind; cookie = unwrap_or (first_given home h ss os) x.cookie })
kept_item home h [] os x i c = refl
kept_item home h (s ∷ ss) [] x i c = refl
kept_item home h (s ∷ ss) (Issue g d ∷ os) x i c = let w = or_parts (g == h) (list_any (issues h) os) i in rw (w.0, kept_item home h ss os x w.1 c) refl
kept_item home h (s ∷ ss) (Keep d ∷ os) x i c =
    elim (cases_Bool (names (wire_of home h) s)) [
      | inl e ↦ rw (e, kept_item home h ss os x i c) refl
      | inr e ↦ rw (e, kept_item home h ss os x i c) refl
    ]
kept_item home h (s ∷ ss) (Close ∷ os) x i c = let w = or_parts (names (wire_of home h) s) (any_closes (wire_of home h) ss os) c in rw (w.0, kept_item home h ss os x i w.1) refl
kept_item home h (s ∷ ss) (Nothing ∷ os) x i c = kept_item home h ss os x i c

-- WHAT IS LIVE AFTERWARDS

live_bools : (i c d x : Bool) → ((false || i) && not (x || c) && not (false || d)) ≡ ((i && not c && not d) && not x)
live_bools true true true true = refl
live_bools true true true false = refl
live_bools true true false true = refl
live_bools true true false false = refl
live_bools true false true true = refl
live_bools true false true false = refl
live_bools true false false true = refl
live_bools true false false false = refl
live_bools false c d x = refl

live_after : (j : History) (k h : ℕ) (os : List Outcome) (said : Said) → list_any (issues h) os ≡ false → is_live (with_entry j (End k os said)) h ≡ (is_live j h && not (any_closes (wire_of j.home h) (slots j k) os))
live_after j k h os said i = rw i (live_bools (is_issued j h) (is_closed j h) (list_any (runs_down h) j.past) (any_closes (wire_of j.home h) (slots j k) os))

given_or : (fg ck : Option ℕ) → unwrap_or (option_or fg ck) 0 ≡ unwrap_or fg (unwrap_or ck 0)
given_or None ck = refl
given_or (Some c) ck = refl

-- a handle that the results don't issue
old_item : (j : History) (k h : ℕ) (os : List Outcome) (said : Said) → list_any (issues h) os ≡ false → effects j.home h (slots j k) os (live_item j h) ≡ live_item (with_entry j (End k os said)) h
old_item j k h os said i =
    let ss = slots j k in
    let after = live_after j k h os said i in
    elim (cases_Bool (is_live j h)) [
      | inl v ↦ elim (cases_Bool (any_closes (wire_of j.home h) ss os)) [
        | inl c ↦
            let gone : is_live (with_entry j (End k os said)) h ≡ false = after ∙ rw (v, c) refl in
            rw (v, gone) (closed_goes j.home h ss os (Some (due_item j h)) i c)
        | inr c ↦
            let stays : is_live (with_entry j (End k os said)) h ≡ true = after ∙ rw (v, c) refl in
            let same : due_item (with_entry j (End k os said)) h ≡ record { serial = h; kind = unwrap_or (kind j h) 0; cookie = unwrap_or (first_given j.home h ss os) (unwrap_or (cookie j h) 0) } =
            rw (no_kind h ss os i) (ap (λ n. record { serial = h; kind = unwrap_or (kind j h) 0; cookie = n }) (given_or (first_given j.home h ss os) (cookie j h))) in
            rw (v, stays) (kept_item j.home h ss os (due_item j h) i c ∙ ap (λ x. Some x) (sym same))
      ]
      | inr v ↦
          let gone : is_live (with_entry j (End k os said)) h ≡ false = after ∙ rw v refl in
          rw (v, gone) (none_stays j.home h ss os i)
    ]

-- and one that they issue
new_item : (j : History) (k h : ℕ) (os : List Outcome) (said : Said) → Legal j → runs j k ≡ true → suit (slots j k) os ≡ true → list_any (issues h) os ≡ true → effects j.home h (slots j k) os (live_item j h) ≡ live_item (with_entry j (End k os said)) h
new_item j k h os said l r u i =
    let ss = slots j k in
    let before = issued_once j k h os l r u i in
    let dead : is_live j h ≡ false = rw before refl in
    let none = none_names j h ss (named_live j k l r) dead in
    let w = new_issued j.home h ss os none u i in
    let f : FateAs j h false = subst (λ b. FateAs j h b) before (fate j h l) in
    let lives : is_live (with_entry j (End k os said)) h ≡ true = rw (i, none_closes j.home h ss os none, unclosed j h f.1, kept_up j.past h f.2) refl in
    let it : due_item (with_entry j (End k os said)) h ≡ record { serial = h; kind = w.kind; cookie = w.cookie } = rw (w.its_kind, w.its_cookie) refl in
    rw lives (w.item (live_item j h) ∙ ap (λ x. Some x) (sym it))

ends_as : (j : History) (k h : ℕ) (os : List Outcome) (said : Said) → Legal j → runs j k ≡ true → suit (slots j k) os ≡ true → effects j.home h (slots j k) os (live_item j h) ≡ live_item (with_entry j (End k os said)) h
ends_as j k h os said l r u =
    elim (cases_Bool (list_any (issues h) os)) [
      | inl i ↦ new_item j k h os said l r u i
      | inr i ↦ old_item j k h os said i
    ]

issues_small : (j : History) (k : ℕ) (os : List Outcome) → Legal j → suit (slots j k) os ≡ true → IssuesSmall os
issues_small j k os l u h i =
    let w = opens_within j.home j.base j.past k h l (suit_opens h (slots j k) os u i) in
    let small = opened_small j.home j.base j.past l in
    let high = w.1 in omega arith

-- the end of a call leaves the table's list as the results do
pub end_due : (j : History) (k : ℕ) (os : List Outcome) (said : Said) → Legal (with_entry j (End k os said)) → due_items (with_entry j (End k os said)) ≡ ended j.home (slots j k) os (due_items j)
end_due j k os said l =
    let run = l.0.fits.0 in
    let fit = l.0.fits.1 in
    same_items 0 (due_items (with_entry j (End k os said))) (ended j.home (slots j k) os (due_items j)) (due_rises (with_entry j (End k os said)) l) (ended_rises j.home (slots j k) os (due_items j) (issues_small j k os l.1 fit) (due_rises j l.1)) (λ h.
    due_item_at (with_entry j (End k os said)) h l ∙ (sym (ends_as j k h os said l.1 run fit) ∙ (ap (effects j.home h (slots j k) os) (sym (due_item_at j h l.1)) ∙ sym (ended_item j.home (slots j k) os (due_items j) h))))
