-- A text that departs is read with that departure, where as much depth is left.
use Rattle.std.proofs.Common.{◌≡◌, ℕ, zero, suc, ◌+◌, ◌<◌, ◌≤◌, Bool, true, false, List, [], ◌∷◌, ◌++◌, length, Option, Some, None, Result, Ok, Err, refl, ap, sym, subst, ◌∙◌, arith, codes, length-append}
use Rattle.std.specs.Prelude.{ℤ, if◌then◌else◌, ◌&&◌, ◌||◌, ◌==◌, nat_lt, slice_get}
use Rattle.std.proofs.lemmas.Bool.{eqb-true, lt-ltb}
use Rattle.ndr_value.specs.declared.shape.Count.{Count}
use Rattle.ndr_value.specs.declared.shape.ArrayKind.{ArrayKind}
use Rattle.ndr_value.specs.Forms.{Form, OfNamed, OfStruct, OfUnion, OfArray, OfText, OfRef, OfUnique, Forms, then_form, Body}
use Rattle.ndr_value.specs.Values.{Val, VStruct, VUnion, VEmpty, VArray, VPtr, Vals, no_val, then_val}
use Rattle.ndr_value.specs.Fits.{fits_count}
use Rattle.value_text.specs.declared.departure.Departure.{Departure}
use Rattle.value_text.specs.declared.departure.Departure.TheVariants.{Syntax, Kind, Range}
use Rattle.value_text.specs.Bind.{◌>>=◌}
use Rattle.value_text.specs.Texts.{value_text}
use Rattle.value_text.specs.Marks.{is_digit, begins, heads, heads_digit, behind, wrong, mark, marks, closed}
use Rattle.value_text.specs.Numbers.{small, numeral, number_at, signed}
use Rattle.value_text.specs.Reading.{Found, Row, of_type, takes, next_at, with_item, members_on, members_at, items_on, items_at, arm_by, arm_at, read_at}
use Rattle.value_text.specs.Causes.{place_for, none, goes, Stops, no_text, no_kind, opens, stands_by_itself, begins_or, ends_or, TextDeparts, at_front, in_word, in_number, out_of_range, in_index, index_above, in_text, in_type, of_nothing, in_reference, in_pointed, in_structure, in_elements, in_tag, no_arm_for, in_arm, FirstDeparts, no_end, ends_early, first_member, behind_first, MembersDepart, no_close, no_comma, no_space, next_member, behind_next, ElementsDepart, first_stops, first_element, behind_element, no_bracket, no_gap, next_element, behind_later, ArmDeparts, not_closed, no_colon, no_blank, in_value, no_closing}
use Rattle.value_text.proofs.Steps.{through, if_true, if_false}
use Rattle.value_laws.proofs.Leaves.{bad, failing, clash, mark_err, number_err, number_is, number_heads, npair, chars_err}
use Rattle.value_laws.proofs.Fronted.{fronted, front_off, front_on, stands_begins, stands_read}
use Rattle.value_laws.proofs.Places.{wrong_text, wrong_kind, begins_none, begins_value, begins_sign, opened_err, end_err, next_err, item_err, front_kind, word_reads, number_reads, range_reads, index_stops, index_range}

-- ---- signs

or_second : (a b : Bool) → (a || b) ≡ true → a ≡ false → b ≡ true
or_second true b h k = absurd cc
or_second false b h k = h

sign_begins : (b : Bool) (c : ℕ) (t : List ℕ) → (c == 45) ≡ b → ((c == 45) || is_digit c) ≡ true → goes begins (c ∷ t) ≡ true
sign_begins true c t e h = subst (λ (x : ℕ). begins x ≡ true) (sym (eqb-true c 45 e)) refl
sign_begins false c t e h = let d = or_second (c == 45) (is_digit c) h e in rw d refl

number_begins : (t : List ℕ) → (heads 45 t || heads_digit t) ≡ true → goes begins t ≡ true
number_begins [] h = absurd cc
number_begins (c ∷ t) h = sign_begins (c == 45) c t refl h

sign_by : (b : Bool) (x c : ℕ) → (x == c) ≡ b → begins c ≡ false → begins x ≡ true → b ≡ false
sign_by true x c e h k = absurd (clash (begins c) (subst (λ (y : ℕ). begins y ≡ true) (eqb-true x c e) k) h)
sign_by false x c e h k = refl

no_sign : (c : ℕ) (t : List ℕ) → begins c ≡ false → goes begins t ≡ true → heads c t ≡ false
no_sign c [] h k = refl
no_sign c (x ∷ t) h k = sign_by (x == c) x c refl h k

out_if : {A B : Type 0} (b : Bool) (d : Departure) (r : Result A Departure) (f : A → Result B Departure) → (if b then Err d else (r >>= f)) ≡ ((if b then Err d else r) >>= f)
out_if true d r f = refl
out_if false d r f = refl

gap : (may : Bool) (t : List ℕ) → may ≡ true → next_at may (44 ∷ t) ≡ marks (codes " ") t
gap true t h = refl
gap false t h = absurd cc

takes_by : {A B : Type 0} (b : Bool) (r : Result A Departure) (f : A → Result B Departure) (w d : Departure) → r ≡ Err d → w ≡ d → (if b then (r >>= f) else Err w) ≡ Err d
takes_by true r f w d e h = failing r f d e
takes_by {B = B} false r f w d e h = ap (bad B) h

own_here : (a b : Bool) (t : List ℕ) → heads 93 t ≡ true → goes (λ c. if c == 93 then a else (begins c && b)) t ≡ false → a ≡ false
own_here a b [] h k = absurd cc
own_here a b (c ∷ t) h k = sym (if_true (c == 93) a (begins c && b) h) ∙ k

all_part : (a b : Bool) → a ≡ true → (a && b) ≡ b
all_part true b h = refl
all_part false b h = absurd cc

own_other : (a b : Bool) (t : List ℕ) → heads 93 t ≡ false → goes begins t ≡ true → goes (λ c. if c == 93 then a else (begins c && b)) t ≡ false → b ≡ false
own_other a b [] h g k = absurd cc
own_other a b (c ∷ t) h g k = sym (if_false (c == 93) a (begins c && b) h ∙ all_part (begins c) b g) ∙ k

rest_shorter : (v : Val) (t rest : List ℕ) (n : ℕ) → t ≡ value_text v ++ rest → length (44 ∷ 32 ∷ t) < suc n → length rest < n
rest_shorter v t rest n w lt =
    let a = length-append (value_text v) rest in
    let b : length t ≡ length (value_text v ++ rest) = ap length w in
    omega (arith, a, b, lt)

-- ---- from some depth on

abbrev pub Ends : {A : Type 0} → (ℕ → Result A Departure) → Result A Departure → Type 0
Ends f r = (k : ℕ) × ((n : ℕ) → k ≤ n → f n ≡ r)

module _ (types : List Form) where
  abbrev go : ℕ → ℕ → Form → List ℕ → Found
  go = fronted types

  -- what a structure and an array do with a member that was read
  abbrev member_on : ℕ → ℕ → Forms → Val × List ℕ → Row
  member_on n level ss x = with_item x.0 (members_on (go n level) ss x.1)

  abbrev element_on : ℕ → ℕ → ℕ → ArrayKind → Form → ℕ → Val × List ℕ → Row
  element_on many n level kind s m x = with_item x.0 (items_on many (go n level s) kind m x.1)

  abbrev first_on : ℕ → ℕ → ArrayKind → Form → Val × List ℕ → Row
  first_on n level kind s x = with_item x.0 (items_on (length x.1 + 1) (go n level s) kind 1 x.1)

  step_by : (level : ℕ) (s : Form) (t : List ℕ) (r : Found) (k : ℕ) → goes begins t ≡ true → ((n : ℕ) → k ≤ n → read_at types (go n) level s t ≡ r) → (n : ℕ) → suc k ≤ n → go n level s t ≡ r
  step_by level s t r k b e zero le = absurd (omega (arith, le))
  step_by level s t r k b e (suc n) le = front_on types n level s t b ∙ e n (omega (arith, le))

  step : (level : ℕ) (s : Form) (t : List ℕ) (r : Found) → goes begins t ≡ true → Ends (λ n. read_at types (go n) level s t) r → Ends (λ n. go n level s t) r
  step level s t r b x = (suc x.0, step_by level s t r x.0 b x.1)

  -- at once
  here : (level : ℕ) (s : Form) (t : List ℕ) (r : Found) → goes begins t ≡ true → ((n : ℕ) → read_at types (go n) level s t ≡ r) → Ends (λ n. go n level s t) r
  here level s t r b e = step level s t r b (0, λ n le. e n)

  -- a name or a reference
  inner_by : (b : Bool) (level : ℕ) (s u : Form) (t : List ℕ) (d : Departure) → goes begins t ≡ b → ((n : ℕ) → read_at types (go n) level s t ≡ go n level u t) → Ends (λ n. go n level u t) (Err d) → Ends (λ n. go n level s t) (Err d)
  inner_by true level s u t d b same x = step level s t (Err d) b (x.0, λ n le. same n ∙ x.1 n le)
  inner_by false level s u t d b same x = (0, λ n le. front_off types n level s t b ∙ (sym (front_off types x.0 level u t b) ∙ x.1 x.0 (omega arith)))

  front_stops : (level : ℕ) (s : Form) (t : List ℕ) {d : Departure} → stands_by_itself s ≡ true → Stops (place_for begins (opens level s)) t d → Ends (λ n. go n level s t) (Err d)
  front_stops level s t o (no_text h) = (0, λ n le. front_off types n level s t h)
  front_stops level s t o (no_kind h k) = here level s t (Err (Kind (length t))) h (λ n. front_kind types (go n) level s t o h k)

  nothing_stops : (level number : ℕ) (switch : Option Count) (t : List ℕ) {d : Departure} → slice_get types number ≡ None → Stops (place_for begins none) t d → Ends (λ n. go n level (OfNamed number switch) t) (Err d)
  nothing_stops level number switch t e (no_text h) = (0, λ n le. front_off types n level (OfNamed number switch) t h)
  nothing_stops level number switch t e (no_kind h k) =
      here level (OfNamed number switch) t (Err (Kind (length t))) h
      (λ n. ap (λ (o : Option Form). of_type o t (λ s. go n level s t)) e ∙ ap (bad (Val × List ℕ)) (wrong_kind t h))

  early_stops : (level : ℕ) (s : Form) (ss : Forms) (t : List ℕ) {d : Departure} → Stops (place_for (begins_or 125) begins) t d → Ends (λ n. members_at (go n level) (then_form s ss) t) (Err d)
  early_stops level s ss t (no_text h) =
      let b = begins_none 125 t h in
      (0, λ n le. if_false (heads 125 t) (Err (Kind (length t))) (go n level s t >>= member_on n level ss) b.1 ∙ failing (go n level s t) (member_on n level ss) (Syntax (length t)) (front_off types n level s t b.0))
  early_stops level s ss t (no_kind h k) = (0, λ n le. if_true (heads 125 t) (Err (Kind (length t))) (go n level s t >>= member_on n level ss) (begins_sign 125 t h k))

  array_by : (b : Bool) (level : ℕ) (kind : ArrayKind) (s : Form) (t : List ℕ) → heads 93 t ≡ b → goes (begins_or 93) t ≡ true → goes (λ c. if c == 93 then fits_count kind 0 else (begins c && takes kind 0)) t ≡ false
      → (n : ℕ) → items_at (go n level s) kind t ≡ Err (Kind (length t))
  array_by true level kind s t h a o n =
      if_true (heads 93 t) (closed (fits_count kind 0) t >>= λ u. Ok (no_val, u)) (if takes kind 0 then (go n level s t >>= first_on n level kind s) else Err (wrong t)) h
      ∙ failing (closed (fits_count kind 0) t) (λ u. Ok (no_val, u)) (Kind (length t)) (if_false (fits_count kind 0) (Ok (behind t)) (Err (Kind (length t))) (own_here (fits_count kind 0) (takes kind 0) t h o))
  array_by false level kind s t h a o n =
      let b = begins_value 93 t a h in
      if_false (heads 93 t) (closed (fits_count kind 0) t >>= λ u. Ok (no_val, u)) (if takes kind 0 then (go n level s t >>= first_on n level kind s) else Err (wrong t)) h
      ∙ (if_false (takes kind 0) (go n level s t >>= first_on n level kind s) (Err (wrong t)) (own_other (fits_count kind 0) (takes kind 0) t h b o) ∙ ap (bad (Vals × List ℕ)) (wrong_kind t b))

  array_stops : (level : ℕ) (kind : ArrayKind) (s : Form) (t : List ℕ) {d : Departure} → Stops (place_for (begins_or 93) (λ c. if c == 93 then fits_count kind 0 else (begins c && takes kind 0))) t d
      → Ends (λ n. items_at (go n level s) kind t) (Err d)
  array_stops level kind s t (no_text h) =
      let b = begins_none 93 t h in (
        0,
        λ n le. if_false (heads 93 t) (closed (fits_count kind 0) t >>= λ u. Ok (no_val, u)) (if takes kind 0 then (go n level s t >>= first_on n level kind s) else Err (wrong t)) b.1
            ∙ takes_by (takes kind 0) (go n level s t) (first_on n level kind s) (wrong t) (Syntax (length t)) (front_off types n level s t b.0) (wrong_text t b.0),
      )
  array_stops level kind s t (no_kind h k) = (0, λ n le. array_by (heads 93 t) level kind s t refl h k n)

  bracket_stops : (many n level : ℕ) (kind : ArrayKind) (s : Form) (m : ℕ) (t : List ℕ) {d : Departure} → Stops (place_for (ends_or true true 93 44) (ends_or (fits_count kind (suc m)) (takes kind (suc m)) 93 44)) t d → length t < many
      → items_on many (go n level s) kind (suc m) t ≡ Err d
  unfolding items_on
  bracket_stops zero n level kind s m t st lt = absurd (omega (arith, lt))
  bracket_stops (suc many) n level kind s m t st lt = item_err (fits_count kind (suc m)) (takes kind (suc m)) t (λ u. Ok (no_val, u)) (go n level s) (element_on many n level kind s (suc m + 1)) st

  -- behind a comma, where an element may follow
  comma_stops : (many n level : ℕ) (kind : ArrayKind) (s : Form) (m : ℕ) (t : List ℕ) (d : Departure) → takes kind (suc m) ≡ true → (marks (codes " ") t >>= go n level s) ≡ Err d → length (44 ∷ t) < many → items_on many (go n level s) kind (suc m) (44 ∷ t) ≡ Err d
  unfolding items_on
  comma_stops zero n level kind s m t d h e lt = absurd (omega (arith, lt))
  comma_stops (suc many) n level kind s m t d h e lt =
      failing (next_at (takes kind (suc m)) (44 ∷ t) >>= go n level s) (element_on many n level kind s (suc m + 1)) d (ap (λ (r : Result (List ℕ) Departure). r >>= go n level s) (gap (takes kind (suc m)) t h) ∙ e)

  later_stops : (many n level : ℕ) (kind : ArrayKind) (s : Form) (m : ℕ) (t u : List ℕ) (v : Val) (d : Departure) → takes kind (suc m) ≡ true → go n level s t ≡ Ok (v, u) → t ≡ value_text v ++ u
      → ((i : ℕ) → length u < i → items_on i (go n level s) kind (suc (suc m)) u ≡ Err d) → length (44 ∷ 32 ∷ t) < many → items_on many (go n level s) kind (suc m) (44 ∷ 32 ∷ t) ≡ Err d
  unfolding items_on
  later_stops zero n level kind s m t u v d h e w more lt = absurd (omega (arith, lt))
  later_stops (suc many) n level kind s m t u v d h e w more lt =
      let j : suc (suc m) ≡ suc m + 1 = omega arith in
      let next = subst (λ (i : ℕ). items_on many (go n level s) kind i u ≡ Err d) j (more many (rest_shorter v t u many w lt)) in
      through (next_at (takes kind (suc m)) (44 ∷ 32 ∷ t) >>= go n level s) (element_on many n level kind s (suc m + 1)) (v, u) (ap (λ (r : Result (List ℕ) Departure). r >>= go n level s) (gap (takes kind (suc m)) (32 ∷ t) h) ∙ e)
      ∙ failing (items_on many (go n level s) kind (suc m + 1) u) (λ y. Ok (then_val v y.0, y.1)) d next

  module _ (heap : ℕ) where
    abbrev ArrayEnds : ℕ → ArrayKind → Form → ℕ → List ℕ → Departure → Type 0
    ArrayEnds level kind s m t d = (k : ℕ) × ((n : ℕ) → k ≤ n → (many : ℕ) → length t < many → items_on many (go n level s) kind m t ≡ Err d)

    mutual
      pub departs : {level : ℕ} {s : Form} {t : List ℕ} {d : Departure} → TextDeparts types heap level s t d → Ends (λ n. fronted types n level s t) (Err d)
      departs (at_front {level = level} {s = s} {t = t} o st) = front_stops level s t o st
      departs (in_word {level = level} {c = c} {s = s} {t = t} {d = d} i x) = here level s (c ∷ t) (Err d) (word_reads types (go 0) level i x).0 (λ n. (word_reads types (go n) level i x).1)
      departs (in_number {level = level} {s = s} {t = t} {d = d} b h x) = here level s t (Err d) (number_begins t h) (λ n. number_reads types (go n) level s t d b h x)
      departs (out_of_range {level = level} {n = m} {s = s} {minus = minus} {t = t} {rest = rest} b x r) = here level s t (Err (Range (length t))) (number_begins t (number_heads x)) (λ n. range_reads types (go n) level s t rest minus m b x r)
      departs (in_index {level = level} {c = c} {s = s} {t = t} {d = d} i x) = here level s (c ∷ t) (Err d) (index_stops types (go 0) level i x).0 (λ n. (index_stops types (go n) level i x).1)
      departs (index_above {level = level} {c = c} {s = s} {t = t} i x r) = here level s (c ∷ t) (Err (Range (length t))) (index_range types (go 0) level i x r).0 (λ n. (index_range types (go n) level i x r).1)
      departs (in_text {level = level} {most = most} {t = t} {d = d} x) = here level (OfText most) (34 ∷ t) (Err d) refl (λ n. failing _ _ d (chars_err most (length t + 1) x (omega arith)))
      departs (in_type {level = level} {number = number} {switch = switch} {s = s} {t = t} {d = d} e x) =
          inner_by (goes begins t) level (OfNamed number switch) s t d refl (λ n. ap (λ (o : Option Form). of_type o t (λ u. go n level u t)) e) (departs x)
      departs (of_nothing {level = level} {number = number} {switch = switch} {t = t} e st) = nothing_stops level number switch t e st
      departs (in_reference {level = level} {s = s} {t = t} {d = d} x) = inner_by (goes begins t) level (OfRef s) s t d refl (λ n. refl) (departs x)
      departs (in_pointed {level = level} {s = s} {t = t} {d = d} few x) =
          let i = departs x in
          let j : suc level ≡ level + 1 = omega arith in
          step level (OfUnique s) (38 ∷ t) (Err d) refl (
            i.0,
            λ n le. if_true (nat_lt level 256) (go n (level + 1) s t >>= λ y. Ok (VPtr y.0, y.1)) (Err (Kind (length (38 ∷ t)))) (lt-ltb level 256 few)
                ∙ failing (go n (level + 1) s t) (λ y. Ok (VPtr y.0, y.1)) d (subst (λ (l : ℕ). go n l s t ≡ Err d) j (i.1 n le)),
          )
      departs (in_structure {level = level} {ss = ss} {t = t} {d = d} x) =
          let i = first_departs x in
          step level (OfStruct ss) (123 ∷ t) (Err d) refl (i.0, λ n le. failing (members_at (go n level) ss t) (λ y. Ok (VStruct y.0, y.1)) d (i.1 n le))
      departs (in_elements {level = level} {kind = kind} {s = s} {t = t} {d = d} x) =
          let i = array_departs x in
          step level (OfArray kind s) (91 ∷ t) (Err d) refl (i.0, λ n le. failing (items_at (go n level s) kind t) (λ y. Ok (VArray y.0, y.1)) d (i.1 n le))
      departs (in_tag {level = level} {k = k} {arms = arms} {t = t} {d = d} x) = here level (OfUnion k arms) (40 ∷ t) (Err d) refl (λ n. failing _ _ d (number_err x))
      departs (no_arm_for {level = level} {n = m} {k = k} {arms = arms} {minus = minus} {t = t} {rest = rest} x a) =
          let s = OfUnion k arms in
          let w = numeral minus (small m) in
          here level s (40 ∷ t) (Err (Range (length t))) refl
          (λ n. through (number_at t) (λ y. arm_at (arm_by s y.0) (signed y.0) (length t) (go n level) y.1) (npair w rest) (number_is x) ∙ ap (λ (o : Option Body). arm_at o (signed w) (length t) (go n level) rest) a)
      departs (in_arm {level = level} {n = m} {k = k} {arms = arms} {minus = minus} {t = t} {u = u} {d = d} x a y) =
          let s = OfUnion k arms in
          let w = numeral minus (small m) in
          let i = arm_departs y (signed w) (length t) in
          step level s (40 ∷ t) (Err d) refl (
            i.0,
            λ n le. through (number_at t) (λ z. arm_at (arm_by s z.0) (signed z.0) (length t) (go n level) z.1) (npair w u) (number_is x)
                ∙ (ap (λ (o : Option Body). arm_at o (signed w) (length t) (go n level) u) a ∙ i.1 n le),
          )

      first_departs : {level : ℕ} {ss : Forms} {t : List ℕ} {d : Departure} → FirstDeparts types heap level ss t d → Ends (λ n. members_at (go n level) ss t) (Err d)
      first_departs (no_end {t = t} {d = d} st) = (0, λ n le. failing _ _ d (opened_err 125 t st))
      first_departs (ends_early {level = level} {s = s} {ss = ss} {t = t} st) = early_stops level s ss t st
      first_departs (first_member {level = level} {s = s} {ss = ss} {t = t} {d = d} h x) =
          let i = departs x in
          (i.0, λ n le. if_false (heads 125 t) (Err (Kind (length t))) (go n level s t >>= member_on n level ss) h ∙ failing (go n level s t) (member_on n level ss) d (i.1 n le))
      first_departs (behind_first {level = level} {s = s} {ss = ss} {t = t} {u = u} {v = v} {d = d} st x) =
          let r = stands_read types heap level s t v u st in
          let i = members_depart x in
          let h = no_sign 125 t refl (stands_begins types heap level s t v u st) in (
            r.0 + i.0,
            λ n le. if_false (heads 125 t) (Err (Kind (length t))) (go n level s t >>= member_on n level ss) h
                ∙ (through (go n level s t) (member_on n level ss) (v, u) (r.1 n (omega (arith, le))) ∙ failing (members_on (go n level) ss u) (λ y. Ok (then_val v y.0, y.1)) d (i.1 n (omega (arith, le)))),
          )

      members_depart : {level : ℕ} {ss : Forms} {t : List ℕ} {d : Departure} → MembersDepart types heap level ss t d → Ends (λ n. members_on (go n level) ss t) (Err d)
      members_depart (no_close {t = t} {d = d} st) = (0, λ n le. failing _ _ d (end_err 125 44 t st))
      members_depart (no_comma {level = level} {s = s} {ss = ss} {t = t} {d = d} st) =
          (0, λ n le. failing _ (member_on n level ss) d (out_if (heads 125 t) (Kind (length t)) (marks (codes ", ") t) (go n level s) ∙ failing _ (go n level s) d (next_err 125 44 t (λ u. marks (codes " ") u) st)))
      members_depart (no_space {level = level} {s = s} {ss = ss} {t = t} {d = d} st) = (0, λ n le. failing _ (member_on n level ss) d (failing (marks (codes " ") t) (go n level s) d (failing (mark 32 t) (λ u. marks [] u) d (mark_err 32 t st))))
      members_depart (next_member {level = level} {s = s} {ss = ss} {t = t} {d = d} x) = let i = departs x in (i.0, λ n le. failing (go n level s t) (member_on n level ss) d (i.1 n le))
      members_depart (behind_next {level = level} {s = s} {ss = ss} {t = t} {u = u} {v = v} {d = d} st x) =
          let r = stands_read types heap level s t v u st in
          let i = members_depart x in
          (r.0 + i.0, λ n le. through (go n level s t) (member_on n level ss) (v, u) (r.1 n (omega (arith, le))) ∙ failing (members_on (go n level) ss u) (λ y. Ok (then_val v y.0, y.1)) d (i.1 n (omega (arith, le))))

      array_departs : {level : ℕ} {kind : ArrayKind} {s : Form} {t : List ℕ} {d : Departure} → ElementsDepart types heap level kind s 0 t d → Ends (λ n. items_at (go n level s) kind t) (Err d)
      array_departs (first_stops {level = level} {kind = kind} {s = s} {t = t} st) = array_stops level kind s t st
      array_departs (first_element {level = level} {kind = kind} {s = s} {t = t} {d = d} h a x) =
          let i = departs x in (
            i.0,
            λ n le. if_false (heads 93 t) (closed (fits_count kind 0) t >>= λ u. Ok (no_val, u)) (if takes kind 0 then (go n level s t >>= first_on n level kind s) else Err (wrong t)) h
                ∙ (if_true (takes kind 0) (go n level s t >>= first_on n level kind s) (Err (wrong t)) a ∙ failing (go n level s t) (first_on n level kind s) d (i.1 n le)),
          )
      array_departs (behind_element {level = level} {kind = kind} {s = s} {t = t} {u = u} {v = v} {d = d} a st x) =
          let r = stands_read types heap level s t v u st in
          let i = elements_depart x in
          let h = no_sign 93 t refl (stands_begins types heap level s t v u st) in (
            r.0 + i.0,
            λ n le. if_false (heads 93 t) (closed (fits_count kind 0) t >>= λ u. Ok (no_val, u)) (if takes kind 0 then (go n level s t >>= first_on n level kind s) else Err (wrong t)) h
                ∙ (if_true (takes kind 0) (go n level s t >>= first_on n level kind s) (Err (wrong t)) a
                ∙ (through (go n level s t) (first_on n level kind s) (v, u) (r.1 n (omega (arith, le)))
                ∙ failing (items_on (length u + 1) (go n level s) kind 1 u) (λ y. Ok (then_val v y.0, y.1)) d (i.1 n (omega (arith, le)) (length u + 1) (omega arith)))),
          )

      elements_depart : {level : ℕ} {kind : ArrayKind} {s : Form} {m : ℕ} {t : List ℕ} {d : Departure} → ElementsDepart types heap level kind s (suc m) t d → ArrayEnds level kind s (suc m) t d
      elements_depart (no_bracket {level = level} {m = m} {kind = kind} {s = s} {t = t} st) = (0, λ n le many lt. bracket_stops many n level kind s m t st lt)
      elements_depart (no_gap {level = level} {m = m} {kind = kind} {s = s} {t = t} {d = d} a st) =
          (0, λ n le many lt. comma_stops many n level kind s m t d a (failing (marks (codes " ") t) (go n level s) d (failing (mark 32 t) (λ u. marks [] u) d (mark_err 32 t st))) lt)
      elements_depart (next_element {level = level} {m = m} {kind = kind} {s = s} {t = t} {d = d} a x) =
          let i = departs x in (i.0, λ n le many lt. comma_stops many n level kind s m (32 ∷ t) d a (i.1 n le) lt)
      elements_depart (behind_later {level = level} {m = m} {kind = kind} {s = s} {t = t} {u = u} {v = v} {d = d} a st x) =
          let r = stands_read types heap level s t v u st in
          let i = elements_depart x in
          (r.0 + i.0, λ n le many lt. later_stops many n level kind s m t u v d a (r.1 n (omega (arith, le))) st.whole (λ j k. i.1 n (omega (arith, le)) j k) lt)

      arm_departs : {level : ℕ} {b : Body} {t : List ℕ} {d : Departure} → ArmDeparts types heap level b t d → (tag : ℤ) (left : ℕ) → Ends (λ n. arm_at (Some b) tag left (go n level) t) (Err d)
      arm_departs (not_closed {t = t} {d = d} st) tag left =
          (0, λ n le. out_if (heads 58 t) (Kind (length t)) (mark 41 t) (λ u. Ok (VEmpty tag, u)) ∙ failing _ (λ u. Ok (VEmpty tag, u)) d (end_err 41 58 t st))
      arm_departs (no_colon {level = level} {s = s} {t = t} {d = d} st) tag left = (
        0,
        λ n le. out_if (heads 41 t) (Kind (length t)) (marks (codes ": ") t) (λ u. go n level s u >>= λ x. mark 41 x.1 >>= λ r. Ok (VUnion tag x.0, r))
            ∙ failing _ (λ u. go n level s u >>= λ x. mark 41 x.1 >>= λ r. Ok (VUnion tag x.0, r)) d (next_err 41 58 t (λ u. marks (codes " ") u) st),
      )
      arm_departs (no_blank {level = level} {s = s} {t = t} {d = d} st) tag left =
          (0, λ n le. failing (marks (codes " ") t) (λ u. go n level s u >>= λ x. mark 41 x.1 >>= λ r. Ok (VUnion tag x.0, r)) d (failing (mark 32 t) (λ u. marks [] u) d (mark_err 32 t st)))
      arm_departs (in_value {level = level} {s = s} {t = t} {d = d} x) tag left =
          let i = departs x in (i.0, λ n le. failing (go n level s t) (λ y. mark 41 y.1 >>= λ r. Ok (VUnion tag y.0, r)) d (i.1 n le))
      arm_departs (no_closing {level = level} {s = s} {t = t} {u = u} {v = v} {d = d} st x) tag left =
          let r = stands_read types heap level s t v u st in
          (r.0, λ n le. through (go n level s t) (λ y. mark 41 y.1 >>= λ r. Ok (VUnion tag y.0, r)) (v, u) (r.1 n le) ∙ failing (mark 41 u) (λ r. Ok (VUnion tag v, r)) d (mark_err 41 u x))
