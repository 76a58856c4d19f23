-- Rows of values, as a loop reads them.
use Rattle.std.proofs.Common.{◌≡◌, ℕ, suc, ◌+◌, ◌-◌, ◌<◌, ◌≤◌, List, [], ◌∷◌, ◌++◌, length, Option, Result, Ok, Err, refl, sym, ap, ◌∙◌, arith, append_assoc, append-nil, true, false, drop, get_or, add-one, drop-cons}
use Rattle.std.specs.Prelude.{if◌then◌else◌}
use Rattle.std.proofs.lemmas.List.{drop_all}
use Rattle.ndr_value.specs.declared.shape.Shape.{Shape}
use Rattle.ndr_value.specs.Forms.{Form, form, forms}
use Rattle.ndr_value.specs.declared.shape.ArrayKind.{ArrayKind}
use Rattle.ndr_value.specs.declared.value.Value.{Value}
use Rattle.ndr_value.specs.Values.{Val, VByte, Vals, no_val, then_val, val, vals, bytes}
use Rattle.ndr_value.specs.Fits.{fits_count, fits_text}
use Rattle.value_text.specs.declared.departure.Departure.{Departure}
use Rattle.value_text.specs.declared.departure.Departure.TheVariants.{Syntax}
use Rattle.value_text.specs.declared.departure.Stop.{Stop}
use Rattle.value_text.specs.declared.departure.Stop.TheVariants as stops
use Rattle.value_text.specs.Bind.{◌>>=◌}
use Rattle.value_text.specs.Marks.{heads, closed}
use Rattle.value_text.specs.Quoted.{next_at, with_char, chars_at}
use Rattle.value_text.specs.Reading.{Found, Row, with_item, item_at, takes, items_on, member_at, members_end, members_on}
use Rattle.value_text.specs.Gives.{Fails}
use Rattle.value_text.specs.Rows.{join, with_front}

pub join_none : (vs : Vals) → join vs no_val ≡ vs
join_none no_val = refl
join_none (then_val v vs) = ap (then_val v) (join_none vs)

join_one : (vs : Vals) (v : Val) (ws : Vals) → join (join vs (then_val v no_val)) ws ≡ join vs (then_val v ws)
join_one no_val v ws = refl
join_one (then_val x vs) v ws = ap (then_val x) (join_one vs v ws)

pub vals_push : (xs : List Value) (x : Value) → vals (xs ++ x ∷ []) ≡ join (vals xs) (then_val (val x) no_val)
vals_push [] x = refl
vals_push (y ∷ ys) x = ap (then_val (val y)) (vals_push ys x)

pub bytes_push : (xs : List ℕ) (x : ℕ) → bytes (xs ++ x ∷ []) ≡ join (bytes xs) (then_val (VByte x) no_val)
bytes_push [] x = refl
bytes_push (y ∷ ys) x = ap (then_val (VByte y)) (bytes_push ys x)

pub regroup : (front : Vals) (v : Val) (row : Row) → with_front front (with_item v row) ≡ with_front (join front (then_val v no_val)) row
regroup front v (Ok y) = ap (λ (vs : Vals). Ok (vs, y.1)) (sym (join_one front v y.0))
regroup front v (Err e) = refl

-- what is read first departs
pub row_fails : (e : Stop) (front : Vals) (r : Found) (f : Val × List ℕ → Row) (total : Row) → Fails e r → with_front front (r >>= f) ≡ total → Fails e total
row_fails stops.Memory front r f total h so_far = tt
row_fails (stops.Departs d) front r f total h so_far = sym so_far ∙ ap (λ (x : Found). with_front front (x >>= f)) h

-- or is a value, and the others go on
pub row_more : (front : Vals) (r : Found) (v : Val) (t : List ℕ) (f : List ℕ → Row) (total : Row) → r ≡ Ok (v, t) → with_front front (r >>= λ x. with_item x.0 (f x.1)) ≡ total
    → with_front (join front (then_val v no_val)) (f t) ≡ total
row_more front r v t f total h so_far = sym (regroup front v (f t)) ∙ (sym (ap (λ (x : Found). with_front front (x >>= λ y. with_item y.0 (f y.1))) h) ∙ so_far)

-- the end of a row
pub row_end : (front : Vals) (r : Result (List ℕ) Departure) (u : List ℕ) (total : Row) → r ≡ Ok u → with_front front (r >>= λ x. Ok (no_val, x)) ≡ total → total ≡ Ok (front, u)
row_end front r u total h so_far = sym so_far ∙ (ap (λ (x : Result (List ℕ) Departure). with_front front (x >>= λ y. Ok (no_val, y))) h ∙ ap (λ (vs : Vals). Ok (vs, u)) (join_none front))

pub end_fails : (e : Stop) (front : Vals) (r : Result (List ℕ) Departure) (total : Row) → Fails e r → with_front front (r >>= λ x. Ok (no_val, x)) ≡ total → Fails e total
end_fails stops.Memory front r total h so_far = tt
end_fails (stops.Departs d) front r total h so_far = sym so_far ∙ ap (λ (x : Result (List ℕ) Departure). with_front front (x >>= λ y. Ok (no_val, y))) h

-- ---- elements

module _ (go : List ℕ → Found) (kind : ArrayKind) (front : Vals) (n m : ℕ) (t : List ℕ) (total : Row) (some : m < n) (so_far : with_front front (items_on (n - m) go kind m t) ≡ total) where
  one : items_on (n - m) go kind m t ≡ (if heads 93 t then (closed (fits_count kind m) t >>= λ u. Ok (no_val, u))
      else (item_at go (takes kind m) t >>= λ x. with_item x.0 (items_on (n - (m + 1)) go kind (m + 1) x.1)))
  unfolding items_on
  one = let e : n - m ≡ suc (n - (m + 1)) = omega arith in rw e refl

  pub items_close : heads 93 t ≡ true → with_front front (closed (fits_count kind m) t >>= λ u. Ok (no_val, u)) ≡ total
  items_close h = ap (λ (x : Row). with_front front x) (sym (one ∙ rw h refl)) ∙ so_far

  pub items_more : heads 93 t ≡ false → with_front front (item_at go (takes kind m) t >>= λ x. with_item x.0 (items_on (n - (m + 1)) go kind (m + 1) x.1)) ≡ total
  items_more h = ap (λ (x : Row). with_front front x) (sym (one ∙ rw h refl)) ∙ so_far

pub items_over : (go : List ℕ → Found) (kind : ArrayKind) (front : Vals) (n m : ℕ) (t : List ℕ) (total : Row) → n ≤ m → with_front front (items_on (n - m) go kind m t) ≡ total → total ≡ Err (Syntax (length t))
unfolding items_on
items_over go kind front n m t total over so_far = let e : n - m ≡ 0 = omega arith in sym so_far ∙ rw e refl

-- ---- octets of a text

abbrev pub with_chars : List ℕ → Result (List ℕ × List ℕ) Departure → Result (List ℕ × List ℕ) Departure
with_chars front row = row >>= λ z. Ok (front ++ z.0, z.1)

chars_regroup : (front : List ℕ) (c : ℕ) (row : Result (List ℕ × List ℕ) Departure) → with_chars front (with_char c row) ≡ with_chars (front ++ c ∷ []) row
chars_regroup front c (Ok z) = ap (λ (cs : List ℕ). Ok (cs, z.1)) (sym (append_assoc front (c ∷ []) z.0))
chars_regroup front c (Err e) = refl

module _ (most : Option ℕ) (front : List ℕ) (n m : ℕ) (t : List ℕ) (total : Result (List ℕ × List ℕ) Departure) (some : m < n) (so_far : with_chars front (chars_at (n - m) most m t) ≡ total) where
  one_char : chars_at (n - m) most m t ≡ (if heads 34 t then (closed (fits_text most m) t >>= λ u. Ok ([], u))
      else (next_at (fits_text most (m + 1)) t >>= λ y. with_char y.0 (chars_at (n - (m + 1)) most (m + 1) y.1)))
  unfolding chars_at
  one_char = let e : n - m ≡ suc (n - (m + 1)) = omega arith in rw e refl

  close_is : heads 34 t ≡ true → with_chars front (closed (fits_text most m) t >>= λ u. Ok ([], u)) ≡ total
  close_is h = ap (λ (x : Result (List ℕ × List ℕ) Departure). with_chars front x) (sym (one_char ∙ rw h refl)) ∙ so_far

  more_is : heads 34 t ≡ false → with_chars front (next_at (fits_text most (m + 1)) t >>= λ y. with_char y.0 (chars_at (n - (m + 1)) most (m + 1) y.1)) ≡ total
  more_is h = ap (λ (x : Result (List ℕ × List ℕ) Departure). with_chars front x) (sym (one_char ∙ rw h refl)) ∙ so_far

  pub chars_end : (u : List ℕ) → heads 34 t ≡ true → closed (fits_text most m) t ≡ Ok u → total ≡ Ok (front, u)
  chars_end u h c = sym (close_is h) ∙ (ap (λ (x : Result (List ℕ) Departure). with_chars front (x >>= λ y. Ok ([], y))) c ∙ ap (λ (cs : List ℕ). Ok (cs, u)) (append-nil front))

  end_stops : (e : Stop) → heads 34 t ≡ true → Fails e (closed (fits_text most m) t) → Fails e total
  end_stops stops.Memory h f = tt
  end_stops (stops.Departs d) h f = sym (close_is h) ∙ ap (λ (x : Result (List ℕ) Departure). with_chars front (x >>= λ y. Ok ([], y))) f

  pub chars_end_fails : (e : Stop) → heads 34 t ≡ true → Fails e (closed (fits_text most m) t) → Fails e total
  chars_end_fails e h f = end_stops e h f

  more_stops : (e : Stop) → heads 34 t ≡ false → Fails e (next_at (fits_text most (m + 1)) t) → Fails e total
  more_stops stops.Memory h f = tt
  more_stops (stops.Departs d) h f =
      sym (more_is h) ∙ ap (λ (x : Result (ℕ × List ℕ) Departure). with_chars front (x >>= λ y. with_char y.0 (chars_at (n - (m + 1)) most (m + 1) y.1))) f

  pub chars_fail : (e : Stop) → heads 34 t ≡ false → Fails e (next_at (fits_text most (m + 1)) t) → Fails e total
  chars_fail e h f = more_stops e h f

  pub chars_more : (c : ℕ) (u : List ℕ) → heads 34 t ≡ false → next_at (fits_text most (m + 1)) t ≡ Ok (c, u) → with_chars (front ++ c ∷ []) (chars_at (n - (m + 1)) most (m + 1) u) ≡ total
  chars_more c u h f =
      sym (chars_regroup front c (chars_at (n - (m + 1)) most (m + 1) u))
      ∙ (sym (ap (λ (x : Result (ℕ × List ℕ) Departure). with_chars front (x >>= λ y. with_char y.0 (chars_at (n - (m + 1)) most (m + 1) y.1))) f) ∙ more_is h)

pub chars_over : (most : Option ℕ) (front : List ℕ) (n m : ℕ) (t : List ℕ) (total : Result (List ℕ × List ℕ) Departure) → n ≤ m → with_chars front (chars_at (n - m) most m t) ≡ total → total ≡ Err (Syntax (length t))
unfolding chars_at
chars_over most front n m t total over so_far = let e : n - m ≡ 0 = omega arith in sym so_far ∙ rw e refl

-- ---- members

pub drop_more : {A : Type 0} (xs : List A) (i : ℕ) (x : A) → i < length xs → x ≡ get_or xs i x → drop i xs ≡ x ∷ drop (i + 1) xs
drop_more xs i x lt is = rw (add-one, drop-cons xs i x lt, ← is) refl

module _ (go : Form → List ℕ → Found) (front : Vals) (shapes : List Shape) (i : ℕ) (s : Shape) (t : List ℕ) (total : Row) (lt : i < length shapes) (is : s ≡ get_or shapes i s)
    (so_far : with_front front (members_on go (forms (drop i shapes)) t) ≡ total) where
  pub one_member : with_front front (member_at (go (form s)) t >>= λ x. with_item x.0 (members_on go (forms (drop (i + 1) shapes)) x.1)) ≡ total
  one_member = ap (λ (ss : List Shape). with_front front (members_on go (forms ss) t)) (sym (drop_more shapes i s lt is)) ∙ so_far

pub members_over : (go : Form → List ℕ → Found) (front : Vals) (shapes : List Shape) (i : ℕ) (t : List ℕ) (total : Row) → length shapes ≤ i
    → with_front front (members_on go (forms (drop i shapes)) t) ≡ total → with_front front (members_end t >>= λ u. Ok (no_val, u)) ≡ total
members_over go front shapes i t total le so_far =
    ap (λ (ss : List Shape). with_front front (members_on go (forms ss) t)) (sym (drop_all i shapes le)) ∙ so_far
