-- A text departs by its depth only where shapes nest deeper than is read.
use Rattle.std.proofs.Common.{◌≡◌, ℕ, zero, suc, ◌+◌, ◌-◌, ◌*◌, ◌^◌, ◌≤◌, ◌<◌, Bool, true, false, List, [], ◌∷◌, length, Option, Some, None, Result, Ok, Err, refl, subst, arith, codes}
use Rattle.std.specs.Prelude.{ℤ, if◌then◌else◌, ◌&&◌, ◌||◌, ◌==◌, not, nat_lt, slice_get}
use Rattle.std.specs.List.{list_any}
use Rattle.std.specs.Ordering.{int_eq}
use Rattle.std.proofs.lemmas.Bool.{ltb-true}
use Rattle.ndr_value.specs.declared.shape.ArrayKind.{ArrayKind}
use Rattle.ndr_value.specs.Forms.{Form, OfBool, OfByte, OfChar, OfInt, OfUint, OfEnum, OfNamed, OfStruct, OfUnion, OfArray, OfText, OfRef, OfUnique, OfFull, OfHandle, Forms, no_form, then_form, Body, empty, holds, ArmForms, no_arm, then_arm}
use Rattle.ndr_value.specs.Values.{Val, VBool, VByte, VChar, VInt, VUint, VEnum, VStruct, VEmpty, VUnion, VArray, VText, VNull, VPtr, VFull, VHandle, Vals, no_val, then_val}
use Rattle.ndr_value.specs.Fits.{limit, fits_count, fits_text, fits_tag, with_case, with_default, or_default, selected, arm_of}
use Rattle.value_text.specs.declared.departure.Departure.{Departure}
use Rattle.value_text.specs.declared.departure.Departure.TheVariants.{Syntax, Kind, Range, TooDeep}
use Rattle.value_text.specs.declared.numbers.Numeral.{Numeral}
use Rattle.value_text.specs.Bind.{◌>>=◌}
use Rattle.value_text.specs.Texts.{is_plain}
use Rattle.value_text.specs.Marks.{begins, heads, heads_digit, behind, wrong, mark, marks, opened, closed}
use Rattle.value_text.specs.Numbers.{digits_from, zero_at, natural_at, numeral, minus_at, number_at, numeral_at, size_of, is_below, unsigned_at, index_at, signed, is_signed, signed_at}
use Rattle.value_text.specs.Quoted.{is_high, is_low, digit_of, low_at, high_at, char_at, begins_char, char_in_text_at, with_char, chars_at, text_at}
use Rattle.value_text.specs.Quoted as quoted
use Rattle.value_text.specs.Reading.{Found, Row, bool_at, octet_at, handle_at, full_at, of_type, takes, next_at, with_item, member_at, members_end, members_on, members_at, item_at, items_on, items_at, arm_by, empty_at, held_at, arm_at, union_at, pointer_at, in_struct, in_array, struct_at, array_at, read_at, read}
use Rattle.value_text.specs.Told.{enough}
use Rattle.value_text.specs.Fuel.{EachForm, HasForm, HasBody, EachArm, nests_at, Nests, Pointed, EachPointed, ArmsPointed, BodyPointed, IsFew, IsFlat}

-- it doesn't depart by its depth
abbrev pub Flat : {A : Type 0} → Result A Departure → Type 0
Flat r = r ≡ Err TooDeep → ⊥

good : {A : Type 0} (x : A) → Flat (Ok x)
good x e = absurd cc

syntax : {A : Type 0} (n : ℕ) (e : Result A Departure) → e ≡ Err (Syntax n) → Flat e
syntax n e is f = absurd cc

kind_of : {A : Type 0} (n : ℕ) (e : Result A Departure) → e ≡ Err (Kind n) → Flat e
kind_of n e is f = absurd cc

range_of : {A : Type 0} (n : ℕ) (e : Result A Departure) → e ≡ Err (Range n) → Flat e
range_of n e is f = absurd cc

andthen : {A B : Type 0} (r : Result A Departure) (f : A → Result B Departure) → Flat r → ((x : A) → Flat (f x)) → Flat (r >>= f)
andthen (Ok x) f h k e = k x e
andthen (Err (Syntax n)) f h k e = absurd cc
andthen (Err (Kind n)) f h k e = absurd cc
andthen (Err (Range n)) f h k e = absurd cc
andthen (Err TooDeep) f h k e = h refl

choose : {A : Type 0} (b : Bool) (r s : Result A Departure) → Flat r → Flat s → Flat (if b then r else s)
choose true r s h k = h
choose false r s h k = k

-- ---- signs

wrong_by : (A : Type 0) (b : Bool) (n : ℕ) (r : Result A Departure) → r ≡ Err (if b then Kind n else Syntax n) → Flat r
wrong_by A true n r is f = absurd cc
wrong_by A false n r is f = absurd cc

wrong_flat : (A : Type 0) (t : List ℕ) (r : Result A Departure) → r ≡ Err (wrong t) → Flat r
wrong_flat A [] r is f = absurd cc
wrong_flat A (c ∷ t) r is f = wrong_by A (begins c) (length (c ∷ t)) r is f

mark_flat : (c : ℕ) (t : List ℕ) → Flat (mark c t)
mark_flat c t = choose (heads c t) (Ok (behind t)) (Err (Syntax (length t))) (good (behind t)) (syntax (length t) (Err (Syntax (length t))) refl)

marks_flat : (w t : List ℕ) → Flat (marks w t)
marks_flat [] t = good t
marks_flat (c ∷ w) t = andthen (mark c t) (λ u. marks w u) (mark_flat c t) (λ u. marks_flat w u)

opened_flat : (c : ℕ) (t : List ℕ) → Flat (opened c t)
opened_flat c t = choose (heads c t) (Ok (behind t)) (Err (wrong t)) (good (behind t)) (wrong_flat (List ℕ) t (Err (wrong t)) refl)

closed_flat : (b : Bool) (t : List ℕ) → Flat (closed b t)
closed_flat b t = choose b (Ok (behind t)) (Err (Kind (length t))) (good (behind t)) (kind_of (length t) (Err (Kind (length t))) refl)

-- a word, and then a value
word_flat : (w t : List ℕ) (v : Val) → Flat {A = Val × List ℕ} (marks w t >>= λ u. Ok (v, u))
word_flat w t v = andthen (marks w t) (λ u. Ok (v, u)) (marks_flat w t) (λ u. good (v, u))

-- ---- numbers

zero_flat : (t : List ℕ) → Flat (zero_at t)
zero_flat t = choose (heads_digit t) (Err (Syntax (length t))) (Ok (Some 0, t)) (syntax (length t) (Err (Syntax (length t))) refl) (good (Some 0, t))

natural_flat : (t : List ℕ) → Flat (natural_at t)
natural_flat t =
    let other = choose (heads_digit t) (Ok (digits_from (Some 0) t)) (Err (Syntax (length t))) (good (digits_from (Some 0) t)) (syntax (length t) (Err (Syntax (length t))) refl) in
    choose (heads 48 t) (zero_at (behind t)) (if heads_digit t then Ok (digits_from (Some 0) t) else Err (Syntax (length t))) (zero_flat (behind t)) other

minus_flat : (t : List ℕ) → Flat (minus_at t)
minus_flat t =
    choose (heads 48 t) (Err (Syntax (length t))) (natural_at t >>= λ x. Ok (numeral true x.0, x.1)) (syntax (length t) (Err (Syntax (length t))) refl)
    (andthen (natural_at t) (λ x. Ok (numeral true x.0, x.1)) (natural_flat t) (λ x. good (numeral true x.0, x.1)))

number_flat : (t : List ℕ) → Flat (number_at t)
number_flat t =
    choose (heads 45 t) (minus_at (behind t)) (natural_at t >>= λ x. Ok (numeral false x.0, x.1)) (minus_flat (behind t))
    (andthen (natural_at t) (λ x. Ok (numeral false x.0, x.1)) (natural_flat t) (λ x. good (numeral false x.0, x.1)))

numeral_flat : (t : List ℕ) → Flat (numeral_at t)
numeral_flat t = choose (heads 45 t || heads_digit t) (number_at t) (Err (wrong t)) (number_flat t) (wrong_flat (Numeral × List ℕ) t (Err (wrong t)) refl)

unsigned_flat : (most : ℕ) (t : List ℕ) → Flat (unsigned_at most t)
unsigned_flat most t =
    andthen (numeral_at t) (λ x. if not x.0.minus && is_below most x.0.size then Ok (size_of x.0.size, x.1) else Err (Range (length t))) (numeral_flat t)
    (λ x. choose (not x.0.minus && is_below most x.0.size) (Ok (size_of x.0.size, x.1)) (Err (Range (length t))) (good (size_of x.0.size, x.1)) (range_of (length t) (Err (Range (length t))) refl))

signed_flat : (size : ℕ) (t : List ℕ) → Flat (signed_at size t)
signed_flat size t =
    andthen (numeral_at t) (λ x. if is_signed size x.0 then Ok (signed x.0, x.1) else Err (Range (length t))) (numeral_flat t)
    (λ x. choose (is_signed size x.0) (Ok (signed x.0, x.1)) (Err (Range (length t))) (good (signed x.0, x.1)) (range_of (length t) (Err (Range (length t))) refl))

index_flat : (most : ℕ) (t : List ℕ) → Flat (index_at most t)
index_flat most t =
    andthen (natural_at t) (λ x. if is_below most x.0 then Ok (size_of x.0, x.1) else Err (Range (length t))) (natural_flat t)
    (λ x. choose (is_below most x.0) (Ok (size_of x.0, x.1)) (Err (Range (length t))) (good (size_of x.0, x.1)) (range_of (length t) (Err (Range (length t))) refl))

-- ---- texts

low_flat : (h : ℕ) (t : List ℕ) → Flat (low_at h t)
low_flat h [] = syntax 0 (Err (Syntax 0)) refl
low_flat h (l ∷ t) = choose (is_low h l) (Ok (digit_of h * 16 + digit_of l, t)) (Err (Syntax (length (l ∷ t)))) (good (digit_of h * 16 + digit_of l, t)) (syntax (length (l ∷ t)) (Err (Syntax (length (l ∷ t)))) refl)

high_flat : (t : List ℕ) → Flat (high_at t)
high_flat [] = syntax 0 (Err (Syntax 0)) refl
high_flat (h ∷ t) = choose (is_high h) (low_at h t) (Err (Syntax (length (h ∷ t)))) (low_flat h t) (syntax (length (h ∷ t)) (Err (Syntax (length (h ∷ t)))) refl)

char_flat : (t : List ℕ) → Flat (char_at t)
char_flat [] = syntax 0 (Err (Syntax 0)) refl
char_flat (c ∷ t) =
    choose (is_plain c) (Ok (c, t)) (if c == 92 then (mark 120 t >>= λ u. high_at u) else Err (Syntax (length (c ∷ t)))) (good (c, t))
    (choose (c == 92) (mark 120 t >>= λ u. high_at u) (Err (Syntax (length (c ∷ t)))) (andthen (mark 120 t) (λ u. high_at u) (mark_flat 120 t) (λ u. high_flat u)) (syntax (length (c ∷ t)) (Err (Syntax (length (c ∷ t)))) refl))

char_in_flat : (t : List ℕ) → Flat (char_in_text_at t)
char_in_flat t =
    andthen (char_at t) (λ x. if x.0 == 0 then Err (Range (length t)) else Ok (x.0, x.1)) (char_flat t)
    (λ x. choose (x.0 == 0) (Err (Range (length t))) (Ok (x.0, x.1)) (range_of (length t) (Err (Range (length t))) refl) (good (x.0, x.1)))

next_flat : (may : Bool) (t : List ℕ) → Flat (quoted.next_at may t)
next_flat may t =
    choose (begins_char t) (if may then char_in_text_at t else Err (Kind (length t))) (Err (Syntax (length t)))
    (choose may (char_in_text_at t) (Err (Kind (length t))) (char_in_flat t) (kind_of (length t) (Err (Kind (length t))) refl)) (syntax (length t) (Err (Syntax (length t))) refl)

chars_flat : (n : ℕ) (most : Option ℕ) (m : ℕ) (t : List ℕ) → Flat (chars_at n most m t)
unfolding chars_at
chars_flat zero most m t = syntax (length t) (Err (Syntax (length t))) refl
chars_flat (suc n) most m t =
    choose (heads 34 t) (closed (fits_text most m) t >>= λ u. Ok ([], u)) (quoted.next_at (fits_text most (m + 1)) t >>= λ y. with_char y.0 (chars_at n most (m + 1) y.1))
    (andthen (closed (fits_text most m) t) (λ u. Ok ([], u)) (closed_flat (fits_text most m) t) (λ u. good ([], u)))
    (andthen (quoted.next_at (fits_text most (m + 1)) t) (λ y. with_char y.0 (chars_at n most (m + 1) y.1)) (next_flat (fits_text most (m + 1)) t)
    (λ y. andthen (chars_at n most (m + 1) y.1) (λ z. Ok (y.0 ∷ z.0, z.1)) (chars_flat n most (m + 1) y.1) (λ z. good (y.0 ∷ z.0, z.1))))

text_flat : (most : Option ℕ) (t : List ℕ) → Flat (text_at most t)
text_flat most t = andthen (opened 34 t) (λ u. chars_at (length u + 1) most 0 u) (opened_flat 34 t) (λ u. chars_flat (length u + 1) most 0 u)

-- ---- values without parts

made : {A B : Type 0} (r : Result A Departure) (f : A → B) → Flat r → Flat (r >>= λ x. Ok (f x))
made r f h = andthen r (λ x. Ok (f x)) h (λ x. good (f x))

bool_flat : (t : List ℕ) → Flat (bool_at t)
bool_flat t =
    choose (heads 116 t) (marks (codes "true") t >>= λ u. Ok (VBool true, u)) (if heads 102 t then (marks (codes "false") t >>= λ u. Ok (VBool false, u)) else Err (wrong t)) (word_flat (codes "true") t (VBool true))
    (choose (heads 102 t) (marks (codes "false") t >>= λ u. Ok (VBool false, u)) (Err (wrong t)) (word_flat (codes "false") t (VBool false)) (wrong_flat (Val × List ℕ) t (Err (wrong t)) refl))

handle_flat : (t : List ℕ) → Flat (handle_at t)
handle_flat t =
    andthen (opened 36 t) (λ u. index_at (2 ^ 8) u >>= λ x. Ok (VHandle x.0, x.1)) (opened_flat 36 t)
    (λ u. made (index_at (2 ^ 8) u) (λ x. (VHandle x.0, x.1)) (index_flat (2 ^ 8) u))

full_flat : (t : List ℕ) → Flat (full_at t)
full_flat t =
    choose (heads 110 t) (marks (codes "null") t >>= λ u. Ok (VFull None, u)) (opened 64 t >>= λ u. index_at (2 ^ 32) u >>= λ x. Ok (VFull (Some x.0), x.1)) (word_flat (codes "null") t (VFull None))
    (andthen (opened 64 t) (λ u. index_at (2 ^ 32) u >>= λ x. Ok (VFull (Some x.0), x.1)) (opened_flat 64 t)
    (λ u. made (index_at (2 ^ 32) u) (λ x. (VFull (Some x.0), x.1)) (index_flat (2 ^ 32) u)))

-- ---- values with parts, where go does the parts

item_row : (v : Val) (row : Row) → Flat row → Flat (with_item v row)
item_row v row h = made row (λ y. (then_val v y.0, y.1)) h

member_flat : (go : List ℕ → Found) (t : List ℕ) → ((u : List ℕ) → Flat (go u)) → Flat (member_at go t)
member_flat go t h =
    choose (heads 125 t) (Err (Kind (length t))) (marks (codes ", ") t >>= λ u. go u) (kind_of (length t) (Err (Kind (length t))) refl)
    (andthen (marks (codes ", ") t) (λ u. go u) (marks_flat (codes ", ") t) h)

members_end_flat : (t : List ℕ) → Flat (members_end t)
members_end_flat t = choose (heads 44 t) (Err (Kind (length t))) (mark 125 t) (kind_of (length t) (Err (Kind (length t))) refl) (mark_flat 125 t)

abbrev Parts : (Form → List ℕ → Found) → Form → Type 0
Parts go s = (u : List ℕ) → Flat (go s u)

members_on_flat : (go : Form → List ℕ → Found) (ss : Forms) (t : List ℕ) → EachForm (Parts go) ss → Flat (members_on go ss t)
members_on_flat go no_form t h = andthen (members_end t) (λ u. Ok (no_val, u)) (members_end_flat t) (λ u. good (no_val, u))
members_on_flat go (then_form s ss) t h =
    andthen (member_at (go s) t) (λ x. with_item x.0 (members_on go ss x.1)) (member_flat (go s) t h.0)
    (λ x. item_row x.0 (members_on go ss x.1) (members_on_flat go ss x.1 h.1))

members_flat : (go : Form → List ℕ → Found) (ss : Forms) (t : List ℕ) → EachForm (Parts go) ss → Flat (members_at go ss t)
members_flat go no_form t h = andthen (opened 125 t) (λ u. Ok (no_val, u)) (opened_flat 125 t) (λ u. good (no_val, u))
members_flat go (then_form s ss) t h =
    choose (heads 125 t) (Err (Kind (length t))) (go s t >>= λ x. with_item x.0 (members_on go ss x.1)) (kind_of (length t) (Err (Kind (length t))) refl)
    (andthen (go s t) (λ x. with_item x.0 (members_on go ss x.1)) (h.0 t) (λ x. item_row x.0 (members_on go ss x.1) (members_on_flat go ss x.1 h.1)))

struct_flat : (go : Form → List ℕ → Found) (ss : Forms) (t : List ℕ) → EachForm (Parts go) ss → Flat (struct_at go ss t)
struct_flat go ss t h =
    andthen (opened 123 t) (λ u. in_struct (members_at go ss u)) (opened_flat 123 t) (λ u. made (members_at go ss u) (λ x. (VStruct x.0, x.1)) (members_flat go ss u h))

element_flat : (go : List ℕ → Found) (may : Bool) (t : List ℕ) → ((u : List ℕ) → Flat (go u)) → Flat (item_at go may t)
element_flat go may t h =
    andthen (next_at may t) (λ u. go u)
    (choose (heads 44 t && not may) (Err (Kind (length t))) (marks (codes ", ") t) (kind_of (length t) (Err (Kind (length t))) refl) (marks_flat (codes ", ") t)) h

none_flat : (b : Bool) (t : List ℕ) → Flat {A = Vals × List ℕ} (closed b t >>= λ u. Ok (no_val, u))
none_flat b t = andthen (closed b t) (λ u. Ok (no_val, u)) (closed_flat b t) (λ u. good (no_val, u))

elements_flat : (n : ℕ) (go : List ℕ → Found) (kind : ArrayKind) (m : ℕ) (t : List ℕ) → ((u : List ℕ) → Flat (go u)) → Flat (items_on n go kind m t)
unfolding items_on
elements_flat zero go kind m t h = syntax (length t) (Err (Syntax (length t))) refl
elements_flat (suc n) go kind m t h =
    choose (heads 93 t) (closed (fits_count kind m) t >>= λ u. Ok (no_val, u)) (item_at go (takes kind m) t >>= λ x. with_item x.0 (items_on n go kind (m + 1) x.1)) (none_flat (fits_count kind m) t)
    (andthen (item_at go (takes kind m) t) (λ x. with_item x.0 (items_on n go kind (m + 1) x.1)) (element_flat go (takes kind m) t h)
    (λ x. item_row x.0 (items_on n go kind (m + 1) x.1) (elements_flat n go kind (m + 1) x.1 h)))

items_flat : (go : List ℕ → Found) (kind : ArrayKind) (t : List ℕ) → ((u : List ℕ) → Flat (go u)) → Flat (items_at go kind t)
items_flat go kind t h =
    let first = andthen (go t) (λ x. with_item x.0 (items_on (length x.1 + 1) go kind 1 x.1)) (h t) (λ x. item_row x.0 (items_on (length x.1 + 1) go kind 1 x.1) (elements_flat (length x.1 + 1) go kind 1 x.1 h)) in
    choose (heads 93 t) (closed (fits_count kind 0) t >>= λ u. Ok (no_val, u)) (if takes kind 0 then (go t >>= λ x. with_item x.0 (items_on (length x.1 + 1) go kind 1 x.1)) else Err (wrong t)) (none_flat (fits_count kind 0) t)
    (choose (takes kind 0) (go t >>= λ x. with_item x.0 (items_on (length x.1 + 1) go kind 1 x.1)) (Err (wrong t)) first (wrong_flat (Vals × List ℕ) t (Err (wrong t)) refl))

array_flat : (go : List ℕ → Found) (kind : ArrayKind) (t : List ℕ) → ((u : List ℕ) → Flat (go u)) → Flat (array_at go kind t)
array_flat go kind t h =
    andthen (opened 91 t) (λ u. in_array (items_at go kind u)) (opened_flat 91 t) (λ u. made (items_at go kind u) (λ x. (VArray x.0, x.1)) (items_flat go kind u h))

empty_flat : (tag : ℤ) (t : List ℕ) → Flat (empty_at tag t)
empty_flat tag t =
    choose (heads 58 t) (Err (Kind (length t))) (mark 41 t >>= λ u. Ok (VEmpty tag, u)) (kind_of (length t) (Err (Kind (length t))) refl) (made (mark 41 t) (λ u. (VEmpty tag, u)) (mark_flat 41 t))

held_flat : (tag : ℤ) (go : List ℕ → Found) (t : List ℕ) → ((u : List ℕ) → Flat (go u)) → Flat (held_at tag go t)
held_flat tag go t h =
    choose (heads 41 t) (Err (Kind (length t))) (marks (codes ": ") t >>= λ u. go u >>= λ x. mark 41 x.1 >>= λ r. Ok (VUnion tag x.0, r)) (kind_of (length t) (Err (Kind (length t))) refl)
    (andthen (marks (codes ": ") t) (λ u. go u >>= λ x. mark 41 x.1 >>= λ r. Ok (VUnion tag x.0, r)) (marks_flat (codes ": ") t)
    (λ u. andthen (go u) (λ x. mark 41 x.1 >>= λ r. Ok (VUnion tag x.0, r)) (h u) (λ x. made (mark 41 x.1) (λ r. (VUnion tag x.0, r)) (mark_flat 41 x.1))))

-- ---- arms

module _ (p : Form → Type 0) (s : Form) where
  body_has : (b : Body) → Some b ≡ Some (holds s) → HasBody p b → p s
  body_has b e h = let same : b ≡ holds s = cc in subst (λ (x : Body). HasBody p x) same h

  either : (c : Bool) (b : Body) (o : Option Body) → (if c then Some b else o) ≡ Some (holds s) → HasBody p b → (o ≡ Some (holds s) → p s) → p s
  either true b o e h go = body_has b e h
  either false b o e h go = go e

  case_has : (arms : ArmForms) (tag : ℤ) → with_case arms tag ≡ Some (holds s) → EachArm p arms → p s
  case_has no_arm tag e h = absurd cc
  case_has (then_arm cases default b rest) tag e h = either (list_any (λ c. int_eq c tag) cases) b (with_case rest tag) e h.0 (λ f. case_has rest tag f h.1)

  default_has : (arms : ArmForms) → with_default arms ≡ Some (holds s) → EachArm p arms → p s
  default_has no_arm e h = absurd cc
  default_has (then_arm cases default b rest) e h = either default b (with_default rest) e h.0 (λ f. default_has rest f h.1)

  chosen_has : (arms : ArmForms) (tag : ℤ) (o : Option Body) → with_case arms tag ≡ o → or_default o arms ≡ Some (holds s) → EachArm p arms → p s
  chosen_has arms tag None is e h = default_has arms e h
  chosen_has arms tag (Some b) is e h = case_has arms tag (let same : Some b ≡ Some (holds s) = e in subst (λ (x : Option Body). with_case arms tag ≡ x) same is) h

  fitting_has : (b : Bool) (arms : ArmForms) (tag : ℤ) → (if b then selected arms tag else None) ≡ Some (holds s) → EachArm p arms → p s
  fitting_has true arms tag e h = chosen_has arms tag (with_case arms tag) refl e h
  fitting_has false arms tag e h = absurd cc

  signed_has : (b : Bool) (t : Form) (arms : ArmForms) (tag : ℤ) → (if b then arm_of (OfUnion t arms) tag else None) ≡ Some (holds s) → EachArm p arms → p s
  signed_has true t arms tag e h = fitting_has (fits_tag t tag) arms tag e h
  signed_has false t arms tag e h = absurd cc

arm_flat : (go : Form → List ℕ → Found) (o : Option Body) (tag : ℤ) (left : ℕ) (t : List ℕ) → ((s : Form) → o ≡ Some (holds s) → Parts go s) → Flat (arm_at o tag left go t)
arm_flat go None tag left t h = range_of left (Err (Range left)) refl
arm_flat go (Some empty) tag left t h = empty_flat tag t
arm_flat go (Some (holds s)) tag left t h = held_flat tag (go s) t (h s refl)

union_flat : (go : Form → List ℕ → Found) (k : Form) (arms : ArmForms) (t : List ℕ) → EachArm (Parts go) arms → Flat (union_at go (OfUnion k arms) t)
union_flat go k arms t h =
    andthen (opened 40 t) (λ u. number_at u >>= λ x. arm_at (arm_by (OfUnion k arms) x.0) (signed x.0) (length u) go x.1) (opened_flat 40 t)
    (λ u. andthen (number_at u) (λ x. arm_at (arm_by (OfUnion k arms) x.0) (signed x.0) (length u) go x.1) (number_flat u)
    (λ x. arm_flat go (arm_by (OfUnion k arms) x.0) (signed x.0) (length u) x.1 (λ s e. signed_has (Parts go) s (is_signed 8 x.0) k arms (signed x.0) e h)))

pointed_flat : (b : Bool) (level : ℕ) (go : List ℕ → Found) (t u : List ℕ) → nat_lt level 256 ≡ b → (level < 256 → (w : List ℕ) → Flat (go w)) → Flat {A = Val × List ℕ} (if b then (go u >>= λ x. Ok (VPtr x.0, x.1)) else Err (Kind (length t)))
pointed_flat true level go t u e h = made (go u) (λ x. (VPtr x.0, x.1)) (h (ltb-true level 256 e) u)
pointed_flat false level go t u e h = kind_of (length t) (Err (Kind (length t))) refl

pointer_flat : (level : ℕ) (go : List ℕ → Found) (t : List ℕ) → (level < 256 → (u : List ℕ) → Flat (go u)) → Flat (pointer_at level go t)
pointer_flat level go t h =
    choose (heads 110 t) (marks (codes "null") t >>= λ u. Ok (VNull, u)) (opened 38 t >>= λ u. if nat_lt level 256 then (go u >>= λ x. Ok (VPtr x.0, x.1)) else Err (Kind (length t))) (word_flat (codes "null") t VNull)
    (andthen (opened 38 t) (λ u. if nat_lt level 256 then (go u >>= λ x. Ok (VPtr x.0, x.1)) else Err (Kind (length t))) (opened_flat 38 t) (λ u. pointed_flat (nat_lt level 256) level go t u refl h))

type_flat : (go : Form → List ℕ → Found) (o : Option Form) (t : List ℕ) → ((s : Form) → o ≡ Some s → Parts go s) → Flat (of_type o t (λ s. go s t))
type_flat go None t h = wrong_flat (Val × List ℕ) t (Err (wrong t)) refl
type_flat go (Some s) t h = h s refl t

-- ---- all shapes

has_form : (p : Form → Type 0) (o : Option Form) (s : Form) → HasForm p o → o ≡ Some s → p s
has_form p o s h e = subst (λ (x : Option Form). HasForm p x) e h

module _ (types : List Form) (are : (c : ℕ) (t : Form) → slice_get types c ≡ Some t → Pointed (IsFew types) t) where
  -- so deep, and what pointers in it point to few
  abbrev Fit : ℕ → Form → Type 0
  Fit d s = Nests types d s × Pointed (IsFew types) s

  each_fit : (d : ℕ) (ss : Forms) → EachForm (Nests types d) ss → EachPointed (IsFew types) ss → EachForm (Fit d) ss
  each_fit d no_form h k = tt
  each_fit d (then_form s ss) h k = ((h.0, k.0), each_fit d ss h.1 k.1)

  body_fit : (d : ℕ) (b : Body) → HasBody (Nests types d) b → BodyPointed (IsFew types) b → HasBody (Fit d) b
  body_fit d empty h k = tt
  body_fit d (holds s) h k = (h, k)

  arms_fit : (d : ℕ) (arms : ArmForms) → EachArm (Nests types d) arms → ArmsPointed (IsFew types) arms → EachArm (Fit d) arms
  arms_fit d no_arm h k = tt
  arms_fit d (then_arm cases default b rest) h k = (body_fit d b h.0 k.0, arms_fit d rest h.1 k.1)

  each_parts : (p q : Form → Type 0) (ss : Forms) → ((s : Form) → p s → q s) → EachForm p ss → EachForm q ss
  each_parts p q no_form f h = tt
  each_parts p q (then_form s ss) f h = (f s h.0, each_parts p q ss f h.1)

  body_parts : (p q : Form → Type 0) (b : Body) → ((s : Form) → p s → q s) → HasBody p b → HasBody q b
  body_parts p q empty f h = tt
  body_parts p q (holds s) f h = f s h

  arms_parts : (p q : Form → Type 0) (arms : ArmForms) → ((s : Form) → p s → q s) → EachArm p arms → EachArm q arms
  arms_parts p q no_arm f h = tt
  arms_parts p q (then_arm cases default b rest) f h = (body_parts p q b f h.0, arms_parts p q rest f h.1)

  -- ih: so it is of each part, d deep, on the same level; and of what a pointer points to, on the next one
  step_flat : (go : ℕ → Form → List ℕ → Found) (d level : ℕ) (s : Form) (t : List ℕ) → nests_at types (Nests types d) s → Pointed (IsFew types) s
      → ((u : Form) → Fit d u → Parts (go level) u) → (level < 256 → (u : Form) → Fit 48 u → Parts (go (level + 1)) u) → Flat (read_at types go level s t)
  step_flat go d level OfBool t h k parts next = bool_flat t
  step_flat go d level OfByte t h k parts next = made (octet_at t) (λ x. (VByte x.0, x.1)) (unsigned_flat (2 ^ 8) t)
  step_flat go d level OfChar t h k parts next = made (unsigned_at (2 ^ 8) t) (λ x. (VChar x.0, x.1)) (unsigned_flat (2 ^ 8) t)
  step_flat go d level (OfInt size) t h k parts next = made (signed_at size t) (λ x. (VInt x.0, x.1)) (signed_flat size t)
  step_flat go d level (OfUint size) t h k parts next = made (unsigned_at (limit size) t) (λ x. (VUint x.0, x.1)) (unsigned_flat (limit size) t)
  step_flat go d level (OfEnum count) t h k parts next = made (unsigned_at count t) (λ x. (VEnum x.0, x.1)) (unsigned_flat count t)
  step_flat go d level (OfNamed c switch) t h k parts next = type_flat (go level) (slice_get types c) t (λ s e. parts s (has_form (Nests types d) (slice_get types c) s h e, are c s e))
  step_flat go d level (OfStruct ss) t h k parts next = struct_flat (go level) ss t (each_parts (Fit d) (Parts (go level)) ss parts (each_fit d ss h k))
  step_flat go d level (OfUnion kind arms) t h k parts next = union_flat (go level) kind arms t (arms_parts (Fit d) (Parts (go level)) arms parts (arms_fit d arms h k))
  step_flat go d level (OfArray kind s) t h k parts next = array_flat (go level s) kind t (parts s (h, k))
  step_flat go d level (OfText most) t h k parts next = made (text_at most t) (λ x. (VText x.0, x.1)) (text_flat most t)
  step_flat go d level (OfRef s) t h k parts next = parts s (h, k) t
  step_flat go d level (OfUnique s) t h k parts next = pointer_flat level (go (level + 1) s) t (λ lt u. next lt s k u)
  step_flat go d level (OfFull s) t h k parts next = full_flat t
  step_flat go d level (OfHandle kind) t h k parts next = handle_flat t

  pub depth_flat : (n d level : ℕ) (s : Form) (t : List ℕ) → level ≤ 256 → d + (256 - level) * 48 ≤ n → Nests types d s → Pointed (IsFew types) s → Flat (read types n level s t)
  unfolding read Nests
  depth_flat n zero level s t lt le h k = absurd h
  depth_flat zero (suc d) level s t lt le h k = absurd (omega (arith, le))
  depth_flat (suc n) (suc d) level s t lt le h k =
      step_flat (read types n) d level s t h k (λ u f v. depth_flat n d level u v lt (omega (arith, le)) f.0 f.1)
      (λ below u f v. depth_flat n 48 (level + 1) u v (omega (arith, below)) (omega (arith, le, below)) f.0 f.1)

pub fuel_suffices : (types : List Form) (s : Form) (text : List ℕ) → IsFlat types s → read types enough 0 s text ≡ Err TooDeep → ⊥
fuel_suffices types s text h = depth_flat types h.types_are enough 48 0 s text (omega arith) (omega arith) h.itself h.pointed
