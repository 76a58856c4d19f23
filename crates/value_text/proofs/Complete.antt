-- What stands at the front of the text is read, unless it nests too deep.
use Rattle.std.proofs.Common.{◌≡◌, ℕ, zero, suc, ◌+◌, ◌^◌, ◌<◌, ◌≤◌, Bool, true, false, List, [], ◌∷◌, ◌++◌, length, Option, Some, None, Result, Ok, Err, refl, ap, subst, ◌∙◌, arith, append_assoc, decimal, length-append}
use Rattle.std.specs.Prelude.{if◌then◌else◌, ◌||◌, ◌==◌, nat_lt, ℤ, pos, negsuc}
use Rattle.std.specs.Fmt.{signed_decimal}
use Rattle.std.specs.List.{flat_map}
use Rattle.std.proofs.lemmas.Bool.{lt-ltb}
use Rattle.std.proofs.lemmas.Bool.Decides.{nat_tests}
use Rattle.ndr_value.specs.declared.shape.ArrayKind.{ArrayKind}
use Rattle.ndr_value.specs.declared.shape.ArrayKind.TheVariants.{Fixed, Varying, Conformant, ConformantVarying}
use Rattle.ndr_value.specs.Forms.{Form, OfUnion, Forms, then_form, ArmForms, Body, empty, holds}
use Rattle.ndr_value.specs.Values.{Val, VBool, VByte, VChar, VInt, VUint, VEnum, VStruct, VEmpty, VUnion, VArray, VText, VNull, VPtr, VFull, VHandle, Vals, no_val, then_val, count_of}
use Rattle.ndr_value.specs.Fits.{limit, fits_int, fits_count, arm_of}
use Rattle.ndr_value.specs.Typed.{Typed, a_bool, a_byte, a_char, an_int, a_uint, an_enum, a_name, a_struct, an_empty_arm, an_arm, an_array, a_text, a_ref, a_null, a_pointer, a_null_full, a_full, a_handle, EachTyped, no_more, one_more, AllTyped, none_left, one_of}
use Rattle.value_text.specs.declared.departure.Departure.{Departure}
use Rattle.value_text.specs.declared.departure.Departure.TheVariants.{Kind, TooDeep}
use Rattle.value_text.specs.Bind.{◌>>=◌}
use Rattle.value_text.specs.Texts.{value_text, list_text, more_text, char_text, Sized, AllSized, is_small}
use Rattle.value_text.specs.Marks.{is_digit, heads, heads_digit, mark}
use Rattle.value_text.specs.Numbers.{number_at, signed}
use Rattle.value_text.specs.Quoted.{text_at}
use Rattle.value_text.specs.Reading.{Found, of_type, takes, with_item, members_on, members_at, items_on, items_at, arm_by, arm_at, union_at, read_at, read}
use Rattle.value_text.specs.Stands.{ends_in_number}
use Rattle.value_text.proofs.Steps.{through}
use Rattle.value_text.proofs.Numerals.{unsigned_on, signed_on, index_on, number_on, numeral_of, numeral_signed, is_signed_of, heads_no, heads_decimal}
use Rattle.value_text.proofs.Quotes.{text_on}

-- the reading is y, or as many levels are too few
pub data Outcome {A : Type 0} (r : Result A Departure) (y : A) (n d : ℕ) : Type 0 where
  reads : r ≡ Ok y → Outcome r y n d
  too_deep : r ≡ Err TooDeep → n < d → Outcome r y n d

moved : {A : Type 0} (r s : Result A Departure) (y : A) (n d : ℕ) → r ≡ s → Outcome s y n d → Outcome r y n d
moved r s y n d e (reads h) = reads (e ∙ h)
moved r s y n d e (too_deep h lt) = too_deep (e ∙ h) lt

lift : {A : Type 0} (r : Result A Departure) (y : A) (n d e : ℕ) → d ≤ e → Outcome r y n d → Outcome r y n e
lift r y n d e le (reads h) = reads h
lift r y n d e le (too_deep h lt) = too_deep h (omega (arith, le, lt))

up : {A : Type 0} (r : Result A Departure) (y : A) (n d : ℕ) → Outcome r y n d → Outcome r y (suc n) (suc d)
up r y n d (reads h) = reads h
up r y n d (too_deep h lt) = too_deep h (omega (arith, lt))

andthen : {A B : Type 0} (r : Result A Departure) (f : A → Result B Departure) (x : A) (y : B) (n d e : ℕ) → d ≤ e → Outcome r x n d → Outcome (f x) y n e → Outcome (r >>= f) y n e
andthen r f x y n d e le (reads h) o = moved (r >>= f) (f x) y n e (through r f x h) o
andthen r f x y n d e le (too_deep h lt) o = too_deep (ap (λ s. s >>= f) h) (omega (arith, le, lt))

-- ---- what follows a value in a list begins with no digit

after_item : (vs : Vals) (c : ℕ) (rest : List ℕ) → is_digit c ≡ false → heads_digit (more_text vs ++ (c ∷ rest)) ≡ false
unfolding value_text
after_item no_val c rest h = h
after_item (then_val v vs) c rest h = refl

more_long : (vs : Vals) → count_of vs ≤ length (more_text vs)
unfolding value_text
more_long no_val = omega arith
more_long (then_val v vs) =
    let h = more_long vs in
    let l = length-append (value_text v) (more_text vs) in
    omega (arith, h, l)

abbrev is_closing : ℕ → Bool
is_closing c = (c == 125) || (c == 93)

closing_no : (c : ℕ) → is_closing c ≡ true → is_digit c ≡ false
closing_no c h = grind (arith, nat_tests)

-- a value's text begins with no closing sign
no_sign : (v : Val) (u : List ℕ) (c : ℕ) → is_closing c ≡ true → Sized v → heads c (value_text v ++ u) ≡ false
unfolding value_text Sized
no_sign (VBool true) u c h z = grind (arith, nat_tests)
no_sign (VBool false) u c h z = grind (arith, nat_tests)
no_sign (VByte n) u c h z = heads_no c (decimal n ++ u) (heads_decimal n u (omega (arith, z))) (closing_no c h)
no_sign (VChar n) u c h z = heads_no c (decimal n ++ u) (heads_decimal n u (omega (arith, z))) (closing_no c h)
no_sign (VInt (pos n)) u c h z = heads_no c (decimal n ++ u) (heads_decimal n u z) (closing_no c h)
no_sign (VInt (negsuc n)) u c h z = grind (arith, nat_tests)
no_sign (VUint n) u c h z = heads_no c (decimal n ++ u) (heads_decimal n u z) (closing_no c h)
no_sign (VEnum n) u c h z = heads_no c (decimal n ++ u) (heads_decimal n u z) (closing_no c h)
no_sign (VStruct vs) u c h z = grind (arith, nat_tests)
no_sign (VEmpty tag) u c h z = grind (arith, nat_tests)
no_sign (VUnion tag v) u c h z = grind (arith, nat_tests)
no_sign (VArray vs) u c h z = grind (arith, nat_tests)
no_sign (VText text) u c h z = grind (arith, nat_tests)
no_sign VNull u c h z = grind (arith, nat_tests)
no_sign (VPtr v) u c h z = grind (arith, nat_tests)
no_sign (VFull None) u c h z = grind (arith, nat_tests)
no_sign (VFull (Some n)) u c h z = grind (arith, nat_tests)
no_sign (VHandle slot) u c h z = grind (arith, nat_tests)

takes_of : (kind : ArrayKind) (m c : ℕ) → fits_count kind (m + suc c) ≡ true → takes kind m ≡ true
takes_of (Fixed n) m c h = grind (arith, nat_tests)
takes_of (Varying n _) m c h = grind (arith, nat_tests)
takes_of (Conformant _) m c h = grind (arith, nat_tests)
takes_of (ConformantVarying _ _) m c h = grind (arith, nat_tests)

module _ (types : List Form) (heap : ℕ) where
  -- how many levels are needed behind the first
  abbrev mutual
    pub inside : {level : ℕ} {s : Form} {v : Val} → Typed types heap level s v → ℕ
    inside (a_name e t) = suc (inside t)
    inside (a_struct ts) = each_inside ts
    inside (an_arm e t) = suc (inside t)
    inside (an_array e ts) = all_inside ts
    inside (a_ref t) = suc (inside t)
    inside (a_pointer few t) = suc (inside t)
    inside _ = 0

    pub each_inside : {level : ℕ} {ss : Forms} {vs : Vals} → EachTyped types heap level ss vs → ℕ
    each_inside no_more = 0
    each_inside (one_more t ts) = suc (inside t) + each_inside ts

    pub all_inside : {level : ℕ} {s : Form} {vs : Vals} → AllTyped types heap level s vs → ℕ
    all_inside none_left = 0
    all_inside (one_of t ts) = suc (inside t) + all_inside ts

  abbrev At : ℕ → ℕ → Form → Val → List ℕ → ℕ → Type 0
  At k level s v rest d = Outcome (read_at types (read types k) level s (value_text v ++ rest)) (v, rest) k d

  whole_at : (level : ℕ) (s : Form) (v : Val) (rest : List ℕ) (d : ℕ) → ((k : ℕ) → At k level s v rest d) → (n : ℕ) → Outcome (read types n level s (value_text v ++ rest)) (v, rest) n (suc d)
  unfolding read
  whole_at level s v rest d f zero = too_deep refl (omega arith)
  whole_at level s v rest d f (suc n) = up _ _ n d (f n)

  abbrev pub Follows : Val → List ℕ → Type 0
  Follows v rest = ends_in_number v ≡ true → heads_digit rest ≡ false

  arm_is : (k : Form) (arms : ArmForms) (tag : ℤ) (o : Option Body) → fits_int 8 tag ≡ true → arm_of (OfUnion k arms) tag ≡ o → arm_by (OfUnion k arms) (numeral_of tag) ≡ o
  arm_is k arms tag o fits e =
      ap (λ (b : Bool). if b then arm_of (OfUnion k arms) (signed (numeral_of tag)) else None) (is_signed_of 8 tag fits) ∙ (ap (λ (z : ℤ). arm_of (OfUnion k arms) z) (numeral_signed tag) ∙ e)

  -- a union up to its tag
  tagged : (go : Form → List ℕ → Found) (k : Form) (arms : ArmForms) (tag : ℤ) (o : Option Body) (u : List ℕ) → fits_int 8 tag ≡ true → is_small tag → arm_of (OfUnion k arms) tag ≡ o → heads_digit u ≡ false
      → union_at go (OfUnion k arms) (40 ∷ (signed_decimal tag ++ u)) ≡ arm_at o tag (length (signed_decimal tag ++ u)) go u
  tagged go k arms tag o u fits little e h =
      let s = OfUnion k arms in
      let t = signed_decimal tag ++ u in
      through (number_at t) (λ x. arm_at (arm_by s x.0) (signed x.0) (length t) go x.1) (numeral_of tag, u) (number_on tag u little h)
      ∙ (ap (λ (z : ℤ). arm_at (arm_by s (numeral_of tag)) z (length t) go u) (numeral_signed tag) ∙ ap (λ (b : Option Body). arm_at b tag (length t) go u) (arm_is k arms tag o fits e))

  mutual
    unfolding value_text Sized items_on

    complete_at : {level : ℕ} {s : Form} {v : Val} (t : Typed types heap level s v) (rest : List ℕ) → Sized v → Follows v rest → (k : ℕ) → At k level s v rest (inside t)
    complete_at (a_bool {b = true}) rest z f k = reads refl
    complete_at (a_bool {b = false}) rest z f k = reads refl
    complete_at (a_byte {n = n}) rest z f k = reads (ap (λ (r : Result (ℕ × List ℕ) Departure). r >>= λ x. Ok (VByte x.0, x.1)) (unsigned_on (2 ^ 8) n rest z (omega (arith, z)) (f refl)))
    complete_at (a_char {n = n}) rest z f k = reads (ap (λ (r : Result (ℕ × List ℕ) Departure). r >>= λ x. Ok (VChar x.0, x.1)) (unsigned_on (2 ^ 8) n rest z (omega (arith, z)) (f refl)))
    complete_at (an_int {size = size} {z = i} e) rest z f k = reads (ap (λ (r : Result (ℤ × List ℕ) Departure). r >>= λ x. Ok (VInt x.0, x.1)) (signed_on size i rest e z (f refl)))
    complete_at (a_uint {size = size} {n = n} e) rest z f k = reads (ap (λ (r : Result (ℕ × List ℕ) Departure). r >>= λ x. Ok (VUint x.0, x.1)) (unsigned_on (limit size) n rest e z (f refl)))
    complete_at (an_enum {count = count} {n = n} e) rest z f k = reads (ap (λ (r : Result (ℕ × List ℕ) Departure). r >>= λ x. Ok (VEnum x.0, x.1)) (unsigned_on count n rest e z (f refl)))
    complete_at (a_name {level = level} {s = s} {v = v} e t) rest z f k =
        moved _ (read types k level s (value_text v ++ rest)) _ k _ (ap (λ (o : Option Form). of_type o (value_text v ++ rest) (λ u. read types k level u (value_text v ++ rest))) e) (whole_at _ _ _ rest (inside t) (λ j. complete_at t rest z f j) k)
    complete_at (a_struct {level = level} {ss = ss} {vs = vs} ts) rest z f k =
        let go = read types k level in
        let assoc = append_assoc (list_text vs) (125 ∷ []) rest in
        andthen (members_at go ss ((list_text vs ++ 125 ∷ []) ++ rest)) (λ x. Ok (VStruct x.0, x.1)) (vs, rest) _ k _ _ (omega arith)
        (moved _ (members_at go ss (list_text vs ++ (125 ∷ rest))) _ k _ (ap (λ (u : List ℕ). members_at go ss u) assoc) (members_all ts rest z k)) (reads refl)
    complete_at (an_empty_arm {level = level} {t = kind} {arms = arms} {tag = tag} e) rest z f k =
        let assoc = append_assoc (signed_decimal tag) (41 ∷ []) rest in
        moved _ (union_at (read types k level) (OfUnion kind arms) (40 ∷ (signed_decimal tag ++ (41 ∷ rest)))) _ k _ (ap (λ (u : List ℕ). union_at (read types k level) (OfUnion kind arms) (40 ∷ u)) assoc)
        (reads (tagged (read types k level) kind arms tag (Some empty) (41 ∷ rest) z.0 z.1 e refl))
    complete_at (an_arm {level = level} {t = kind} {s = s} {arms = arms} {tag = tag} {v = v} e t) rest z f k =
        let go = read types k level in
        let inner = 58 ∷ 32 ∷ (value_text v ++ 41 ∷ []) in
        let assoc = append_assoc (signed_decimal tag) inner rest in
        let near = append_assoc (value_text v) (41 ∷ []) rest in
        let whole = ap (λ (u : List ℕ). union_at go (OfUnion kind arms) (40 ∷ u)) assoc ∙ tagged go kind arms tag (Some (holds s)) (inner ++ rest) z.0.0 z.0.1 e refl in
        moved _ (arm_at (Some (holds s)) tag (length (signed_decimal tag ++ (inner ++ rest))) go (inner ++ rest)) _ k _ whole
        (andthen (go s ((value_text v ++ 41 ∷ []) ++ rest)) (λ y. mark 41 y.1 >>= λ r. Ok (VUnion tag y.0, r)) (v, 41 ∷ rest) _ k _ _ (omega arith)
        (moved _ (go s (value_text v ++ (41 ∷ rest))) _ k _ (ap (λ (u : List ℕ). go s u) near) (whole_at _ _ _ (41 ∷ rest) (inside t) (λ j. complete_at t (41 ∷ rest) z.1 (λ _. refl) j) k)) (reads refl))
    complete_at (an_array {level = level} {kind = kind} {s = s} {vs = vs} e ts) rest z f k =
        let go = read types k level s in
        let assoc = append_assoc (list_text vs) (93 ∷ []) rest in
        andthen (items_at go kind ((list_text vs ++ 93 ∷ []) ++ rest)) (λ x. Ok (VArray x.0, x.1)) (vs, rest) _ k _ _ (omega arith)
        (moved _ (items_at go kind (list_text vs ++ (93 ∷ rest))) _ k _ (ap (λ (u : List ℕ). items_at go kind u) assoc) (items_all ts kind rest z e k)) (reads refl)
    complete_at (a_text {most = most} {text = text} e g) rest z f k =
        let assoc = append_assoc (flat_map char_text text) (34 ∷ []) rest in
        reads (ap (λ (r : Result (List ℕ × List ℕ) Departure). r >>= λ x. Ok (VText x.0, x.1)) (ap (λ (u : List ℕ). text_at most (34 ∷ u)) assoc ∙ text_on most text rest z e g))
    complete_at (a_ref {level = level} {s = s} {v = v} t) rest z f k = whole_at _ _ _ rest (inside t) (λ j. complete_at t rest z f j) k
    complete_at a_null rest z f k = reads refl
    complete_at (a_pointer {level = level} {s = s} {v = v} few t) rest z f k =
        let b : nat_lt level 256 ≡ true = lt-ltb level 256 few in
        let l : level + 1 ≡ suc level = omega arith in
        let u = value_text v ++ rest in
        moved _ (read types k (suc level) s u >>= λ x. Ok (VPtr x.0, x.1)) _ k _ (ap (λ (q : Bool). if q then (read types k (level + 1) s u >>= λ x. Ok (VPtr x.0, x.1)) else Err (Kind (length (38 ∷ u)))) b ∙ ap (λ (j : ℕ). read types k j s u >>= λ x. Ok (VPtr x.0, x.1)) l)
        (andthen (read types k (suc level) s u) (λ x. Ok (VPtr x.0, x.1)) (v, rest) _ k _ _ (omega arith) (whole_at _ _ _ rest (inside t) (λ j. complete_at t rest z f j) k) (reads refl))
    complete_at a_null_full rest z f k = reads refl
    complete_at (a_full {item = n} e) rest z f k = reads (ap (λ (r : Result (ℕ × List ℕ) Departure). r >>= λ x. Ok (VFull (Some x.0), x.1)) (index_on (2 ^ 32) n rest z (omega (arith, z)) (f refl)))
    complete_at (a_handle {slot = n}) rest z f k = reads (ap (λ (r : Result (ℕ × List ℕ) Departure). r >>= λ x. Ok (VHandle x.0, x.1)) (index_on (2 ^ 8) n rest z (omega (arith, z)) (f refl)))

    members_more : {level : ℕ} {ss : Forms} {vs : Vals} (ts : EachTyped types heap level ss vs) (rest : List ℕ) → AllSized vs → (k : ℕ) → Outcome (members_on (read types k level) ss (more_text vs ++ (125 ∷ rest))) (vs, rest) k (each_inside ts)
    members_more no_more rest z k = reads refl
    members_more (one_more {level = level} {s = s} {v = v} {ss = ss} {vs = vs} t ts) rest z k =
        let go = read types k level in
        let after = more_text vs ++ (125 ∷ rest) in
        let assoc = append_assoc (value_text v) (more_text vs) (125 ∷ rest) in
        andthen (go s ((value_text v ++ more_text vs) ++ (125 ∷ rest))) (λ x. with_item x.0 (members_on go ss x.1)) (v, after) _ k (suc (inside t)) _ (omega arith)
        (moved _ (go s (value_text v ++ after)) _ k _ (ap (λ (u : List ℕ). go s u) assoc) (whole_at _ _ _ after (inside t) (λ j. complete_at t after z.0 (λ _. after_item vs 125 rest refl) j) k))
        (andthen (members_on go ss after) (λ y. Ok (then_val v y.0, y.1)) (vs, rest) _ k (each_inside ts) _ (omega arith) (members_more ts rest z.1 k) (reads refl))

    members_all : {level : ℕ} {ss : Forms} {vs : Vals} (ts : EachTyped types heap level ss vs) (rest : List ℕ) → AllSized vs → (k : ℕ) → Outcome (members_at (read types k level) ss (list_text vs ++ (125 ∷ rest))) (vs, rest) k (each_inside ts)
    members_all no_more rest z k = reads refl
    members_all (one_more {level = level} {s = s} {v = v} {ss = ss} {vs = vs} t ts) rest z k =
        let go = read types k level in
        let after = more_text vs ++ (125 ∷ rest) in
        let assoc = append_assoc (value_text v) (more_text vs) (125 ∷ rest) in
        let shut = no_sign v (more_text vs ++ (125 ∷ rest)) 125 refl z.0 in
        moved _ (go s (value_text v ++ after) >>= λ x. with_item x.0 (members_on go ss x.1)) _ k _ (ap (λ (u : List ℕ). members_at go (then_form s ss) u) assoc ∙ rw shut refl)
        (andthen (go s (value_text v ++ after)) (λ x. with_item x.0 (members_on go ss x.1)) (v, after) _ k (suc (inside t)) _ (omega arith) (whole_at _ _ _ after (inside t) (λ j. complete_at t after z.0 (λ _. after_item vs 125 rest refl) j) k)
        (andthen (members_on go ss after) (λ y. Ok (then_val v y.0, y.1)) (vs, rest) _ k (each_inside ts) _ (omega arith) (members_more ts rest z.1 k) (reads refl)))

    items_more : {level : ℕ} {s : Form} {vs : Vals} (ts : AllTyped types heap level s vs) (kind : ArrayKind) (many m : ℕ) (rest : List ℕ) → AllSized vs → count_of vs < many → fits_count kind (m + count_of vs) ≡ true → (k : ℕ)
        → Outcome (items_on many (read types k level s) kind m (more_text vs ++ (93 ∷ rest))) (vs, rest) k (all_inside ts)
    items_more ts kind zero m rest z lt e k = absurd (omega arith)
    items_more none_left kind (suc many) m rest z lt e k =
        let j : m + 0 ≡ m = omega arith in
        let g = subst (λ (i : ℕ). fits_count kind i ≡ true) j e in
        reads (rw g refl)
    items_more (one_of {level = level} {s = s} {v = v} {vs = vs} t ts) kind (suc many) m rest z lt e k =
        let go = read types k level s in
        let after = more_text vs ++ (93 ∷ rest) in
        let assoc = append_assoc (value_text v) (more_text vs) (93 ∷ rest) in
        let g = takes_of kind m (count_of vs) e in
        let j : m + suc (count_of vs) ≡ m + 1 + count_of vs = omega arith in
        moved _ (go (value_text v ++ after) >>= λ x. with_item x.0 (items_on many go kind (m + 1) x.1)) _ k _ (rw g (ap (λ (u : List ℕ). go u >>= λ x. with_item x.0 (items_on many go kind (m + 1) x.1)) assoc))
        (andthen (go (value_text v ++ after)) (λ x. with_item x.0 (items_on many go kind (m + 1) x.1)) (v, after) _ k (suc (inside t)) _ (omega arith) (whole_at _ _ _ after (inside t) (λ j. complete_at t after z.0 (λ _. after_item vs 93 rest refl) j) k)
        (andthen (items_on many go kind (m + 1) after) (λ y. Ok (then_val v y.0, y.1)) (vs, rest) _ k (all_inside ts) _ (omega arith)
        (items_more ts kind many (m + 1) rest z.1 (omega (arith, lt)) (subst (λ (i : ℕ). fits_count kind i ≡ true) j e) k) (reads refl)))

    items_all : {level : ℕ} {s : Form} {vs : Vals} (ts : AllTyped types heap level s vs) (kind : ArrayKind) (rest : List ℕ) → AllSized vs → fits_count kind (count_of vs) ≡ true → (k : ℕ)
        → Outcome (items_at (read types k level s) kind (list_text vs ++ (93 ∷ rest))) (vs, rest) k (all_inside ts)
    items_all none_left kind rest z e k = reads (rw e refl)
    items_all (one_of {level = level} {s = s} {v = v} {vs = vs} t ts) kind rest z e k =
        let go = read types k level s in
        let after = more_text vs ++ (93 ∷ rest) in
        let assoc = append_assoc (value_text v) (more_text vs) (93 ∷ rest) in
        let shut = no_sign v (more_text vs ++ (93 ∷ rest)) 93 refl z.0 in
        let j : suc (count_of vs) ≡ 0 + suc (count_of vs) = omega arith in
        let i : suc (count_of vs) ≡ 1 + count_of vs = omega arith in
        let g = takes_of kind 0 (count_of vs) (subst (λ (c : ℕ). fits_count kind c ≡ true) j e) in
        let l = length-append (more_text vs) (93 ∷ rest) in
        let h = more_long vs in
        moved _ (go (value_text v ++ after) >>= λ x. with_item x.0 (items_on (length x.1 + 1) go kind 1 x.1)) _ k _ (ap (λ (u : List ℕ). items_at go kind u) assoc ∙ rw (shut, g) refl)
        (andthen (go (value_text v ++ after)) (λ x. with_item x.0 (items_on (length x.1 + 1) go kind 1 x.1)) (v, after) _ k (suc (inside t)) _ (omega arith) (whole_at _ _ _ after (inside t) (λ j. complete_at t after z.0 (λ _. after_item vs 93 rest refl) j) k)
        (andthen (items_on (length after + 1) go kind 1 after) (λ y. Ok (then_val v y.0, y.1)) (vs, rest) _ k (all_inside ts) _ (omega arith)
        (items_more ts kind (length after + 1) 1 rest z.1 (omega (arith, l, h)) (subst (λ (c : ℕ). fits_count kind c ≡ true) i e) k) (reads refl)))

  pub complete : {level : ℕ} {s : Form} {v : Val} (t : Typed types heap level s v) (rest : List ℕ) → Sized v → Follows v rest → (n : ℕ) → Outcome (read types n level s (value_text v ++ rest)) (v, rest) n (suc (inside t))
  complete {level} {s} {v} t rest z f n = whole_at level s v rest (inside t) (complete_at t rest z f) n
