-- The text of a value without handles stands as it is, and what follows it has the names that it has.
use Rattle.std.proofs.Common.{◌≡◌, ◌≢◌, ℕ, zero, suc, ◌/◌, ◌%◌, ◌==◌, Bool, true, false, List, [], ◌∷◌, ◌++◌, get_or, Some, None, refl, ap, sym, ◌∙◌, subst, append_assoc, arith, codes, decimal}
use Rattle.std.specs.Prelude.{not, ◌&&◌, if◌then◌else◌, ℤ, pos, negsuc}
use Rattle.std.specs.List.{list_all, flat_map}
use Rattle.std.specs.Fmt.{signed_decimal, digits, digits_onto, digit_glyph}
use Rattle.std.proofs.lemmas.Bool.{and_parts}
use Rattle.std.proofs.lemmas.List.Elements.{All-cons, All-head, All-tail}
use Rattle.hex.specs.Hex.{encode_lower, encode_with, lower_digits}
use Rattle.rpc_base.specs.declared.identifiers.WireHandle.{WireHandle}
use Rattle.base_words.specs.Reads.{HasNo}
use Rattle.ndr_value.specs.Values.{Val, VBool, VByte, VChar, VInt, VUint, VEnum, VStruct, VEmpty, VUnion, VArray, VText, VNull, VPtr, VFull, VHandle, Vals, no_val, then_val}
use Rattle.value_text.specs.Marks.{heads_digit}
use Rattle.value_text.specs.Texts.{value_text, list_text, more_text, char_text, is_plain}
use Rattle.value_text.proofs.Steps.{passes-at}
use Rattle.client_texts.specs.Handles.{name, has_name}
use Rattle.client_texts.specs.Heaps.{heap_text}
use Rattle.client_texts.specs.Texts.{NamedFrom, row_text}
use Rattle.client_texts.specs.Texts.NamedFrom.{the_end, handle, quoted, other}
use Rattle.client_texts.proofs.Slots.{Below, AllBelow}
use Rattle.text_laws.specs.Requests.{HaveNames}

-- ---- octets that are neither a handle's sign nor a quote

abbrev calm : ℕ → Bool
calm c = not (c == 36) && not (c == 34)

no_sign : (c : ℕ) → calm c ≡ true → c ≢ 36
no_sign c h = λ e. let f : calm 36 ≡ true = ap calm (sym e) ∙ h in absurd cc

no_quote : (c : ℕ) → calm c ≡ true → c ≢ 34
no_quote c h = λ e. let f : calm 34 ≡ true = ap calm (sym e) ∙ h in absurd cc

abbrev glyph_is : ℕ → Bool
glyph_is d = calm (digit_glyph false d)

glyph_calm : (n : ℕ) → calm (digit_glyph false (n % 10)) ≡ true
glyph_calm n = passes-at glyph_is 10 (n % 10) refl (omega arith)

both : (a b : Bool) → a ≡ true → b ≡ true → (a && b) ≡ true
both a b h k = rw (h, k) refl

onto_by : (b : Bool) (x y : List ℕ) → list_all calm x ≡ true → list_all calm y ≡ true → list_all calm (if b then x else y) ≡ true
onto_by true x y h k = h
onto_by false x y h k = k

onto_calm : (k n : ℕ) (acc : List ℕ) → list_all calm acc ≡ true → list_all calm (digits_onto k 10 false n acc) ≡ true
onto_calm zero n acc h = h
onto_calm (suc k) n acc h =
    let one = both (calm (digit_glyph false (n % 10))) (list_all calm acc) (glyph_calm n) h in
    onto_by (n / 10 == 0) (digit_glyph false (n % 10) ∷ acc) (digits_onto k 10 false (n / 10) (digit_glyph false (n % 10) ∷ acc)) one (onto_calm k (n / 10) (digit_glyph false (n % 10) ∷ acc) one)

decimal_calm : (n : ℕ) → list_all calm (decimal n) ≡ true
unfolding digits
decimal_calm n = onto_calm 64 n [] refl

signed_calm : (z : ℤ) → list_all calm (signed_decimal z) ≡ true
signed_calm (pos n) = decimal_calm n
signed_calm (negsuc n) = decimal_calm (suc n)

-- ---- texts in quotes

abbrev IsNo : ℕ → Type 0
IsNo c = c ≢ 34

none_no : HasNo 34 []
none_no k d lt = absurd (omega (arith, lt))

free_append : (xs ys : List ℕ) → HasNo 34 xs → HasNo 34 ys → HasNo 34 (xs ++ ys)
free_append [] ys h k = k
free_append (x ∷ xs) ys h k = All-cons IsNo x (xs ++ ys) (All-head IsNo x xs h) (free_append xs ys (All-tail IsNo x xs h) k)

get_free : (xs : List ℕ) (i : ℕ) → list_all calm xs ≡ true → get_or xs i 0 ≢ 34
get_free [] i h = λ e. omega (arith, e)
get_free (x ∷ xs) zero h = no_quote x (and_parts (calm x) (list_all calm xs) h).0
get_free (x ∷ xs) (suc i) h = get_free xs i (and_parts (calm x) (list_all calm xs) h).1

hex_free : (i : ℕ) → get_or lower_digits i 0 ≢ 34
hex_free i = get_free lower_digits i refl

plain_free : (c : ℕ) → is_plain c ≡ true → c ≢ 34
plain_free c h = λ e. let f : is_plain 34 ≡ true = ap is_plain (sym e) ∙ h in absurd cc

char_by : (b : Bool) (c : ℕ) → is_plain c ≡ b → HasNo 34 (char_text c)
unfolding char_text encode_with
char_by true c e = rw e (All-cons IsNo c [] (plain_free c e) none_no)
char_by false c e =
    rw e (All-cons IsNo 92 (120 ∷ encode_lower (c ∷ [])) (λ f. omega (arith, f)) (All-cons IsNo 120 (encode_lower (c ∷ [])) (λ f. omega (arith, f))
    (All-cons IsNo (get_or lower_digits (c / 16) 0) (get_or lower_digits (c % 16) 0 ∷ []) (hex_free (c / 16)) (All-cons IsNo (get_or lower_digits (c % 16) 0) [] (hex_free (c % 16)) none_no))))

chars_free : (text : List ℕ) → HasNo 34 (flat_map char_text text)
chars_free [] = none_no
chars_free (c ∷ text) = free_append (char_text c) (flat_map char_text text) (char_by (is_plain c) c refl) (chars_free text)

-- ---- values without handles

abbrev pub Reads : List WireHandle → ℕ → List WireHandle → List ℕ → Type 0
Reads known k ws t = (b : List ℕ) × NamedFrom known k ws t b

module _ (known : List WireHandle) (k : ℕ) (ws : List WireHandle) where
  abbrev Has : List ℕ → Type 0
  Has t = Reads known k ws t

  pub others : (xs rest : List ℕ) → list_all calm xs ≡ true → Has rest → Has (xs ++ rest)
  others [] rest h n = n
  others (x ∷ xs) rest h n =
      let p = and_parts (calm x) (list_all calm xs) h in
      let m = others xs rest p.1 n in
      (x ∷ m.0, other k ws x (xs ++ rest) m.0 (no_sign x p.0) (no_quote x p.0) m.1)

  -- with calm octets in front
  pub front : (a x rest : List ℕ) → list_all calm a ≡ true → Has (x ++ rest) → Has ((a ++ x) ++ rest)
  front a x rest h n = subst Has (sym (append_assoc a x rest)) (others a (x ++ rest) h n)

  -- and with calm octets after
  pub back : (x a rest : List ℕ) → Has (x ++ (a ++ rest)) → Has ((x ++ a) ++ rest)
  back x a rest n = subst Has (sym (append_assoc x a rest)) n

  quoted_names : (inside rest : List ℕ) → HasNo 34 inside → Has rest → Has (34 ∷ ((inside ++ 34 ∷ []) ++ rest))
  quoted_names inside rest free n =
      subst Has (ap (λ (x : List ℕ). 34 ∷ x) (sym (append_assoc inside (34 ∷ []) rest))) (34 ∷ inside ++ 34 ∷ n.0, quoted k ws inside rest n.0 free n.1)

  mutual
    unfolding value_text

    pub value_reads : (v : Val) (rest : List ℕ) → Below 0 v → Has rest → Has (value_text v ++ rest)
    value_reads (VBool true) rest b n = others (codes "true") rest refl n
    value_reads (VBool false) rest b n = others (codes "false") rest refl n
    value_reads (VByte m) rest b n = others (decimal m) rest (decimal_calm m) n
    value_reads (VChar m) rest b n = others (decimal m) rest (decimal_calm m) n
    value_reads (VInt z) rest b n = others (signed_decimal z) rest (signed_calm z) n
    value_reads (VUint m) rest b n = others (decimal m) rest (decimal_calm m) n
    value_reads (VEnum m) rest b n = others (decimal m) rest (decimal_calm m) n
    value_reads (VStruct vs) rest b n = front (codes "{") (list_text vs ++ codes "}") rest refl (back (list_text vs) (codes "}") rest (list_reads vs (125 ∷ rest) b (others (codes "}") rest refl n)))
    value_reads (VEmpty tag) rest b n =
        front (codes "(") (signed_decimal tag ++ codes ")") rest refl (back (signed_decimal tag) (codes ")") rest (others (signed_decimal tag) (41 ∷ rest) (signed_calm tag) (others (codes ")") rest refl n)))
    value_reads (VUnion tag v) rest b n =
        front (codes "(") (signed_decimal tag ++ (codes ": " ++ (value_text v ++ codes ")"))) rest refl
        (front (signed_decimal tag) (codes ": " ++ (value_text v ++ codes ")")) rest (signed_calm tag)
        (front (codes ": ") (value_text v ++ codes ")") rest refl (back (value_text v) (codes ")") rest (value_reads v (41 ∷ rest) b (others (codes ")") rest refl n)))))
    value_reads (VArray vs) rest b n = front (codes "[") (list_text vs ++ codes "]") rest refl (back (list_text vs) (codes "]") rest (list_reads vs (93 ∷ rest) b (others (codes "]") rest refl n)))
    value_reads (VText text) rest b n = quoted_names (flat_map char_text text) rest (chars_free text) n
    value_reads VNull rest b n = others (codes "null") rest refl n
    value_reads (VPtr v) rest b n = front (codes "&") (value_text v) rest refl (value_reads v rest b n)
    value_reads (VFull None) rest b n = others (codes "null") rest refl n
    value_reads (VFull (Some m)) rest b n = front (codes "@") (decimal m) rest refl (others (decimal m) rest (decimal_calm m) n)
    value_reads (VHandle j) rest b n = absurd (omega (arith, b))

    pub list_reads : (vs : Vals) (rest : List ℕ) → AllBelow 0 vs → Has rest → Has (list_text vs ++ rest)
    list_reads no_val rest b n = n
    list_reads (then_val v vs) rest b n = back (value_text v) (more_text vs) rest (value_reads v (more_text vs ++ rest) b.0 (more_reads vs rest b.1 n))

    more_reads : (vs : Vals) (rest : List ℕ) → AllBelow 0 vs → Has rest → Has (more_text vs ++ rest)
    more_reads no_val rest b n = n
    more_reads (then_val v vs) rest b n =
        front (codes ", ") (value_text v ++ more_text vs) rest refl (back (value_text v) (more_text vs) rest (value_reads v (more_text vs ++ rest) b.0 (more_reads vs rest b.1 n)))

-- ---- rows of values, each a handle with the next place or without handles

pub data Placed : ℕ → List WireHandle → Vals → Type 0 where
  no_place : {k : ℕ} → Placed k [] no_val
  own_place : {k : ℕ} {w : WireHandle} {ws : List WireHandle} {vs : Vals} → Placed (suc k) ws vs → Placed k (w ∷ ws) (then_val (VHandle k) vs)
  without : {k : ℕ} {ws : List WireHandle} {v : Val} {vs : Vals} → Below 0 v → Placed k ws vs → Placed k ws (then_val v vs)

more_stops : (vs : Vals) (rest : List ℕ) → heads_digit rest ≡ false → heads_digit (more_text vs ++ rest) ≡ false
unfolding value_text
more_stops no_val rest h = h
more_stops (then_val v vs) rest h = refl

handle_reads : (known : List WireHandle) (k : ℕ) (w : WireHandle) (ws : List WireHandle) (rest : List ℕ) → has_name known w ≡ true → heads_digit rest ≡ false → Reads known (suc k) ws rest → Reads known k (w ∷ ws) (value_text (VHandle k) ++ rest)
unfolding value_text
handle_reads known k w ws rest has stops n = (36 ∷ name known w ++ n.0, handle k w ws rest n.0 has stops n.1)

-- the rest of a row, with what stands in brackets behind it
more_placed : (known : List WireHandle) (k : ℕ) (ws : List WireHandle) (vs : Vals) (rest : List ℕ) → Placed k ws vs → HaveNames known ws → heads_digit rest ≡ false → ((j : ℕ) → Reads known j [] rest) → Reads known k ws (more_text vs ++ rest)
unfolding value_text
more_placed known k ws vs rest (no_place) has stops n = n k
more_placed known k ws vs rest (own_place {w = w} {ws = us} {vs = xs} p) has stops n =
    front known k (w ∷ us) (codes ", ") (value_text (VHandle k) ++ more_text xs) rest refl
    (back known k (w ∷ us) (value_text (VHandle k)) (more_text xs) rest (handle_reads known k w us (more_text xs ++ rest) has.0 (more_stops xs rest stops) (more_placed known (suc k) us xs rest p has.1 stops n)))
more_placed known k ws vs rest (without {v = v} {vs = xs} b p) has stops n =
    front known k ws (codes ", ") (value_text v ++ more_text xs) rest refl (back known k ws (value_text v) (more_text xs) rest (value_reads known k ws v (more_text xs ++ rest) b (more_placed known k ws xs rest p has stops n)))

list_placed : (known : List WireHandle) (k : ℕ) (ws : List WireHandle) (vs : Vals) (rest : List ℕ) → Placed k ws vs → HaveNames known ws → heads_digit rest ≡ false → ((j : ℕ) → Reads known j [] rest) → Reads known k ws (list_text vs ++ rest)
unfolding value_text
list_placed known k ws vs rest (no_place) has stops n = n k
list_placed known k ws vs rest (own_place {w = w} {ws = us} {vs = xs} p) has stops n =
    back known k (w ∷ us) (value_text (VHandle k)) (more_text xs) rest (handle_reads known k w us (more_text xs ++ rest) has.0 (more_stops xs rest stops) (more_placed known (suc k) us xs rest p has.1 stops n))
list_placed known k ws vs rest (without {v = v} {vs = xs} b p) has stops n =
    back known k ws (value_text v) (more_text xs) rest (value_reads known k ws v (more_text xs ++ rest) b (more_placed known k ws xs rest p has stops n))

pub row_placed : (known ws : List WireHandle) (vs : Vals) (rest : List ℕ) → Placed 0 ws vs → HaveNames known ws → ((j : ℕ) → Reads known j [] rest) → Reads known 0 ws (row_text vs ++ rest)
unfolding row_text
row_placed known ws vs rest p has n =
    front known 0 ws (codes "(") (list_text vs ++ codes ")") rest refl
    (back known 0 ws (list_text vs) (codes ")") rest (list_placed known 0 ws vs (codes ")" ++ rest) p has refl (λ j. others known j [] (codes ")") rest refl (n j))))

-- a heap whose items have no handles
pub heap_reads : (known : List WireHandle) (vs : Vals) → AllBelow 0 vs → (j : ℕ) → Reads known j [] (heap_text vs)
unfolding heap_text
heap_reads known no_val b j = ([], the_end j)
heap_reads known (then_val v vs) b j =
    others known j [] (codes " heap [") (list_text (then_val v vs) ++ codes "]") refl
    (list_reads known j [] (then_val v vs) (codes "]") b (others known j [] (codes "]") [] refl ([], the_end j)))
