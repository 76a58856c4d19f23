-- The text of values with the places of handles has one with their names.
use Rattle.std.proofs.Common.{◌≡◌, ◌≢◌, ℕ, zero, suc, ◌+◌, ◌/◌, ◌%◌, ◌<◌, ◌==◌, Bool, true, false, List, [], ◌∷◌, ◌++◌, length, get_or, Option, Some, None, refl, ap, sym, ◌∙◌, subst, append_assoc, arith, codes, decimal}
use Rattle.std.specs.Prelude.{slice_get, not, ◌&&◌, ◌||◌, if◌then◌else◌, ℤ, pos, negsuc}
use Rattle.std.specs.List.{All, list_all, flat_map}
use Rattle.std.specs.Fmt.{signed_decimal, digits, digits_onto, digit_glyph}
use Rattle.std.proofs.lemmas.Bool.{and_parts}
use Rattle.std.proofs.lemmas.Bool.Decides.{nat_tests}
use Rattle.std.proofs.lemmas.List.Elements.{All-cons, All-head, All-tail}
use Rattle.hex.specs.Hex.{encode_lower, encode_with, lower_digits}
use Rattle.rpc_base.specs.declared.identifiers.WireHandle.{WireHandle}
use Rattle.base_words.specs.Reads.{HasNo}
use Rattle.ndr_value.specs.Forms.{Form}
use Rattle.ndr_value.specs.Values.{Val, VBool, VByte, VChar, VInt, VUint, VEnum, VStruct, VEmpty, VUnion, VArray, VText, VNull, VPtr, VFull, VHandle, Vals, no_val, then_val, Msg}
use Rattle.ndr_table.specs.Tables.{OpForm}
use Rattle.ndr_model.specs.declared.way.Way.{Way}
use Rattle.ndr_model.specs.Written.{call_of}
use Rattle.ndr_model.specs.Fits.{IsOfOp}
use Rattle.value_text.specs.Marks.{heads_digit}
use Rattle.value_text.specs.Texts.{value_text, list_text, more_text, bool_text, char_text, is_plain}
use Rattle.value_text.proofs.Steps.{passes-at}
use Rattle.client_core.specs.States.Outcome.{TDone}
use Rattle.client_texts.specs.Handles.{has_name, with_handles}
use Rattle.client_texts.specs.Texts.{Named, row_text, IsCallText}
use Rattle.client_texts.specs.Texts.Named.{the_end, handle, quoted, other}
use Rattle.client_texts.specs.Answers.{IsLine}
use Rattle.client_texts.proofs.Slots.{Below, AllBelow, entries_below}
use Rattle.client_texts.proofs.Comes.{comes, there}

-- ---- octets that are neither a handle's sign nor a quote

abbrev calm : ℕ → Bool
calm c = not (c == 36) && not (c == 34)

no_sign : (c : ℕ) → calm c ≡ true → c ≢ 36
no_sign c h = λ e. let f : calm 36 ≡ true = ap calm (sym e) ∙ h in absurd cc

no_quote : (c : ℕ) → calm c ≡ true → c ≢ 34
no_quote c h = λ e. let f : calm 34 ≡ true = ap calm (sym e) ∙ h in absurd cc

abbrev glyph_is : ℕ → Bool
glyph_is d = calm (digit_glyph false d)

glyph_calm : (n : ℕ) → calm (digit_glyph false (n % 10)) ≡ true
glyph_calm n = passes-at glyph_is 10 (n % 10) refl (omega arith)

both : (a b : Bool) → a ≡ true → b ≡ true → (a && b) ≡ true
both a b h k = rw (h, k) refl

onto_by : (b : Bool) (x y : List ℕ) → list_all calm x ≡ true → list_all calm y ≡ true → list_all calm (if b then x else y) ≡ true
onto_by true x y h k = h
onto_by false x y h k = k

onto_calm : (k n : ℕ) (acc : List ℕ) → list_all calm acc ≡ true → list_all calm (digits_onto k 10 false n acc) ≡ true
onto_calm zero n acc h = h
onto_calm (suc k) n acc h =
    let one = both (calm (digit_glyph false (n % 10))) (list_all calm acc) (glyph_calm n) h in
    onto_by (n / 10 == 0) (digit_glyph false (n % 10) ∷ acc) (digits_onto k 10 false (n / 10) (digit_glyph false (n % 10) ∷ acc)) one (onto_calm k (n / 10) (digit_glyph false (n % 10) ∷ acc) one)

decimal_calm : (n : ℕ) → list_all calm (decimal n) ≡ true
unfolding digits
decimal_calm n = onto_calm 64 n [] refl

signed_calm : (z : ℤ) → list_all calm (signed_decimal z) ≡ true
signed_calm (pos n) = decimal_calm n
signed_calm (negsuc n) = decimal_calm (suc n)

-- ---- texts in quotes

abbrev IsNo : ℕ → Type 0
IsNo c = c ≢ 34

none_no : HasNo 34 []
none_no k d lt = absurd (omega (arith, lt))

free_append : (xs ys : List ℕ) → HasNo 34 xs → HasNo 34 ys → HasNo 34 (xs ++ ys)
free_append [] ys h k = k
free_append (x ∷ xs) ys h k = All-cons IsNo x (xs ++ ys) (All-head IsNo x xs h) (free_append xs ys (All-tail IsNo x xs h) k)

get_free : (xs : List ℕ) (i : ℕ) → list_all calm xs ≡ true → get_or xs i 0 ≢ 34
get_free [] i h = λ e. omega (arith, e)
get_free (x ∷ xs) zero h = no_quote x (and_parts (calm x) (list_all calm xs) h).0
get_free (x ∷ xs) (suc i) h = get_free xs i (and_parts (calm x) (list_all calm xs) h).1

hex_free : (i : ℕ) → get_or lower_digits i 0 ≢ 34
hex_free i = get_free lower_digits i refl

plain_free : (c : ℕ) → is_plain c ≡ true → c ≢ 34
plain_free c h = λ e. let f : is_plain 34 ≡ true = ap is_plain (sym e) ∙ h in absurd cc

char_by : (b : Bool) (c : ℕ) → is_plain c ≡ b → HasNo 34 (char_text c)
unfolding char_text encode_with
char_by true c e = rw e (All-cons IsNo c [] (plain_free c e) none_no)
char_by false c e =
    rw e (All-cons IsNo 92 (120 ∷ encode_lower (c ∷ [])) (λ f. omega (arith, f)) (All-cons IsNo 120 (encode_lower (c ∷ [])) (λ f. omega (arith, f))
    (All-cons IsNo (get_or lower_digits (c / 16) 0) (get_or lower_digits (c % 16) 0 ∷ []) (hex_free (c / 16)) (All-cons IsNo (get_or lower_digits (c % 16) 0) [] (hex_free (c % 16)) none_no))))

chars_free : (text : List ℕ) → HasNo 34 (flat_map char_text text)
chars_free [] = none_no
chars_free (c ∷ text) = free_append (char_text c) (flat_map char_text text) (char_by (is_plain c) c refl) (chars_free text)

-- ---- values

module _ (known wires : List WireHandle) (named : (k : ℕ) (w : WireHandle) → slice_get wires k ≡ Some w → has_name known w ≡ true) where
  abbrev HasNames : List ℕ → Type 0
  HasNames t = (b : List ℕ) × Named known wires t b

  others : (xs rest : List ℕ) → list_all calm xs ≡ true → HasNames rest → HasNames (xs ++ rest)
  others [] rest h n = n
  others (x ∷ xs) rest h n =
      let p = and_parts (calm x) (list_all calm xs) h in
      let m = others xs rest p.1 n in
      (x ∷ m.0, other x (xs ++ rest) m.0 (no_sign x p.0) (no_quote x p.0) m.1)

  -- with calm octets in front
  front : (a x rest : List ℕ) → list_all calm a ≡ true → HasNames (x ++ rest) → HasNames ((a ++ x) ++ rest)
  front a x rest h n = subst HasNames (sym (append_assoc a x rest)) (others a (x ++ rest) h n)

  -- and with calm octets after
  back : (x a rest : List ℕ) → HasNames (x ++ (a ++ rest)) → HasNames ((x ++ a) ++ rest)
  back x a rest n = subst HasNames (sym (append_assoc x a rest)) n

  quoted_names : (inside rest : List ℕ) → HasNo 34 inside → HasNames rest → HasNames (34 ∷ ((inside ++ 34 ∷ []) ++ rest))
  quoted_names inside rest free n =
      subst HasNames (ap (λ (x : List ℕ). 34 ∷ x) (sym (append_assoc inside (34 ∷ []) rest))) (34 ∷ inside ++ 34 ∷ n.0, quoted inside rest n.0 free n.1)

  handle_names : (k : ℕ) (rest : List ℕ) → k < length wires → heads_digit rest ≡ false → HasNames rest → HasNames (36 ∷ (decimal k ++ rest))
  handle_names k rest lt stops n =
      let w = there wires k lt in
      let has = named k w.0 w.1 in
      (36 ∷ Rattle.client_texts.specs.Handles.name known w.0 ++ n.0, handle k w.0 rest n.0 w.1 has stops n.1)

  mutual
    unfolding value_text

    value_names : (v : Val) (rest : List ℕ) → Below (length wires) v → heads_digit rest ≡ false → HasNames rest → HasNames (value_text v ++ rest)
    value_names (VBool true) rest b h n = others (codes "true") rest refl n
    value_names (VBool false) rest b h n = others (codes "false") rest refl n
    value_names (VByte m) rest b h n = others (decimal m) rest (decimal_calm m) n
    value_names (VChar m) rest b h n = others (decimal m) rest (decimal_calm m) n
    value_names (VInt z) rest b h n = others (signed_decimal z) rest (signed_calm z) n
    value_names (VUint m) rest b h n = others (decimal m) rest (decimal_calm m) n
    value_names (VEnum m) rest b h n = others (decimal m) rest (decimal_calm m) n
    value_names (VStruct vs) rest b h n = front (codes "{") (list_text vs ++ codes "}") rest refl (back (list_text vs) (codes "}") rest (list_names vs (125 ∷ rest) b refl (others (codes "}") rest refl n)))
    value_names (VEmpty tag) rest b h n =
        front (codes "(") (signed_decimal tag ++ codes ")") rest refl (back (signed_decimal tag) (codes ")") rest (others (signed_decimal tag) (41 ∷ rest) (signed_calm tag) (others (codes ")") rest refl n)))
    value_names (VUnion tag v) rest b h n =
        front (codes "(") (signed_decimal tag ++ (codes ": " ++ (value_text v ++ codes ")"))) rest refl
        (front (signed_decimal tag) (codes ": " ++ (value_text v ++ codes ")")) rest (signed_calm tag)
        (front (codes ": ") (value_text v ++ codes ")") rest refl (back (value_text v) (codes ")") rest (value_names v (41 ∷ rest) b refl (others (codes ")") rest refl n)))))
    value_names (VArray vs) rest b h n = front (codes "[") (list_text vs ++ codes "]") rest refl (back (list_text vs) (codes "]") rest (list_names vs (93 ∷ rest) b refl (others (codes "]") rest refl n)))
    value_names (VText text) rest b h n = quoted_names (flat_map char_text text) rest (chars_free text) n
    value_names VNull rest b h n = others (codes "null") rest refl n
    value_names (VPtr v) rest b h n = front (codes "&") (value_text v) rest refl (value_names v rest b h n)
    value_names (VFull None) rest b h n = others (codes "null") rest refl n
    value_names (VFull (Some m)) rest b h n = front (codes "@") (decimal m) rest refl (others (decimal m) rest (decimal_calm m) n)
    value_names (VHandle k) rest b h n = handle_names k rest b h n

    list_names : (vs : Vals) (rest : List ℕ) → AllBelow (length wires) vs → heads_digit rest ≡ false → HasNames rest → HasNames (list_text vs ++ rest)
    list_names no_val rest b h n = n
    list_names (then_val v vs) rest b h n = back (value_text v) (more_text vs) rest (value_names v (more_text vs ++ rest) b.0 (more_stops vs rest h) (more_names vs rest b.1 h n))

    more_names : (vs : Vals) (rest : List ℕ) → AllBelow (length wires) vs → heads_digit rest ≡ false → HasNames rest → HasNames (more_text vs ++ rest)
    more_names no_val rest b h n = n
    more_names (then_val v vs) rest b h n =
        front (codes ", ") (value_text v ++ more_text vs) rest refl (back (value_text v) (more_text vs) rest (value_names v (more_text vs ++ rest) b.0 (more_stops vs rest h) (more_names vs rest b.1 h n)))

    more_stops : (vs : Vals) (rest : List ℕ) → heads_digit rest ≡ false → heads_digit (more_text vs ++ rest) ≡ false
    more_stops no_val rest h = h
    more_stops (then_val v vs) rest h = refl

  pub row_names : (vs : Vals) → AllBelow (length wires) vs → HasNames (row_text vs)
  unfolding row_text
  row_names vs b = others (codes "(") (list_text vs ++ codes ")") refl (list_names vs (codes ")") b refl (others (codes ")") [] refl ([], the_end)))

pub has_text : (types : List Form) (op : OpForm) (way : Way) (asked : Option Msg) (m : Msg) (known : List WireHandle) → IsOfOp types op way asked m
    → (text : List ℕ) × IsCallText (with_handles known m.wires) m.wires m.values text
has_text types op way asked m known of_op =
    let end = ap (λ (ws : List WireHandle). length ws) of_op.wires in
    let b = entries_below types (call_of op way asked m) (length m.wires) of_op.suits (omega (arith, end)) in
    let n = row_names (with_handles known m.wires) m.wires (comes m.wires known) m.values b in
    (n.0, record { places = row_text m.values; plain = refl; named = n.1 })

pub has_line : (types : List Form) (op : OpForm) (way : Way) (asked : Option Msg) (m : Msg) (known : List WireHandle) (connection : ℕ) → IsOfOp types op way asked m
    → (line : List ℕ) × IsLine (with_handles known m.wires) connection (TDone m) line
has_line types op way asked m known connection of_op =
    let t = has_text types op way asked m known of_op in
    (decimal connection ++ ((codes " done " ++ t.0) ++ codes "\n"), (codes " done " ++ t.0, (t.0, t.1, refl), refl))
