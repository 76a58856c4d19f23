-- What kinds of words there are.
use Rattle.std.proofs.Common.{◌≡◌, ◌∙◌, ℕ, true, false, List, [], ◌∷◌, refl, sym, ap, arith, Some, None, codes, inl, inr, ◌⊎◌, ◌==◌, IsUtf8, encode_utf8_all, eqb-true, subst}
use Rattle.std.specs.Prelude.{slice_get}
use Rattle.std.specs.Str.{bytes_eq, chars}
use Rattle.std.proofs.lemmas.Bool.{cases_Bool}
use Rattle.std.proofs.lemmas.Str.{IsUtf8-drop, IsCharBoundary-after_ascii, encodes-chars}
use Rattle.clap.specs.Lexer.{long_of, short_of, name_and_value}
use Rattle.clap.specs.Walk.{Text}
use Rattle.app_words.specs.Asks.{is_option}

-- the flags of a word, of which there is a first
pub record HasFirst (flags : Text) : Type 0 where
  pub first : ℕ
  pub is : slice_get (chars flags) 0 ≡ Some first

-- a word is `--`, or an option in the long or the short form, or neither
pub record IsLong (word : Text) : Type 0 where
  pub text : Text
  pub is : word ≡ 45 ∷ 45 ∷ text
  pub dashes : bytes_eq word (codes "--") ≡ false
  pub option : is_option word ≡ true
  pub long : long_of word ≡ Some (name_and_value text)

pub record IsShort (word : Text) : Type 0 where
  pub head : ℕ
  pub tail : Text
  pub first : ℕ
  pub dashes : bytes_eq word (codes "--") ≡ false
  pub option : is_option word ≡ true
  pub long : long_of word ≡ None
  pub short : short_of word ≡ Some (head ∷ tail)
  pub is_first : slice_get (chars (head ∷ tail)) 0 ≡ Some first

pub record IsOperand (word : Text) : Type 0 where
  pub dashes : bytes_eq word (codes "--") ≡ false
  pub option : is_option word ≡ false
  pub long : long_of word ≡ None
  pub short : short_of word ≡ None

abbrev pub Kind : Text → Type 0
Kind word = (word ≡ codes "--") ⊎ IsLong word ⊎ IsShort word ⊎ IsOperand word

-- a text of octets has a first character
has_first : (cs : List ℕ) (b : ℕ) (bs : Text) → cs ≡ chars (b ∷ bs) → IsUtf8 (b ∷ bs) → HasFirst (b ∷ bs)
has_first [] b bs e u =
    let none : [] ≡ b ∷ bs = ap encode_utf8_all e ∙ encodes-chars (b ∷ bs) u in
    absurd (cc)
has_first (c ∷ cs) b bs e u = record { first = c; is = ap (λ l. slice_get l 0) (sym e) }

-- what follows a hyphen is a text
after_dash : (c : ℕ) (d : ℕ) (rest : Text) → c ≡ 45 → IsUtf8 (c ∷ d ∷ rest) → IsUtf8 (d ∷ rest)
after_dash c d rest e u =
    IsUtf8-drop (c ∷ d ∷ rest) 1 u (IsCharBoundary-after_ascii (c ∷ d ∷ rest) 0 u (omega arith) (omega arith))

short_kind : (d : ℕ) (rest : Text) → IsUtf8 (45 ∷ d ∷ rest) → (d == 45) ≡ false → Kind (45 ∷ d ∷ rest)
short_kind d rest u e =
    let f = has_first (chars (d ∷ rest)) d rest refl (after_dash 45 d rest refl u) in
    inr (inr (inl (record { head = d; tail = rest; first = f.first; dashes = rw e refl; option = refl; long = rw e refl; short = rw e refl; is_first = f.is })))

dashed_kind : (d : ℕ) (rest : Text) → d ≡ 45 → Kind (45 ∷ d ∷ rest)
dashed_kind d [] e = inl (ap (λ x. 45 ∷ x ∷ []) e)
dashed_kind d (x ∷ xs) e =
    inr (inl (record { text = x ∷ xs; is = ap (λ y. 45 ∷ y ∷ x ∷ xs) e; dashes = rw e refl; option = refl; long = rw e refl }))

second_kind : (d : ℕ) (rest : Text) → IsUtf8 (45 ∷ d ∷ rest) → (d == 45 ≡ true) ⊎ (d == 45 ≡ false) → Kind (45 ∷ d ∷ rest)
second_kind d rest u (inl e) = dashed_kind d rest (eqb-true d 45 e)
second_kind d rest u (inr e) = short_kind d rest u e

first_kind : (c d : ℕ) (rest : Text) → IsUtf8 (c ∷ d ∷ rest) → (c == 45 ≡ true) ⊎ (c == 45 ≡ false) → Kind (c ∷ d ∷ rest)
first_kind c d rest u (inl e) =
    subst (λ x. IsUtf8 (x ∷ d ∷ rest) → Kind (x ∷ d ∷ rest)) (sym (eqb-true c 45 e)) (λ v. second_kind d rest v (cases_Bool (d == 45))) u
first_kind c d rest u (inr e) = inr (inr (inr (record { dashes = rw e refl; option = e; long = rw e refl; short = rw e refl })))

single_kind : (c : ℕ) → (c == 45 ≡ true) ⊎ (c == 45 ≡ false) → Kind (c ∷ [])
single_kind c (inl e) = inr (inr (inr (record { dashes = rw e refl; option = refl; long = rw e refl; short = rw e refl })))
single_kind c (inr e) = inr (inr (inr (record { dashes = rw e refl; option = refl; long = rw e refl; short = rw e refl })))

pub kind_of_word : (word : Text) → IsUtf8 word → Kind word
kind_of_word [] u = inr (inr (inr (record { dashes = refl; option = refl; long = refl; short = refl })))
kind_of_word (c ∷ []) u = single_kind c (cases_Bool (c == 45))
kind_of_word (c ∷ d ∷ rest) u = first_kind c d rest u (cases_Bool (c == 45))
