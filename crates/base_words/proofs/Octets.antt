-- The word of octets.
use Rattle.std.proofs.Common.{◌≡◌, ℕ, ◌<◌, List, [], ◌∷◌, length, refl, ap, sym, ◌∙◌, arith, codes, Option, Some, None, Result, Ok, Err}
use Rattle.std.specs.Prelude.{IfOk}
use Rattle.hex.specs.Hex.{encode_lower, lower_digits, IsBytes}
use Rattle.hex.proofs.HexLemmas.{length-encode_with}
use Rattle.base_words.specs.Words.{octets_text}
use Rattle.base_words.specs.Reads.{Reads}
use Rattle.base_words.proofs.Hexadecimal.{hex_injective}

-- some octets have the word that they have in hexadecimal
pub octets_text-some : (xs : List ℕ) → 0 < length xs → octets_text xs ≡ encode_lower xs
unfolding octets_text
octets_text-some [] h = absurd (omega arith)
octets_text-some (b ∷ rest) h = refl

-- none have a word that isn't empty
pub octets_text-length : (xs : List ℕ) → 0 < length (octets_text xs)
unfolding octets_text
octets_text-length [] = omega arith
octets_text-length (b ∷ rest) = omega (arith, length-encode_with lower_digits (b ∷ rest))

word_reads : (text : List ℕ) (o : Option (List ℕ)) → 0 < length text → (text ≡ codes "-" → ⊥) → Reads IsBytes encode_lower text o → Reads IsBytes octets_text text o
unfolding octets_text
word_reads text None long other h = no
  where
    no : (xs : List ℕ) → IsBytes xs → octets_text xs ≡ text → ⊥
    no [] bytes e = other (sym e)
    no (b ∷ rest) bytes e = h (b ∷ rest) bytes e
word_reads text (Some xs) long other h =
    (h.0, octets_text-some xs (omega (arith, ap length h.1, length-encode_with lower_digits xs)) ∙ h.1)

-- a text that is neither empty nor `-` is a word exactly where it is hexadecimal
pub word_of_hex : {E : Type 0} (text : List ℕ) (r : Result (Option (List ℕ)) E) → 0 < length text → (text ≡ codes "-" → ⊥) → IfOk r (Reads IsBytes encode_lower text) → IfOk r (Reads IsBytes octets_text text)
word_of_hex text (Ok o) long other h = word_reads text o long other h
word_of_hex text (Err x) long other h = tt

-- octets have one word
pub octets_text_injective : (xs ys : List ℕ) → IsBytes xs → IsBytes ys → octets_text xs ≡ octets_text ys → xs ≡ ys
unfolding octets_text
octets_text_injective [] [] p q e = refl
octets_text_injective [] (b ∷ ys) p q e = absurd (omega (arith, ap length e, length-encode_with lower_digits (b ∷ ys)))
octets_text_injective (a ∷ xs) [] p q e = absurd (omega (arith, ap length e, length-encode_with lower_digits (a ∷ xs)))
octets_text_injective (a ∷ xs) (b ∷ ys) p q e = hex_injective (a ∷ xs) (b ∷ ys) p q e
