-- Lines of words, and the words of a line.
use Rattle.std.proofs.Common.{◌≡◌, ℕ, ◌<◌, ◌==◌, false, List, [], ◌∷◌, refl, ap, sym, ◌∙◌, arith, All, Some, None, Option}
use Rattle.std.specs.List.{slice_split, join_with_byte, AllByRecursion}
use Rattle.std.proofs.lemmas.Bool.Decides.{nat_tests}
use Rattle.std.proofs.lemmas.List.Splits.{slice_split_at, slice_split_none, join_with_byte-slice_split}
use Rattle.base_words.specs.Reads.{Reads}
use Rattle.base_words.proofs.Ink.{IsInk}

no_octet : (c : ℕ) (w : List ℕ) → c < 33 → IsInk w → All (λ x. (x == c) ≡ false) w
no_octet c w low h = λ k d lt. let ink = h k d lt in grind (arith, nat_tests)

-- the words of words in a row are these words
pub split_join : (w : List ℕ) (ws : List (List ℕ)) → AllByRecursion IsInk (w ∷ ws) → slice_split (λ b. b == 32) (join_with_byte 32 (w ∷ ws)) ≡ w ∷ ws
split_join w [] h = slice_split_none (λ b. b == 32) w (no_octet 32 w (omega arith) h.0)
split_join w (v ∷ vs) h =
    slice_split_at (λ b. b == 32) w 32 (join_with_byte 32 (v ∷ vs)) (no_octet 32 w (omega arith) h.0) refl ∙ ap (λ t. w ∷ t) (split_join v vs h.1)

-- What is exact of a line's words is exact of the line, for values of a type that have words of ink.
pub reads_line : {X : Type 0} (fits : X → Type 0) (words : X → List (List ℕ)) (line : List ℕ) (ws : List (List ℕ)) (found : Option X) → ((x : X) → fits x → slice_split (λ b. b == 32) (join_with_byte 32 (words x)) ≡ words x) → ws ≡ slice_split (λ b. b == 32) line → Reads fits words ws found → Reads fits (λ x. join_with_byte 32 (words x)) line found
reads_line fits words line ws None own e h = λ x f t. h x f (sym (own x f) ∙ (ap (slice_split (λ b. b == 32)) t ∙ sym e))
reads_line fits words line ws (Some x) own e h = (h.0, ap (join_with_byte 32) (h.1 ∙ e) ∙ join_with_byte-slice_split 32 line)
