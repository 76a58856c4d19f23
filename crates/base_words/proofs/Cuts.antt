-- Texts that are cut at an octet.
use Rattle.std.proofs.Common.{◌≡◌, ◌≢◌, ℕ, List, [], ◌∷◌, ◌++◌, length, refl, ap, ◌∙◌, arith, get_or, length-append}
use Rattle.std.proofs.lemmas.List.{get_or_at}
use Rattle.std.proofs.lemmas.List.Elements.{All-head, All-tail}
use Rattle.base_words.specs.Reads.{HasNo}

-- A text has one first part up to an octet.
pub same_cut : (c : ℕ) (a b x y : List ℕ) → HasNo c a → HasNo c b → a ++ (c ∷ x) ≡ b ++ (c ∷ y) → (a ≡ b) × (x ≡ y)
same_cut c [] [] x y h k e = (refl, cc)
same_cut c [] (q ∷ b) x y h k e = let n = All-head (λ b. b ≢ c) q b k in absurd (n cc)
same_cut c (p ∷ a) [] x y h k e = let n = All-head (λ b. b ≢ c) p a h in absurd (n cc)
same_cut c (p ∷ a) (q ∷ b) x y h k e =
    let rest = same_cut c a b x y (All-tail (λ b. b ≢ c) p a h) (All-tail (λ b. b ≢ c) q b k) cc in (cc, rest.1)

-- A text in which the octet stands somewhere isn't without it.
pub no_cut : (c : ℕ) (a x text : List ℕ) → HasNo c text → text ≡ a ++ (c ∷ x) → ⊥
no_cut c a x text none e =
    let at : get_or text (length a) 0 ≡ c = ap (λ t. get_or t (length a) 0) e ∙ get_or_at a c x 0 _ refl in
    none (length a) 0 (omega (arith, ap length e, length-append a (c ∷ x))) at
