-- Places where nothing is broken.
use Rattle.std.proofs.Common.{◌≡◌, ℕ, List, [], ◌∷◌, ◌++◌, refl, inl}
use Rattle.idl_rules.specs.Places.{Among}

pub nil_right : (xs ys : List ℕ) → xs ++ ys ≡ [] → ys ≡ []
nil_right [] ys e = e
nil_right (x ∷ xs) ys e = absurd cc

pub nil_left : (xs ys : List ℕ) → xs ++ ys ≡ [] → xs ≡ []
nil_left [] ys e = refl
nil_left (x ∷ xs) ys e = absurd cc

pub none_among : (xs : List ℕ) → ((at : ℕ) → Among at xs → ⊥) → xs ≡ []
none_among [] h = refl
none_among (x ∷ xs) h = absurd (h x (inl refl))
