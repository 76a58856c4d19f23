-- Layers that are put one behind the other.
use Rattle.std.proofs.Common.{◌≡◌, ℕ, zero, suc, ◌+◌, ◌-◌, List, [], ◌∷◌, ◌++◌, Bool, true, false, refl, sym, ap, ◌∙◌, append_assoc, append-nil, add-one}
use Rattle.std.specs.Prelude.{◌==◌, if◌then◌else◌}
use Rattle.idl_tree.specs.declared.leaf.Pk.{Pk}
use Rattle.idl_names.specs.declared.place.Extent.{Extent}
use Rattle.idl_names.specs.declared.place.Extent.TheVariants as extents
use Rattle.idl_outline.specs.declared.ty.Layer.{Layer}
use Rattle.idl_outline.specs.declared.ty.Layer.TheVariants as layers
use Rattle.idl_outline.specs.Types.{chain, pointers, in_array}

chain_end : (class : Pk) (n : ℕ) → chain class n [] ++ layers.Pointer class ∷ [] ≡ chain class (suc n) []
chain_end class zero = refl
chain_end class (suc n) = ap (λ (ls : List Layer). layers.Pointer class ∷ ls) (chain_end class n)

chain_on : (class : Pk) (n : ℕ) (ls : List Layer) → chain class n [] ++ ls ≡ chain class n ls
chain_on class zero ls = refl
chain_on class (suc n) ls = ap (λ (xs : List Layer). layers.Pointer class ∷ xs) (chain_on class n ls)

pointers_if : (b : Bool) (inner outer : Pk) (m : ℕ) (ls : List Layer) → (if b then [] else layers.Pointer outer ∷ chain inner m []) ++ ls ≡ (if b then ls else layers.Pointer outer ∷ chain inner m ls)
pointers_if true inner outer m ls = refl
pointers_if false inner outer m ls = ap (λ (xs : List Layer). layers.Pointer outer ∷ xs) (chain_on inner m ls)

pointers_on : (inner outer : Pk) (n : ℕ) (ls : List Layer) → pointers inner outer n [] ++ ls ≡ pointers inner outer n ls
pointers_on inner outer n ls = pointers_if (n == 0) inner outer (n - 1) ls

array_on : (e : Extent) (ls : List Layer) → in_array e [] ++ ls ≡ in_array e ls
array_on extents.Single ls = refl
array_on extents.Open ls = refl
array_on (extents.Fixed size) ls = refl

-- a pointer more
pub chain_more : (class : Pk) (n : ℕ) (before now after : List Layer) → now ≡ before ++ chain class n [] → after ≡ now ++ layers.Pointer class ∷ [] → after ≡ before ++ chain class (n + 1) []
chain_more class n before now after e f =
    f ∙ ap (λ (xs : List Layer). xs ++ layers.Pointer class ∷ []) e ∙ append_assoc before (chain class n []) (layers.Pointer class ∷ [])
    ∙ ap (λ (xs : List Layer). before ++ xs) (chain_end class n ∙ sym (ap (λ (k : ℕ). chain class k []) (add-one n)))

pub chain_starts : (class : Pk) (before : List Layer) → before ≡ before ++ chain class 0 []
chain_starts class before = sym (append-nil before)

pointers_put_if : (b : Bool) (inner outer : Pk) (m : ℕ) (before mid after : List Layer) → b ≡ false → mid ≡ before ++ layers.Pointer outer ∷ [] → after ≡ mid ++ chain inner m []
    → after ≡ before ++ (if b then [] else layers.Pointer outer ∷ chain inner m [])
pointers_put_if true inner outer m before mid after z e f = absurd cc
pointers_put_if false inner outer m before mid after z e f = f ∙ ap (λ (xs : List Layer). xs ++ chain inner m []) e ∙ append_assoc before (layers.Pointer outer ∷ []) (chain inner m [])

pub pointers_put : (inner outer : Pk) (n : ℕ) (before mid after : List Layer) → (n == 0) ≡ false → mid ≡ before ++ layers.Pointer outer ∷ [] → after ≡ mid ++ chain inner (n - 1) []
    → after ≡ before ++ pointers inner outer n []
pointers_put inner outer n before mid after z e f = pointers_put_if (n == 0) inner outer (n - 1) before mid after z e f

pub no_pointers : (inner outer : Pk) (n : ℕ) (before : List Layer) → (n == 0) ≡ true → before ≡ before ++ pointers inner outer n []
no_pointers inner outer n before z = sym (ap (λ (b : Bool). before ++ (if b then [] else layers.Pointer outer ∷ chain inner (n - 1) [])) z ∙ append-nil before)

-- all of them
pub layers_made : (inner outer : Pk) (n : ℕ) (e : Extent) (a b c d others : List Layer) → a ≡ [] → b ≡ a ++ in_array e [] → c ≡ b ++ pointers inner outer n [] → d ≡ c ++ others
    → d ≡ in_array e (pointers inner outer n others)
layers_made inner outer n e a b c d others p q r s =
    s ∙ ap (λ (xs : List Layer). xs ++ others) (r ∙ ap (λ (xs : List Layer). xs ++ pointers inner outer n []) (q ∙ ap (λ (xs : List Layer). xs ++ in_array e []) p))
    ∙ append_assoc (in_array e []) (pointers inner outer n []) others ∙ ap (λ (xs : List Layer). in_array e [] ++ xs) (pointers_on inner outer n others) ∙ array_on e (pointers inner outer n others)

pub ruleset chains = (chain_more, chain_starts, pointers_put, no_pointers, layers_made)
