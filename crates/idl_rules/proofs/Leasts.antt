-- The least place of several lists.
use Rattle.std.proofs.Common.{◌≡◌, ℕ, ◌+◌, ◌<◌, min, List, [], ◌∷◌, ◌++◌, Option, Some, None, refl, ap, sym, ◌∙◌, drop, get_or, length, arith, append_assoc, append-nil}
use Rattle.std.specs.List.{flat_map}
use Rattle.std.proofs.lemmas.List.{get_or_default, drop_more}
use Rattle.idl_rules.specs.Least.{lesser, least}

min_assoc : (x y z : ℕ) → min (min x y) z ≡ min x (min y z)
min_assoc x y z = omega arith

pub lesser_none : (x : Option ℕ) → lesser x None ≡ x
lesser_none None = refl
lesser_none (Some x) = refl

pub lesser_assoc : (x y z : Option ℕ) → lesser (lesser x y) z ≡ lesser x (lesser y z)
lesser_assoc None y z = refl
lesser_assoc (Some x) None z = refl
lesser_assoc (Some x) (Some y) None = refl
lesser_assoc (Some x) (Some y) (Some z) = ap Some (min_assoc x y z)

pub least_append : (xs ys : List ℕ) → least (xs ++ ys) ≡ lesser (least xs) (least ys)
least_append [] ys = refl
least_append (x ∷ xs) ys = ap (lesser (Some x)) (least_append xs ys) ∙ sym (lesser_assoc (Some x) (least xs) (least ys))

-- ---- a loop that keeps the least so far: those before the index i are in what was found

pub drop_item : {X : Type 0} (xs : List X) (i : ℕ) (x : X) → i < length xs → x ≡ get_or xs i x → drop i xs ≡ x ∷ drop (i + 1) xs
drop_item xs i x h e = drop_more xs i x h ∙ ap (λ y. y ∷ drop (i + 1) xs) (sym e)

pub each_item : {X : Type 0} (f : X → List ℕ) (xs : List X) (i : ℕ) (x : X) (found new all : Option ℕ) → i < length xs → x ≡ get_or xs i x
    → lesser found (least (flat_map f (drop i xs))) ≡ all → new ≡ lesser found (least (f x)) → lesser new (least (flat_map f (drop (i + 1) xs))) ≡ all
each_item f xs i x found new all h e inv n =
    ap (λ m. lesser m (least (flat_map f (drop (i + 1) xs)))) n
    ∙ (lesser_assoc found (least (f x)) (least (flat_map f (drop (i + 1) xs)))
    ∙ (ap (lesser found) (sym (least_append (f x) (flat_map f (drop (i + 1) xs))))
    ∙ (ap (λ ys. lesser found (least (flat_map f ys))) (sym (drop_item xs i x h e)) ∙ inv)))

-- the same at an index
pub each_index : {X : Type 0} (f : X → List ℕ) (xs : List X) (i : ℕ) (d : X) (found new all : Option ℕ) → i < length xs
    → lesser found (least (flat_map f (drop i xs))) ≡ all → new ≡ lesser found (least (f (get_or xs i d))) → lesser new (least (flat_map f (drop (i + 1) xs))) ≡ all
each_index f xs i d found new all h inv n = each_item f xs i (get_or xs i d) found new all h (get_or_default xs i d (get_or xs i d) h) inv n

pub ruleset leasts = (least_append, lesser_assoc, lesser_none)

pub ruleset rows = (append_assoc, append-nil)
