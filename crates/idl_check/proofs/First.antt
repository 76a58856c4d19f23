-- The least of places, and the first of breaches.
use Rattle.std.proofs.Common.{◌≡◌, ◌⊎◌, ℕ, ◌<◌, ◌≤◌, min, List, [], ◌∷◌, Option, Some, None, refl, ap, sym, ◌∙◌, subst, arith, inl, inr}
use Rattle.std.proofs.lemmas.Bool.{cases_lt}
use Rattle.idl_tree.specs.declared.declaration.Ast.{Ast}
use Rattle.idl_forms.specs.Forms.{Same, tree_form}
use Rattle.idl_rules.specs.Places.{Among}
use Rattle.idl_rules.specs.Least.{least, lesser}
use Rattle.idl_check.specs.declared.firsts.Breach.{Breach}
use Rattle.idl_rules.specs.Broken.{IsLeastBreach, NoneBroken}
use Rattle.idl_rules.proofs.Twins.{broken_too}
use Rattle.idl_outline.specs.Names.{Past}
use Rattle.idl_outline.specs.Outline.{outline}
use Rattle.idl_check.specs.Outlined.{IsOutlined}
use Rattle.idl_check.specs.Firsts.{first_place, IsFirstBelow, IsFirst}

-- ---- the least of a list

min_cases : (x y a : ℕ) → (x < y) ⊎ (y ≤ x) → lesser (Some x) (Some y) ≡ Some a → (a ≡ x) ⊎ (Some y ≡ Some a)
min_cases x y a (inl p) h = inl (let e : min x y ≡ x = omega arith in cc)
min_cases x y a (inr p) h = inr (let e : min x y ≡ y = omega arith in cc)

lesser_cases : (x : ℕ) (o : Option ℕ) (a : ℕ) → lesser (Some x) o ≡ Some a → (a ≡ x) ⊎ (o ≡ Some a)
lesser_cases x None a h = inl (cc)
lesser_cases x (Some y) a h = min_cases x y a (cases_lt x y) h

among_cases : (x a : ℕ) (xs : List ℕ) → (a ≡ x) ⊎ (least xs ≡ Some a) → (least xs ≡ Some a → Among a xs) → Among a (x ∷ xs)
among_cases x a xs (inl e) f = inl e
among_cases x a xs (inr e) f = inr (f e)

-- it is one of the list
pub least_among : (xs : List ℕ) (a : ℕ) → least xs ≡ Some a → Among a xs
least_among [] a h = absurd (cc)
least_among (x ∷ xs) a h = among_cases x a xs (lesser_cases x (least xs) a h) (least_among xs a)

lesser_le : (x : ℕ) (o : Option ℕ) → (a : ℕ) × (lesser (Some x) o ≡ Some a) × (a ≤ x)
lesser_le x None = (x, refl, omega arith)
lesser_le x (Some y) = (min x y, refl, omega arith)

lesser_le_other : (x y : ℕ) (o : Option ℕ) → o ≡ Some y → (a : ℕ) × (lesser (Some x) o ≡ Some a) × (a ≤ y)
lesser_le_other x y o e = (min x y, rw e refl, omega arith)

below_other : (x b : ℕ) (o : Option ℕ) → (a : ℕ) × (o ≡ Some a) × (a ≤ b) → (a : ℕ) × (lesser (Some x) o ≡ Some a) × (a ≤ b)
below_other x b o h = let k = lesser_le_other x h.0 o h.1 in (k.0, k.1, omega (arith, k.2, h.2))

-- none is below it
pub least_below : (xs : List ℕ) (b : ℕ) → Among b xs → (a : ℕ) × (least xs ≡ Some a) × (a ≤ b)
least_below [] b h = absurd h
least_below (x ∷ xs) b (inl e) = subst (λ (n : ℕ). (a : ℕ) × (lesser (Some x) (least xs) ≡ Some a) × (a ≤ n)) (sym e) (lesser_le x (least xs))
least_below (x ∷ xs) b (inr h) = below_other x b (least xs) (least_below xs b h)

-- ---- the first breach

pub before_all : (f : ℕ → Option ℕ) → f 0 ≡ None → IsFirstBelow f 1 None
before_all f h m p = let e : m ≡ 0 = omega arith in ap f e ∙ h

none_left : (f : ℕ → Option ℕ) (m : ℕ) → IsFirstBelow f 10 None → ((n : ℕ) → 10 ≤ n → f n ≡ None) → (m < 10) ⊎ (10 ≤ m) → f m ≡ None
none_left f m h more (inl p) = h m p
none_left f m h more (inr p) = more m p

one_left : (f : ℕ → Option ℕ) (b : Breach) (m at : ℕ) → IsFirstBelow f 10 (Some b) → ((n : ℕ) → 10 ≤ n → f n ≡ None) → f m ≡ Some at → (m < 10) ⊎ (10 ≤ m) → (b.at < at) ⊎ ((b.at ≡ at) × (b.number ≤ m))
one_left f b m at h more q (inl p) = h.2 m at p q
one_left f b m at h more q (inr p) = absurd (let e = more m p in cc)

pub after_all : (f : ℕ → Option ℕ) (best : Option Breach) → IsFirstBelow f 10 best → ((n : ℕ) → 10 ≤ n → f n ≡ None) → IsFirst f best
after_all f None h more = λ m. none_left f m h more (cases_lt m 10)
after_all f (Some b) h more = (h.1, λ m at q. one_left f b m at h more q (cases_lt m 10))

-- ---- what the first breach says of the tree

no_place : (o : Option ℕ) (n : ℕ) → o ≡ None → (a : ℕ) × (o ≡ Some a) × (a ≤ n) → ⊥
no_place o n e h = let f = h.1 in absurd (cc)

pub none_broken : (t : Ast) → IsFirst (first_place (tree_form t)) None → NoneBroken t
none_broken t h = record { none = λ number at b. no_place (first_place (tree_form t) number) at (h number) (least_below _ at b.there) }

later_or : (b : Breach) (m at : ℕ) → b.number ≤ m → (b.at < at) ⊎ (at ≤ b.at) → b.at ≤ at → (b.at < at) ⊎ ((b.at ≡ at) × (b.number ≤ m))
later_or b m at n (inl p) q = inl p
later_or b m at n (inr p) q = inr (omega arith, n)

later : (b : Breach) (m at a : ℕ) → (b.at < a) ⊎ ((b.at ≡ a) × (b.number ≤ m)) → a ≤ at → (b.at < at) ⊎ ((b.at ≡ at) × (b.number ≤ m))
later b m at a (inl p) q = inl (omega arith)
later b m at a (inr p) q = later_or b m at p.1 (cases_lt b.at at) (omega (arith, p.0))

pub least_breach : (t : Ast) (b : Breach) → IsFirst (first_place (tree_form t)) (Some b) → IsLeastBreach t b.number b.at
least_breach t b h = record {
  broken = record { there = least_among _ b.at h.0 };
  first = λ m at k. let l = least_below _ at k.there in later b m at l.0 (h.1 m l.0 l.1) l.2;
}

-- what is the same breaks no rule either
pub none_in_copy : (copy t : Ast) → Same copy t → NoneBroken t → NoneBroken copy
none_in_copy copy t same h = record { none = λ number at b. h.none number at (broken_too copy t same number at b) }

pub kept_copy : (copy t : Ast) (past : Past) → Same copy t → NoneBroken t → past ≡ outline (tree_form t) → IsOutlined copy past
kept_copy copy t past same h e = record { sound = none_in_copy copy t same h; outlined = e ∙ sym (ap outline same) }

pub ruleset found = (none_broken, least_breach)
