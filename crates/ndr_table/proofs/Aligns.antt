-- Largest alignments, and alignments one after another.
use Rattle.std.proofs.Common.{◌≡◌, ℕ, suc, ◌+◌, ◌<◌, ◌≤◌, List, [], ◌∷◌, length, refl, ap, sym, ◌∙◌, arith, drop, get_or, Bool, length-drop}
use Rattle.std.proofs.Math.Seq.{drop-cons}
use Rattle.std.specs.Prelude.{◌==◌, max}
use Rattle.std.proofs.lemmas.Grind.{common_steps}
use Rattle.ndr_value.specs.declared.shape.Shape.{Shape}
use Rattle.ndr_value.specs.Forms.{Forms, no_form, then_form, ArmForms, no_arm, then_arm, form, forms}
use Rattle.ndr_table.specs.Aligned.{is_last, aligned, members_align, arms_align}

pub last_is : (ss : List Shape) → is_last (forms ss) ≡ (length ss == 0)
last_is [] = refl
last_is (s ∷ ss) = grind (arith, common_steps)

pub members_from_1 : (aligns : List ℕ) (ss : Forms) → 1 ≤ members_align aligns ss
members_from_1 aligns no_form = omega arith
members_from_1 aligns (then_form s ss) = omega (arith, members_from_1 aligns ss)

pub arms_from_1 : (aligns : List ℕ) (as' : ArmForms) → 1 ≤ arms_align aligns as'
arms_from_1 aligns no_arm = omega arith
arms_from_1 aligns (then_arm cases default b rest) = omega (arith, arms_from_1 aligns rest)

pub members_first : (aligns : List ℕ) (ss : Forms) → max 1 (members_align aligns ss) ≡ members_align aligns ss
members_first aligns ss = omega (arith, members_from_1 aligns ss)

pub arms_first : (aligns : List ℕ) (as' : ArmForms) → max 1 (arms_align aligns as') ≡ arms_align aligns as'
arms_first aligns as' = omega (arith, arms_from_1 aligns as')

-- one member more
pub members_more : (aligns : List ℕ) (xs : List Shape) (i most left : ℕ) (x : Shape) → i < length xs → x ≡ get_or xs i x → left + suc i ≡ length xs
    → max most (members_align aligns (forms (drop i xs))) ≡ members_align aligns (forms xs)
    → max (max (aligned aligns (left == 0) (form x)) most) (members_align aligns (forms (drop (suc i) xs))) ≡ members_align aligns (forms xs)
members_more aligns xs i most left x within is counted largest =
    let cut : drop i xs ≡ x ∷ drop (suc i) xs = drop-cons xs i x within ∙ ap (λ (y : Shape). y ∷ drop (suc i) xs) (sym is) in
    let rest : List Shape = drop (suc i) xs in
    let few : length rest ≡ left = length-drop (suc i) xs ∙ omega arith in
    let ends : is_last (forms rest) ≡ (left == 0) = last_is rest ∙ ap (λ (n : ℕ). n == 0) few in
    let whole : members_align aligns (forms (drop i xs)) ≡ max (aligned aligns (left == 0) (form x)) (members_align aligns (forms rest)) =
    ap (λ (ys : List Shape). members_align aligns (forms ys)) cut ∙ ap (λ (b : Bool). max (aligned aligns b (form x)) (members_align aligns (forms rest))) ends in
    omega (arith, whole, largest)
