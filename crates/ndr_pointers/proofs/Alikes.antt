-- Shapes that are compared, part by part.
use Rattle.std.proofs.Common.{◌≡◌, List, [], ◌∷◌, length, refl, sym, ap, ◌∙◌, Vec, Global, arith}
use Rattle.std.specs.Global.{Box}
use Rattle.std.specs.Prelude.{◌==◌}
use Rattle.std.proofs.lemmas.Grind.{common_steps}
use Rattle.ndr_value.specs.declared.shape.Arm.{Arm}
use Rattle.ndr_value.specs.declared.shape.Shape.{Shape}
use Rattle.ndr_value.specs.declared.shape.Shape.TheVariants as shapes
use Rattle.ndr_value.specs.Forms.{OfStruct, OfUnion, no_form, no_arm, form, forms, arms_of}
use Rattle.ndr_value.proofs.Mirror.{form_struct, form_union}
use Rattle.ndr_model.specs.Same.{same_each, same_arms}

pub struct_is : (s : Shape) (v : Vec Shape Global) (ss : List Shape) → s ≡ shapes.Struct v → ss ≡ v.items → form s ≡ OfStruct (forms ss)
struct_is s v ss s_is ss_is = ap form s_is ∙ form_struct v ∙ ap (λ (x : List Shape). OfStruct (forms x)) (sym ss_is)

pub union_is : (s : Shape) (b : Box Shape) (v : Vec Arm Global) (t : Shape) (as' : List Arm) → s ≡ shapes.Union b v → t ≡ b.value → as' ≡ v.items → form s ≡ OfUnion (form t) (arms_of as')
union_is s b v t as' s_is t_is as_is = ap form s_is ∙ form_union b v ∙ ap (λ (x : Shape). OfUnion (form x) (arms_of v.items)) (sym t_is) ∙ ap (λ (x : List Arm). OfUnion (form t) (arms_of x)) (sym as_is)

pub shapes_end : (rest : List Shape) → same_each no_form (forms rest) ≡ (length rest == 0)
shapes_end [] = refl
shapes_end (s ∷ ss) = grind (arith, common_steps)

pub arms_end : (rest : List Arm) → same_arms no_arm (arms_of rest) ≡ (length rest == 0)
arms_end [] = refl
arms_end (a ∷ as') = grind (arith, common_steps)
