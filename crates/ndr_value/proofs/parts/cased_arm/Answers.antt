use Rattle.std.proofs.Common.{◌≡◌, ap, ◌∙◌, sym, true, ℤ, drop, subst, to_z, of_z, w64}
use Rattle.std.specs.List.{list_any}
use Rattle.std.specs.Ordering.{int_eq}
use Rattle.std.proofs.lemmas.Int.{to_z-of_z}
use Rattle.ndr_value.specs.Forms.{arms_of}
use Rattle.ndr_value.specs.Fits.{with_case}
use Rattle.ndr_value.proofs.Mirror.{case_found}
use Rattle.ndr_value.proofs.parts.cased_arm.Goals as goal

pub returns-then-contains : goal.returns-then-contains
returns-then-contains c =
    let k : to_z w64 (of_z w64 c.args.tag) ≡ c.args.tag = to_z-of_z w64 c.args.tag c.ranges.tag in
    let e : list_any (λ y. int_eq y (to_z w64 (of_z w64 c.args.tag))) c.as_slice.result.now ≡ true = sym c.contains.ensures.value ∙ c.if-contains.true in
    let P : ℤ → Type 0 = λ z. with_case (arms_of (drop c.loop-arm.arm-index c.args.arms.now)) z ≡ with_case (arms_of c.args.arms.now) z in
    case_found c.args.arms.now c.loop-arm.arm-index c.arm-item.result c.args.tag c.loop-arm-test.true c.arm-item.is
    (ap (λ xs. list_any (λ y. int_eq y c.args.tag) xs) (sym c.as_slice.ensures) ∙ ap (λ z. list_any (λ y. int_eq y z) c.as_slice.result.now) (sym k) ∙ e) (subst P k c.loop-arm.invariant)
