use Rattle.std.proofs.Common.{◌≡◌, ap, ◌∙◌, sym, subst, true, false, ℤ, to_z, of_z, w64}
use Rattle.std.specs.Prelude.{MatchOption}
use Rattle.std.proofs.lemmas.Int.{to_z-of_z}
use Rattle.ndr_value.specs.Forms.{form, OfUnion, arms_of}
use Rattle.ndr_value.specs.Fits.{arm_of}
use Rattle.ndr_value.specs.Judged as judged
use Rattle.ndr_value.proofs.Mirror.{form_union}
use Rattle.client_texts.proofs.aims.held.Goals as goal

pub returns-in-Union : goal.returns-in-Union
returns-in-Union c =
    let e : form c.args.shape.now ≡ OfUnion (form c.deref.result.now) (arms_of c.deref-in-Union.result.now) =
    ap form c.in-Union.is ∙ form_union c.in-Union.kind c.in-Union.arms ∙ ap (λ s. OfUnion (form s) (arms_of c.in-Union.arms.items)) (sym c.deref.ensures)
    ∙ ap (λ as'. OfUnion (form c.deref.result.now) (arms_of as')) (sym c.deref-in-Union.ensures.value) in
    let k : to_z w64 (of_z w64 c.args.tag) ≡ c.args.tag = to_z-of_z w64 c.args.tag c.ranges.tag in
    let P : ℤ → Type 0 = λ z. MatchOption c.held_in.result (judged.is_held (arm_of (OfUnion (form c.deref.result.now) (arms_of c.deref-in-Union.result.now)) z) ≡ false)
    (λ s. (judged.is_held (arm_of (OfUnion (form c.deref.result.now) (arms_of c.deref-in-Union.result.now)) z) ≡ true) × (judged.held (arm_of (OfUnion (form c.deref.result.now) (arms_of c.deref-in-Union.result.now)) z) ≡ form s.now)) in
    rw e (subst P k c.held_in.ensures)
