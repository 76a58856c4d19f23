use Rattle.std.proofs.Common.{◌≡◌, ◌∙◌, map, length, sym, ap, List, ℕ, rules}
use Rattle.ndr_value.specs.declared.shape.Shape.{Shape}
use Rattle.ndr_value.specs.Forms.{form}
use Rattle.ndr_value.specs.Values.{val}
use Rattle.ndr_value.specs.Judged.{typed}
use Rattle.ndr_value.proofs.Judges.{stands, judged}
use Rattle.ndr_value.proofs.well.well_typed.Goals as goal

pub returns : goal.returns
returns c =
    let n : c.len.result ≡ length c.args.heap.now.items = search rules in
    let e : c.is_typed.result ≡ typed (map form c.args.types.now.items) (length c.args.heap.now.items) 0 (val c.args.value.now) (form c.args.shape.now) =
    c.is_typed.ensures ∙ ap (λ (ts : List Shape). typed (map form ts) c.len.result 0 (val c.args.value.now) (form c.args.shape.now)) c.deref.ensures.value
    ∙ ap (λ (n : ℕ). typed (map form c.args.types.now.items) n 0 (val c.args.value.now) (form c.args.shape.now)) n in (
      λ h. stands (map form c.args.types.now.items) (length c.args.heap.now.items) (val c.args.value.now) 0 (form c.args.shape.now) (sym e ∙ h),
      λ t. e ∙ judged (map form c.args.types.now.items) (length c.args.heap.now.items) t,
    )
