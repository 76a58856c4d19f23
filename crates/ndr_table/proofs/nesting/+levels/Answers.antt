use Rattle.std.proofs.Common.{◌≡◌, ◌+◌, ap, ◌∙◌, arith}
use Rattle.std.specs.Prelude.{max, min}
use Rattle.ndr_value.specs.Forms.{form, forms, arms_of}
use Rattle.ndr_value.proofs.Mirror.{form_struct, form_union}
use Rattle.ndr_table.specs.Nested.{levels, members_levels, arms_levels}
use Rattle.ndr_table.proofs.nesting.+levels.Goals as goal

pub levels_at-returns-in-Struct : goal.levels_at-returns-in-Struct
levels_at-returns-in-Struct t c =
    let is : levels c.args.depths.now (form c.args.shape.now) ≡ members_levels c.args.depths.now (forms c.in-Struct.members.items) + 1 =
    ap (levels c.args.depths.now) (ap form c.in-Struct.is ∙ form_struct c.in-Struct.members) ∙ omega arith in
    cc (is, c.struct_levels.ensures, c.deref.ensures.value)

pub levels_at-returns-in-Union : goal.levels_at-returns-in-Union
levels_at-returns-in-Union t c =
    let own = levels c.args.depths.now (form c.in-Union.tag.value) in
    let others = arms_levels c.args.depths.now (arms_of c.in-Union.arms.items) in
    let is : levels c.args.depths.now (form c.args.shape.now) ≡ max own others + 1 =
    ap (levels c.args.depths.now) (ap form c.in-Union.is ∙ form_union c.in-Union.tag c.in-Union.arms) ∙ omega arith in
    let tagged : c.deeper-own.result ≡ min (own + 1) c.args.most = cc (c.deeper-own.ensures, c.deref-in-Union.ensures) in
    let armed : c.arms_deeper.result ≡ min (others + 1) c.args.most = cc (c.arms_deeper.ensures, c.deref-in-Union-2.ensures.value) in
    omega (arith, is, tagged, armed, c.max.ensures)
