use Rattle.std.proofs.Common.{ap, sym, ◌∙◌, arith, ◌≡◌, false, ◌-◌, add-one}
use Rattle.std.specs.Prelude.{max}
use Rattle.ndr_value.specs.Forms.{form, forms, arms_of}
use Rattle.ndr_value.proofs.Mirror.{form_struct, form_union}
use Rattle.ndr_table.specs.Aligned.{aligned, members_align, arms_align}
use Rattle.ndr_table.proofs.Aligns.{members_first, arms_first, members_more}
use Rattle.ndr_table.proofs.align.+align.Goals as goal

pub align_at-returns-in-Struct : goal.align_at-returns-in-Struct
align_at-returns-in-Struct t c =
    c.members_at.ensures ∙ ap (members_align c.args.aligns.now) (ap forms c.deref.ensures.value)
    ∙ sym (ap (aligned c.args.aligns.now c.args.ends) (ap form c.in-Struct.is ∙ form_struct c.in-Struct.members))

pub align_at-returns-in-Union : goal.align_at-returns-in-Union
align_at-returns-in-Union t c =
    let is : aligned c.args.aligns.now c.args.ends (form c.args.shape.now) ≡ max (aligned c.args.aligns.now false (form c.in-Union.tag.value)) (arms_align c.args.aligns.now (arms_of c.in-Union.arms.items)) =
    ap (aligned c.args.aligns.now c.args.ends) (ap form c.in-Union.is ∙ form_union c.in-Union.tag c.in-Union.arms) in
    cc (is, c.max.ensures, c.align_at-own.ensures, c.arms_at.ensures, c.deref-in-Union.ensures, c.deref-in-Union-2.ensures.value)

pub arms_at-loop-arm-init : goal.arms_at-loop-arm-init
arms_at-loop-arm-init t c = record { from_1 = omega arith; largest = arms_first c.args.aligns.now (arms_of c.args.arms.now) }

pub members_at-loop-member-init : goal.members_at-loop-member-init
members_at-loop-member-init t c = record { counted = omega arith; from_1 = omega arith; largest = members_first c.args.aligns.now (forms c.args.members.now) }

pub members_at-loop-member-preserved : goal.members_at-loop-member-preserved
members_at-loop-member-preserved t c = record {
  counted = omega (arith, c.loop-member.invariant.counted);
  from_1 = omega (arith, c.loop-member.invariant.from_1, c.max-most.ensures);
  largest =
      let h = members_more c.args.aligns.now c.args.members.now c.loop-member.member-index c.loop-member.most (c.loop-member.left - 1) c.member-item.result (omega (arith, c.loop-member-test.true)) c.member-item.is (omega (arith, c.loop-member.invariant.counted)) c.loop-member.invariant.largest in
      cc (h, add-one c.loop-member.member-index, c.max-most.ensures, c.align_at.ensures);
}
