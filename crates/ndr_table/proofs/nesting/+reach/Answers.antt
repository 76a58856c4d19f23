use Rattle.std.proofs.Common.{◌≡◌, ap, sym, ◌∙◌}
use Rattle.ndr_value.specs.Forms.{form, forms, arms_of}
use Rattle.ndr_value.proofs.Mirror.{form_struct, form_union}
use Rattle.ndr_table.specs.Nested.{reaches_few, each_reaches, arms_reach}
use Rattle.ndr_table.proofs.nesting.+reach.Goals as goal

pub reaches_few-returns-in-Struct : goal.reaches_few-returns-in-Struct
reaches_few-returns-in-Struct t c =
    c.each_reaches.ensures ∙ ap (each_reaches 256 c.args.depths.now) (ap forms c.deref.ensures.value)
    ∙ sym (ap (reaches_few 256 c.args.depths.now) (ap form c.in-Struct.is ∙ form_struct c.in-Struct.members))

pub reaches_few-returns-in-Union : goal.reaches_few-returns-in-Union
reaches_few-returns-in-Union t c =
    c.arms_reach.ensures ∙ ap (arms_reach 256 c.args.depths.now) (ap arms_of c.deref-in-Union.ensures.value)
    ∙ sym (ap (reaches_few 256 c.args.depths.now) (ap form c.in-Union.is ∙ form_union c.in-Union.tag c.in-Union.arms))
