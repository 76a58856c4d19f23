use Rattle.std.proofs.Common.{ap, sym, ◌∙◌}
use Rattle.ndr_value.specs.Forms.{form, forms, arms_of, OfStruct, OfUnion}
use Rattle.ndr_value.proofs.Mirror.{form_struct, form_union, same_forms, same_arms}
use Rattle.ndr_value.proofs.copy.+copy.Goals as goal

pub copied-returns-in_ok-each_copied-in-Struct : goal.copied-returns-in_ok-each_copied-in-Struct
copied-returns-in_ok-each_copied-in-Struct t c =
    c.struct_of.ensures
    ∙ ap OfStruct (same_forms c.in_ok-each_copied-in-Struct.field-0.items c.deref.result.now c.in_ok-each_copied-in-Struct.ensures ∙ ap forms c.deref.ensures.value)
    ∙ sym (ap form c.in-Struct.is ∙ form_struct c.in-Struct.members)

pub copied-returns-in_ok-arms_copied-in-Union : goal.copied-returns-in_ok-arms_copied-in-Union
copied-returns-in_ok-arms_copied-in-Union t c =
    c.union_of.ensures
    ∙ ap (λ s. OfUnion s (arms_of c.in_ok-arms_copied-in-Union.field-0.items)) (c.in_ok-tag-in-Union.ensures ∙ ap form c.deref-in-Union.ensures)
    ∙ ap (OfUnion (form c.in-Union.tag.value)) (same_arms c.in_ok-arms_copied-in-Union.field-0.items c.deref-in-Union-2.result.now c.in_ok-arms_copied-in-Union.ensures ∙ ap arms_of c.deref-in-Union-2.ensures.value)
    ∙ sym (ap form c.in-Union.is ∙ form_union c.in-Union.tag c.in-Union.arms)
