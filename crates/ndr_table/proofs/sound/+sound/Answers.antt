use Rattle.std.proofs.Common.{◌≡◌, ap, sym, ◌∙◌}
use Rattle.std.specs.Prelude.{◌&&◌}
use Rattle.ndr_value.specs.Forms.{Forms, form, forms, arms_of}
use Rattle.ndr_value.proofs.Mirror.{form_struct, form_union}
use Rattle.ndr_table.specs.Sound.{is_tag, has_member, is_sound, each_sound, arms_sound}
use Rattle.ndr_table.proofs.sound.+sound.Goals as goal

pub is_sound-returns-in-Struct : goal.is_sound-returns-in-Struct
is_sound-returns-in-Struct t c =
    c.struct_sound.ensures ∙ ap (λ (ss : Forms). has_member ss && each_sound ss) (ap forms c.deref.ensures.value)
    ∙ sym (ap is_sound (ap form c.in-Struct.is ∙ form_struct c.in-Struct.members))

pub is_sound-returns-in-Union : goal.is_sound-returns-in-Union
is_sound-returns-in-Union t c =
    let is : is_sound (form c.args.shape.now) ≡ ((is_tag (form c.in-Union.tag.value) && is_sound (form c.in-Union.tag.value)) && arms_sound (arms_of c.in-Union.arms.items)) =
    ap is_sound (ap form c.in-Union.is ∙ form_union c.in-Union.tag c.in-Union.arms) in
    cc (is, c.both.ensures, c.tag_sound.ensures, c.arms_sound.ensures, c.deref-in-Union.ensures, c.deref-in-Union-2.ensures.value)
