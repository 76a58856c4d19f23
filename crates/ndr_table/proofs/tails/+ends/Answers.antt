use Rattle.std.proofs.Common.{◌≡◌, ap, sym, ◌∙◌, refl, Bool, false, List}
use Rattle.std.specs.Prelude.{if◌then◌else◌}
use Rattle.ndr_value.specs.Forms.{Forms, no_form, then_form, form, forms}
use Rattle.ndr_value.proofs.Mirror.{form_struct}
use Rattle.ndr_table.specs.Aligned.{is_last}
use Rattle.ndr_table.specs.Tails.{ends_open, last_open}
use Rattle.ndr_table.proofs.tails.+ends.Goals as goal

none_first : (tails : List Bool) (ss : Forms) → (if is_last ss then false else last_open tails ss) ≡ last_open tails ss
none_first tails no_form = refl
none_first tails (then_form s ss) = refl

pub last_by-loop-member-init : goal.last_by-loop-member-init
last_by-loop-member-init t c = none_first c.args.tails.now (forms c.args.members.now)

pub ends_by-returns-in-Struct : goal.ends_by-returns-in-Struct
ends_by-returns-in-Struct t c =
    c.last_by.ensures ∙ ap (last_open c.args.tails.now) (ap forms c.deref.ensures.value)
    ∙ sym (ap (ends_open c.args.tails.now) (ap form c.in-Struct.is ∙ form_struct c.in-Struct.members))
