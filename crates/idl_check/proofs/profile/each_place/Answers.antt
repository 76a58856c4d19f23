use Rattle.std.proofs.Common.{ap, ◌∙◌, arith}
use Rattle.idl_rules.specs.Least.{lesser}
use Rattle.idl_rules.specs.OutsideProfile.{field_places}
use Rattle.idl_rules.proofs.Leasts.{each_item}
use Rattle.idl_check.proofs.profile.each_place.Goals as goal

pub loop-field-preserved : goal.loop-field-preserved
loop-field-preserved c = each_item field_places c.args.fields.now c.loop-field.field-index c.field-item.result _ _ _ (omega arith) c.field-item.is c.loop-field.invariant (c.lesser-found.ensures ∙ ap (lesser c.loop-field.found) c.field_place.ensures)
