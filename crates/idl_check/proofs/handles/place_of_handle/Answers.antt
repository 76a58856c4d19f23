use Rattle.std.proofs.Common.{List, subst, arith, Ok, Err}
use Rattle.std.specs.List.{filter}
use Rattle.idl_outline.specs.declared.field.Declared.{Declared}
use Rattle.idl_rules.specs.TooManyHandles.{Behind, is_handle}
use Rattle.idl_check.proofs.Counted.{handles_found, handles_passed}
use Rattle.idl_check.proofs.handles.place_of_handle.Goals as goal

pub returns-in-Ok : goal.returns-in-Ok
returns-in-Ok c =
    handles_found c.args.fields.now c.loop-field.field-index c.field-item.result _ _ _ (omega arith) c.field-item.is c.loop-field.invariant
    (subst (λ (ds : List Declared). Behind (filter is_handle ds) c.loop-field.left (Ok c.in-Ok.at)) c.as_slice.ensures c.in-Ok.ensures)

pub loop-field-preserved : goal.loop-field-preserved
loop-field-preserved c =
    handles_passed c.args.fields.now c.loop-field.field-index c.field-item.result _ _ _ (omega arith) c.field-item.is c.loop-field.invariant
    (subst (λ (ds : List Declared). Behind (filter is_handle ds) c.loop-field.left (Err c.in-Err.more)) c.as_slice.ensures c.in-Err.ensures)
