use Rattle.std.proofs.Common.{List, subst, arith, Ok, Err}
use Rattle.idl_outline.specs.declared.field.Declared.{Declared}
use Rattle.idl_rules.specs.TooManyHandles.{Behind}
use Rattle.idl_check.proofs.Counted.{declared_found, declared_passed}
use Rattle.idl_check.proofs.handles.place_behind.Goals as goal

pub returns-in-Ok : goal.returns-in-Ok
returns-in-Ok c =
    declared_found c.args.fields.now c.loop-field.field-index c.field-item.result _ _ _ (omega arith) c.field-item.is c.loop-field.invariant
    (subst (λ (ds : List Declared). Behind ds c.loop-field.left (Ok c.in-Ok.at)) c.as_slice.ensures c.in-Ok.ensures)

pub loop-field-preserved : goal.loop-field-preserved
loop-field-preserved c =
    declared_passed c.args.fields.now c.loop-field.field-index c.field-item.result _ _ _ (omega arith) c.field-item.is c.loop-field.invariant
    (subst (λ (ds : List Declared). Behind ds c.loop-field.left (Err c.in-Err.more)) c.as_slice.ensures c.in-Err.ensures)
