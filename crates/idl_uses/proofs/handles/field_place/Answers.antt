use Rattle.std.proofs.Common.{◌≡◌, List, length, get_or, ap, subst, ◌∙◌, arith}
use Rattle.idl_outline.specs.declared.field.Declared.{Declared}
use Rattle.idl_rules.specs.Least.{lesser}
use Rattle.idl_rules.specs.HandleUse.{declared_places}
use Rattle.idl_rules.proofs.Leasts.{each_item}
use Rattle.idl_uses.proofs.handles.field_place.Goals as goal

pub loop-declared-preserved : goal.loop-declared-preserved
loop-declared-preserved c =
    each_item (declared_places c.args.first c.args.field.now) c.args.field.now.declared c.loop-declared.declared-index c.declared-item.result _ _ _ (omega (arith, ap length c.as_slice-declared-items.ensures))
    (subst (λ (ds : List Declared). c.declared-item.result ≡ get_or ds c.loop-declared.declared-index c.declared-item.result) c.as_slice-declared-items.ensures c.declared-item.is) c.loop-declared.invariant
    (c.lesser-found.ensures ∙ ap (lesser c.loop-declared.found) c.declared_place.ensures)
