use Rattle.std.proofs.Common.{rules, ◌+◌, ◌∷◌, [], ◌∙◌}
use Rattle.rpc_base.specs.declared.identifiers.Order.TheVariants.{Little}
use Rattle.rpc_base.specs.Fields.{u16_octets}
use Rattle.tower_codec.specs.declared.fault.TowerFault.TheVariants.{FloorKind}
use Rattle.tower_codec.specs.Departures.{StopsFloor}
use Rattle.tower_codec.proofs.DepartureLaws.{pass_fixed, pass_free, floor_parts}
use Rattle.tower_codec.proofs.reading.take_floor.Goals as goal

pub returns-in_err-rest-clause-err : goal.returns-in_err-rest-clause-err
returns-in_err-rest-clause-err c =
    let stops : StopsFloor c.args.number c.args.protocol c.args.left c.args.right c.args.octets.now c.in_err-rest.field-0.0 = λ behind. c.in_err-rest.ensures.err _ in search rules

pub returns-in_err-rest-2-clause-err : goal.returns-in_err-rest-2-clause-err
returns-in_err-rest-2-clause-err c =
    let stops : StopsFloor c.args.number c.args.protocol c.args.left c.args.right c.args.octets.now c.in_err-rest-2.field-0.0 =
    λ behind. pass_fixed (u16_octets Little (c.args.left + 1)) c.in_ok-rest.rest.now c.args.octets.now (FloorKind c.args.number) _ c.in_ok-rest.ensures.ok ∙ c.in_err-rest-2.ensures.err _ in search rules

pub returns-in_err-left-clause-err : goal.returns-in_err-left-clause-err
returns-in_err-left-clause-err c =
    let stops : StopsFloor c.args.number c.args.protocol c.args.left c.args.right c.args.octets.now c.in_err-left.field-0.0 =
    λ behind. pass_fixed (u16_octets Little (c.args.left + 1)) c.in_ok-rest.rest.now c.args.octets.now (FloorKind c.args.number) _ c.in_ok-rest.ensures.ok
    ∙ (pass_fixed (c.args.protocol ∷ []) c.in_ok-rest-2.rest.now c.in_ok-rest.rest.now (FloorKind c.args.number) _ c.in_ok-rest-2.ensures.ok ∙ c.in_err-left.ensures.err _) in search rules

pub returns-in_err-rest-3-clause-err : goal.returns-in_err-rest-3-clause-err
returns-in_err-rest-3-clause-err c =
    let stops : StopsFloor c.args.number c.args.protocol c.args.left c.args.right c.args.octets.now c.in_err-rest-3.field-0.0 =
    λ behind. pass_fixed (u16_octets Little (c.args.left + 1)) c.in_ok-rest.rest.now c.args.octets.now (FloorKind c.args.number) _ c.in_ok-rest.ensures.ok
    ∙ (pass_fixed (c.args.protocol ∷ []) c.in_ok-rest-2.rest.now c.in_ok-rest.rest.now (FloorKind c.args.number) _ c.in_ok-rest-2.ensures.ok
    ∙ (pass_free c.args.left c.in_ok-left.left.now c.in_ok-left.rest.now c.in_ok-rest-2.rest.now _ c.in_ok-left.ensures.ok.0 c.in_ok-left.ensures.ok.1 ∙ c.in_err-rest-3.ensures.err _)) in search rules

pub returns-in_err-right-clause-err : goal.returns-in_err-right-clause-err
returns-in_err-right-clause-err c =
    let stops : StopsFloor c.args.number c.args.protocol c.args.left c.args.right c.args.octets.now c.in_err-right.field-0.0 =
    λ behind. pass_fixed (u16_octets Little (c.args.left + 1)) c.in_ok-rest.rest.now c.args.octets.now (FloorKind c.args.number) _ c.in_ok-rest.ensures.ok
    ∙ (pass_fixed (c.args.protocol ∷ []) c.in_ok-rest-2.rest.now c.in_ok-rest.rest.now (FloorKind c.args.number) _ c.in_ok-rest-2.ensures.ok
    ∙ (pass_free c.args.left c.in_ok-left.left.now c.in_ok-left.rest.now c.in_ok-rest-2.rest.now _ c.in_ok-left.ensures.ok.0 c.in_ok-left.ensures.ok.1
    ∙ (pass_fixed (u16_octets Little c.args.right) c.in_ok-rest-3.rest.now c.in_ok-left.rest.now (FloorKind c.args.number) _ c.in_ok-rest-3.ensures.ok ∙ c.in_err-right.ensures.err _))) in search rules

pub returns-clause-ok : goal.returns-clause-ok
returns-clause-ok c = (
  c.in_ok-left.ensures.ok.0,
  c.in_ok-right.ensures.ok.0,
  floor_parts c.args.protocol c.args.left c.args.right c.in_ok-left.left.now c.in_ok-right.right.now c.args.octets.now c.in_ok-rest.rest.now c.in_ok-rest-2.rest.now c.in_ok-left.rest.now c.in_ok-rest-3.rest.now c.in_ok-right.rest.now
      c.in_ok-left.ensures.ok.0 c.in_ok-right.ensures.ok.0 c.in_ok-rest.ensures.ok c.in_ok-rest-2.ensures.ok c.in_ok-left.ensures.ok.1 c.in_ok-rest-3.ensures.ok c.in_ok-right.ensures.ok.1,
)
