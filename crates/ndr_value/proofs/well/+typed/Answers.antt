use Rattle.std.proofs.Common.{◌≡◌, map, arith, to_z, of_z, w64, rules}
use mir.Val.{SFits}
use Rattle.std.proofs.lemmas.Int.{to_z-of_z}
use Rattle.std.proofs.lemmas.Grind.{common_steps}
use Rattle.ndr_value.specs.Forms.{form}
use Rattle.ndr_value.proofs.Mirror.{struct_arm, array_arm, octets_arm, empty_arm, union_arm, ended}
use Rattle.ndr_value.proofs.well.+typed.Goals as goal

pub each_of-returns : goal.each_of-returns
each_of-returns t c =
    let e = ended (map form c.args.types.now) c.args.heap c.args.level c.loop-value.rest.now in
    grind (arith, common_steps, e, c.loop-value.invariant)

pub is_typed-returns-in-Struct : goal.is_typed-returns-in-Struct
is_typed-returns-in-Struct t c =
    struct_arm c.args.types.now c.args.heap c.args.level _ (form c.args.shape.now) _ _ c.plain_shape-shape.ensures _ _ c.in-Struct.is c.deref.ensures.value c.struct_typed.ensures

pub is_typed-returns-in-None : goal.is_typed-returns-in-None
is_typed-returns-in-None t c =
    let fits : SFits w64 c.in-Union.tag = search rules in
    let k : to_z w64 (of_z w64 c.in-Union.tag) ≡ c.in-Union.tag = to_z-of_z w64 c.in-Union.tag fits in
    empty_arm c.args.types.now c.args.heap c.args.level _ (form c.args.shape.now) _ _ c.plain_shape-shape.ensures _ (to_z w64 (of_z w64 c.in-Union.tag)) _ k c.in-Union.is c.in-None.is c.is_empty_arm.ensures

pub is_typed-returns-in-Some : goal.is_typed-returns-in-Some
is_typed-returns-in-Some t c =
    let fits : SFits w64 c.in-Union.tag = search rules in
    let k : to_z w64 (of_z w64 c.in-Union.tag) ≡ c.in-Union.tag = to_z-of_z w64 c.in-Union.tag fits in
    union_arm c.args.types.now c.args.heap c.args.level _ (form c.args.shape.now) _ _ c.plain_shape-shape.ensures _ (to_z w64 (of_z w64 c.in-Union.tag)) _ _ _ k c.in-Union.is c.in-Some.is c.deref-in-Some.ensures c.arm_typed.ensures

pub is_typed-returns-in-Array : goal.is_typed-returns-in-Array
is_typed-returns-in-Array t c =
    array_arm c.args.types.now c.args.heap c.args.level _ (form c.args.shape.now) _ _ c.plain_shape-shape.ensures _ _ c.in-Array.is c.deref-in-Array.ensures.value c.array_typed.ensures

pub is_typed-returns-in-Octets : goal.is_typed-returns-in-Octets
is_typed-returns-in-Octets t c =
    octets_arm c.args.types.now c.args.heap c.args.level _ (form c.args.shape.now) _ _ c.plain_shape-shape.ensures _ _ c.in-Octets.is c.len.ensures c.octets_typed.ensures
