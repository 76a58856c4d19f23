use Rattle.std.proofs.Common.{◌≡◌, map, to_z, of_z, w64, rules}
use mir.Val.{SFits}
use Rattle.std.proofs.lemmas.Int.{to_z-of_z}
use Rattle.ndr_value.specs.Forms.{form}
use Rattle.client_texts.specs.Pointers.{aim_of}
use Rattle.client_texts.proofs.Pointers.{more, struct_aims, array_aims, octets_aims, union_aims}
use Rattle.client_texts.proofs.aims.+aims.Goals as goal

pub add_aims-returns-in-Struct : goal.add_aims-returns-in-Struct
add_aims-returns-in-Struct t c =
    more c.add_each.result _ _ _ _ (struct_aims c.args.types.now c.args.value.now (form c.args.shape.now) _ c.plain_shape-shape.ensures _ _ _ c.in-Struct.is c.deref.ensures.value c.members.ensures) c.add_each.ensures

pub add_aims-returns-in-Some : goal.add_aims-returns-in-Some
add_aims-returns-in-Some t c =
    let fits : SFits w64 c.in-Union.tag = search rules in
    let k : to_z w64 (of_z w64 c.in-Union.tag) ≡ c.in-Union.tag = to_z-of_z w64 c.in-Union.tag fits in
    more c.add_arm.result _ _ _ _
    (union_aims c.args.types.now c.args.value.now (form c.args.shape.now) _ c.plain_shape-shape.ensures c.in-Union.tag (to_z w64 (of_z w64 c.in-Union.tag)) _ _ _ k c.in-Union.is c.in-Some.is c.deref-in-Some.ensures) c.add_arm.ensures

pub add_aims-returns-in-Array : goal.add_aims-returns-in-Array
add_aims-returns-in-Array t c =
    more c.add_all.result _ _ _ _ (array_aims c.args.types.now c.args.value.now (form c.args.shape.now) _ c.plain_shape-shape.ensures _ _ _ c.in-Array.is c.deref-in-Array.ensures.value c.inner.ensures) c.add_all.ensures

pub add_aims-returns-in-Octets : goal.add_aims-returns-in-Octets
add_aims-returns-in-Octets t c = octets_aims c.args.types.now c.args.value.now (form c.args.shape.now) _ c.plain_shape-shape.ensures _ (map aim_of c.args.into.now.items) c.in-Octets.is
