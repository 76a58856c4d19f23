use Rattle.std.proofs.Common.{arith}
use Rattle.std.proofs.lemmas.Grind.{common_steps}
use Rattle.ndr_pointers.proofs.Alikes.{struct_is, union_is, shapes_end, arms_end}
use Rattle.ndr_pointers.proofs.same.+same.Goals as goal

pub alike-returns-in-Named : goal.alike-returns-in-Named
alike-returns-in-Named t c = rw c.in-Named.is (c.is_named.ensures c.in-Named.field-1)

pub alike-returns-in-Struct : goal.alike-returns-in-Struct
alike-returns-in-Struct t c = rw (struct_is c.args.shape.now _ c.deref.result.now c.in-Struct.is c.deref.ensures.value) c.is_struct.ensures

pub is_struct-returns-in-Struct : goal.is_struct-returns-in-Struct
is_struct-returns-in-Struct t c = rw (struct_is c.args.other.now _ c.deref.result.now c.in-Struct.is c.deref.ensures.value) c.each_alike.ensures

pub arms_alike-returns : goal.arms_alike-returns
arms_alike-returns t c =
    let e = arms_end c.loop-arm.rest.now in
    grind (arith, common_steps, e, c.loop-arm.invariant)

pub each_alike-returns : goal.each_alike-returns
each_alike-returns t c =
    let e = shapes_end c.loop-shape.rest.now in
    grind (arith, common_steps, e, c.loop-shape.invariant)

pub alike-returns-then-alike : goal.alike-returns-then-alike
alike-returns-then-alike t c =
    rw (union_is c.args.shape.now _ _ c.deref-in-Some.result.now c.deref-then-alike.result.now c.in-Union.is c.deref-in-Some.ensures c.deref-then-alike.ensures.value, c.in-Some.ensures, ← c.alike.ensures, c.if-alike.true) c.arms_alike.ensures
