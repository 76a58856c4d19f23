use Rattle.std.proofs.Common.{arith}
use Rattle.std.proofs.lemmas.Grind.{common_steps}
use Rattle.ndr_agree.proofs.Parts.{struct_is, array_is, vals_end}
use Rattle.ndr_agree.proofs.message.+same.Goals as goal

pub value_same-returns-in-Struct : goal.value_same-returns-in-Struct
value_same-returns-in-Struct t c = rw (struct_is c.args.value.now _ c.deref.result.now c.in-Struct.is c.deref.ensures.value) c.is_struct.ensures

pub value_same-returns-in-Array : goal.value_same-returns-in-Array
value_same-returns-in-Array t c = rw (array_is c.args.value.now _ c.deref-in-Array.result.now c.in-Array.is c.deref-in-Array.ensures.value) c.is_array.ensures

pub is_struct-returns-in-Struct : goal.is_struct-returns-in-Struct
is_struct-returns-in-Struct t c = rw (struct_is c.args.other.now _ c.deref.result.now c.in-Struct.is c.deref.ensures.value) c.each_same.ensures

pub is_array-returns-in-Array : goal.is_array-returns-in-Array
is_array-returns-in-Array t c = rw (array_is c.args.other.now _ c.deref.result.now c.in-Array.is c.deref.ensures.value) c.each_same.ensures

pub each_same-returns : goal.each_same-returns
each_same-returns t c =
    let e = vals_end c.loop-value.rest.now in
    grind (arith, common_steps, e, c.loop-value.invariant)
