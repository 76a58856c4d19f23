use Rattle.ndr_pointers.proofs.Alikes.{union_is}
use Rattle.ndr_pointers.proofs.same.union_parts.Goals as goal

pub returns-in-Union : goal.returns-in-Union
returns-in-Union c = union_is c.args.shape.now _ _ c.deref.result.now c.as_slice.result.now c.in-Union.is c.deref.ensures c.as_slice.ensures.value
