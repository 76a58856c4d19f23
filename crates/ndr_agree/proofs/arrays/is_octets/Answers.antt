use Rattle.ndr_agree.proofs.Parts.{array_is}
use Rattle.ndr_agree.proofs.arrays.is_octets.Goals as goal

pub returns-in-Array : goal.returns-in-Array
returns-in-Array c = rw (array_is c.args.other.now _ c.deref.result.now c.in-Array.is c.deref.ensures.value) c.are_bytes.ensures
