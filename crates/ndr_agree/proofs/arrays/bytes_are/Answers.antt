use Rattle.std.proofs.Common.{arith}
use Rattle.std.proofs.lemmas.Grind.{common_steps}
use Rattle.ndr_agree.proofs.Parts.{bytes_end}
use Rattle.ndr_agree.proofs.arrays.bytes_are.Goals as goal

pub returns : goal.returns
returns c =
    let e = bytes_end c.loop-value.rest.now in
    grind (arith, common_steps, e, c.loop-value.invariant)
