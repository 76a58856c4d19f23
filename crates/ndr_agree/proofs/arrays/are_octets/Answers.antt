use Rattle.std.proofs.Common.{sym, ◌∙◌}
use Rattle.ndr_agree.proofs.Parts.{bytes_same}
use Rattle.ndr_agree.proofs.arrays.are_octets.Goals as goal

pub returns : goal.returns
returns c = c.same_octets.ensures ∙ sym (bytes_same c.args.octets.now c.args.others.now)
