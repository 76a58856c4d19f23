use Rattle.std.proofs.Common.{arith}
use Rattle.std.proofs.lemmas.Grind.{common_steps}
use Rattle.ndr_value.proofs.Mirror.{count-vals}
use Rattle.epm_manager.proofs.answers.listing.Goals as goal

pub returns : goal.returns
returns c = grind (arith, common_steps, count-vals)
