use Rattle.std.proofs.Common.{[]}
use Rattle.presentation.proofs.Offered.{split}
use Rattle.presentation.proofs.laws.one_after_the_other.Goals as goal

pub returns : goal.returns
returns c ids before later = split ids [] before later
