use Rattle.std.proofs.Common.{[]}
use Rattle.presentation.specs.Offers.{contexts_after}
use Rattle.presentation.proofs.Offered.{split, kept}
use Rattle.presentation.proofs.laws.keeps_what_it_accepts.Goals as goal

pub returns : goal.returns
returns c ids before later context k h =
    rw (split ids [] before later) (kept ids (contexts_after ids [] before) later context k h)
