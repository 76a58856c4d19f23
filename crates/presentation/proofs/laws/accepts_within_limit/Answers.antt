use Rattle.std.proofs.Common.{[], arith}
use Rattle.presentation.proofs.Offered.{bounded}
use Rattle.presentation.proofs.laws.accepts_within_limit.Goals as goal

pub returns : goal.returns
returns c ids elements = bounded ids [] elements (omega arith)
