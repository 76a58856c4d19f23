use Rattle.std.proofs.Common.{sym, arith}
use Rattle.journal_reader.proofs.Cutting.{cut_none}
use Rattle.journal_reader.proofs.cut.cut_two.Goals as goal

pub returns-in_err-first : goal.returns-in_err-first
returns-in_err-first c = rw c.from_residual.ensures (cut_none c.args.octet 2 c.args.text.now (omega arith) c.in_err-first.ensures)

pub returns : goal.returns
returns c = let cut = c.in_ok-first.ensures in ((cut.1, tt), sym cut.0)
