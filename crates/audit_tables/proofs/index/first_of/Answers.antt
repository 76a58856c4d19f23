use Rattle.std.proofs.Common.{rules}
use Rattle.audit_tables.proofs.Using.{pair_in_range}
use Rattle.audit_tables.proofs.index.first_of.Goals as goal

pub returns-in-None : goal.returns-in-None
returns-in-None c = λ k small. (c.range.ensures.in_range (search rules)).5 c.in-None.ensures.steps.0 (c.args.conn, k) (rw (c.new.ensures.start, c.new.ensures.end) (pair_in_range c.args.conn k small))
