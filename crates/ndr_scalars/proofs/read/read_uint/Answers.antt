use Rattle.ndr_scalars.proofs.Laws.{found, only}
use Rattle.ndr_scalars.proofs.read.read_uint.Goals as goal

pub returns-clause-found : goal.returns-clause-found
returns-clause-found c = found c.args.order c.args.size c.args.octets.now c.args.at c.uint_at.result c.uint_at.ensures.exact

pub returns-clause-only : goal.returns-clause-only
returns-clause-only c = only c.args.order c.args.size c.args.octets.now c.args.at c.uint_at.result c.uint_at.ensures.exact
