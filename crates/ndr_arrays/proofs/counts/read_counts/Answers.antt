use Rattle.std.proofs.Common.{◌∙◌}
use Rattle.ndr_arrays.proofs.Laws.{counts_found, counts_read}
use Rattle.ndr_arrays.proofs.counts.read_counts.Goals as goal

pub returns-clause-found : goal.returns-clause-found
returns-clause-found c = counts_found c.args.order c.args.octets.now c.args.moved c.args.kind.now c.args.at c.all_counts.result c.all_counts.ensures

pub returns-clause-only : goal.returns-clause-only
returns-clause-only c = λ x j h. c.all_counts.ensures ∙ counts_read c.args.order c.args.octets.now h
