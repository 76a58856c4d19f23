use Rattle.ndr_arrays.proofs.Laws.{text_found, text_only}
use Rattle.ndr_arrays.proofs.texts.read_text.Goals as goal

pub returns-clause-found : goal.returns-clause-found
returns-clause-found c = text_found (λ x. (x.0.now, x.1)) c.args.order c.args.octets.now c.args.size c.args.moved c.args.at c.text_from.result c.text_from.ensures

pub returns-clause-only : goal.returns-clause-only
returns-clause-only c = text_only (λ x. (x.0.now, x.1)) c.args.order c.args.octets.now c.args.size c.args.moved c.args.at c.text_from.result c.text_from.ensures
