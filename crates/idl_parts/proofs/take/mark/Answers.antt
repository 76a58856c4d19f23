use Rattle.idl_parts.proofs.Taking.{mark_written}
use Rattle.idl_parts.proofs.take.mark.Goals as goal

pub returns-clause-written : goal.returns-clause-written
returns-clause-written c = mark_written c.args.mark c.class.result _ c.in_ok-rest.field-0-0.now c.args.tokens.now c.in_ok-rest.rest.now c.class.ensures c.in_ok-rest.ensures.taken
