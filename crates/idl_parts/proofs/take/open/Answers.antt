use Rattle.idl_parts.proofs.Taking.{open_written}
use Rattle.idl_parts.proofs.take.open.Goals as goal

pub returns-clause-written : goal.returns-clause-written
returns-clause-written c = open_written c.args.bracket c.opening.result _ c.in_ok-rest.field-0-0.now c.args.tokens.now c.in_ok-rest.rest.now c.opening.ensures c.in_ok-rest.ensures.taken
