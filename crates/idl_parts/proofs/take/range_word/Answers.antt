use Rattle.idl_parts.proofs.Taking.{range_written}
use Rattle.idl_parts.proofs.take.range_word.Goals as goal

pub returns-clause-written : goal.returns-clause-written
returns-clause-written c = range_written _ c.in_ok-rest.field-0-0.now c.args.tokens.now c.in_ok-rest.rest.now c.in_ok-rest.ensures.taken
