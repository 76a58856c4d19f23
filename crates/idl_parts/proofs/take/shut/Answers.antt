use Rattle.idl_parts.proofs.Taking.{shut_written}
use Rattle.idl_parts.proofs.take.shut.Goals as goal

pub returns-clause-written : goal.returns-clause-written
returns-clause-written c = shut_written c.args.bracket c.closing.result _ c.in_ok-rest.field-0-0.now c.args.tokens.now c.in_ok-rest.rest.now c.closing.ensures c.in_ok-rest.ensures.taken
