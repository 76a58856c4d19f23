use Rattle.std.proofs.Common.{refl}
use Rattle.idl_reader.proofs.Loops.{void_param, some_params}
use Rattle.idl_reader.proofs.operations.void_first.Goals as goal

pub returns-in_ok-params-clause-written : goal.returns-in_ok-params-clause-written
returns-in_ok-params-clause-written c =
    some_params c.in_ok-params.params.items c.args.tokens.now c.in_ok-params.rest.now (c.in_ok-params.ensures.written c.args.tokens.now (void_param _ c.args.tokens.now c.in_ok-rest.rest.now c.in_ok-dtor.rest.now c.new.ensures.items refl c.place-at.ensures c.in_ok-rest.ensures.written c.in_ok-dtor.ensures.written))
