use Rattle.std.proofs.Common.{◌≢◌, rules}
use Rattle.ndr_model.specs.declared.fault.NdrFault.TheVariants.{Memory}
use Rattle.client_core.specs.State.{state}
use Rattle.client_core.proofs.Asked.{is_read}
use Rattle.client_core.proofs.client.Client.asked.Goals as goal

pub unreachable-requires : goal.unreachable-requires
unreachable-requires c =
    let known : c.in-Err.field-0 ≢ Memory = search rules in
    is_read (state c.args.self.now).interface c.args.op c.args.stub.now c.in-Err.field-0 c.requires.op c.requires.is c.in-Err.ensures.only known
