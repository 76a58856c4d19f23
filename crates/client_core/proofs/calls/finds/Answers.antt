use Rattle.ndr_value.specs.Values.{msg}
use Rattle.client_core.specs.State.{state}
use Rattle.client_core.proofs.Asked.{finds}
use Rattle.client_core.proofs.calls.finds.Goals as goal

pub returns : goal.returns
returns c = finds (state c.args.client.now) c.args.op (msg c.args.message.now) c.args.maybe c.args.stub.now c.args.octets.now c.args.call.now c.requires.maybe c.requires.stub c.requires.short c.requires.request c.requires.call c.requires.known
