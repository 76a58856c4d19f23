use Rattle.ndr_value.specs.Values.{msg}
use Rattle.client_core.specs.State.{state}
use Rattle.client_core.proofs.Asked.{begins}
use Rattle.client_core.proofs.client.Client.begin.Goals as goal

pub returns : goal.returns
returns c o found = begins (state c.args.self.now) _ c.args.op o (msg c.args.message.now) _ _ c.start.ensures (c.in_ok-octets.ensures.finds o found)
