use Rattle.std.proofs.Common.{◌≡◌, false, rules}
use Rattle.ndr_value.specs.Values.{msg}
use Rattle.client_core.specs.State.{state}
use Rattle.client_core.proofs.Asked.{out_is}
use Rattle.client_core.proofs.client.Client.call_out.Goals as goal

pub returns-clause-call : goal.returns-clause-call
returns-clause-call c o found =
    let wanted : c.args.maybe ≡ false = search rules in
    let m = msg c.args.message.now in
    out_is (state c.args.self.now) c.args.op m (msg c.in_ok-asked.asked) c.args.maybe c.next_id.result c.new.result wanted c.next_id.ensures (c.in_ok-asked.ensures o m found (c.requires.is o found)) c.new.ensures

pub asked-requires-clause-is : goal.asked-requires-clause-is
asked-requires-clause-is c o found = (msg c.args.message.now, c.requires.is o found)
