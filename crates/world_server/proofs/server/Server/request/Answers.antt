use Rattle.std.proofs.Common.{ℕ, List, Err, sym, subst, ◌∙◌}
use Rattle.server_calls.specs.Suited.{ComesTo}
use Rattle.world_server.specs.Servers.{seen}
use Rattle.world_server.proofs.Requesting.{refused, other_status}
use Rattle.world_server.proofs.server.Server.request.Goals as goal

pub returns-in-Err : goal.returns-in-Err
returns-in-Err c =
    let s = seen c.args.self.now in
    refused s c.args.conn c.args.joined c.args.iface c.in-Err.status c.requires
    (subst (λ (octets : List ℕ). ComesTo s.tables c.args.iface c.args.joined.op c.args.joined.order octets (Err c.in-Err.status)) c.as_slice-stub.ensures
    (subst (λ r. ComesTo s.tables c.args.iface c.args.joined.op c.args.joined.order c.as_slice-stub.result.now r) c.in-Err.is c.slots_of.ensures))
    (other_status c.in-Err.status (sym c.eq.ensures ∙ c.if-eq.false))
