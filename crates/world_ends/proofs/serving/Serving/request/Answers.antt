use Rattle.std.proofs.Common.{ℕ, Result, refl, subst}
use Rattle.rpc_base.specs.declared.identifiers.Status.{Status}
use Rattle.world_server.specs.Servers.{seen, Goes}
use Rattle.world_server.specs.Requests.{Requests}
use Rattle.world_ends.proofs.Acting.{refused, accepted}
use Rattle.world_ends.proofs.serving.Serving.request.Goals as goal

pub returns-in_ok-push-in-Err : goal.returns-in_ok-push-in-Err
returns-in_ok-push-in-Err c =
    let x = seen c.args.server.now in
    let y = seen c.request.new.self in
    refused x c.args.self.now _ c.args.joined c.args.iface c.in-Some.member c.in-Some.is y c.in-Err.status
    (subst (λ (r : Result ℕ Status). Goes x (Requests x.tables c.in-Some.member c.args.joined c.args.iface r) y) c.in-Err.is c.in_ok-status.ensures) refl c.in_ok-push-in-Err.ensures.items

pub returns-in_ok-push-in-Ok : goal.returns-in_ok-push-in-Ok
returns-in_ok-push-in-Ok c =
    let x = seen c.args.server.now in
    let mid = seen c.request.new.self in
    accepted x c.args.self.now _ c.args.joined c.args.iface c.in-Some.member c.in-Some.is mid (seen c.mark.new.server) c.in-Ok.call c.mark.result
    (subst (λ (r : Result ℕ Status). Goes x (Requests x.tables c.in-Some.member c.args.joined c.args.iface r) mid) c.in-Ok.is c.in_ok-status.ensures) c.mark.ensures refl c.in_ok-push-in-Ok.ensures.items
