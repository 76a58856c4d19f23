use Rattle.std.proofs.Common.{Option, ℕ, subst}
use Rattle.world_server.specs.Servers.{seen, Goes, Takes}
use Rattle.world_server.proofs.Requesting.{accepted, busy}
use Rattle.world_server.proofs.server.Server.accept_as.Goals as goal

pub returns-in-Some : goal.returns-in-Some
returns-in-Some c =
    let s = seen c.args.self.now in
    let t = seen c.accept.new.self in
    accepted s c.args.conn c.args.joined c.args.iface t c.args.slots c.requires.opened c.asked_as.result c.asked_as.ensures c.in-Some.call
    (subst (λ (o : Option ℕ). Goes s (Takes c.asked_as.result o) t) c.in-Some.is c.in_ok-accepted.ensures)

pub returns-in-None : goal.returns-in-None
returns-in-None c =
    let s = seen c.args.self.now in
    let t = seen c.accept.new.self in
    busy s c.args.conn c.args.joined c.args.iface t c.args.slots c.requires.opened c.asked_as.result c.asked_as.ensures
    (subst (λ (o : Option ℕ). Goes s (Takes c.asked_as.result o) t) c.in-None.is c.in_ok-accepted.ensures)
