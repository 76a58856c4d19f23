use Rattle.std.proofs.Common.{subst, sym}
use Rattle.replay_groups.specs.Holding.{Moves}
use Rattle.replay_groups.specs.Requests.{RequestsIn}
use Rattle.replay_events.proofs.Acting.{known_here, low_here, refused, known_between, accepted}
use Rattle.replay_events.proofs.player.Player.request.Goals as goal

pub request-requires : goal.request-requires
request-requires c = known_here c.args.joined c.args.iface c.args.self.now c.args.played.now c.in-Some.member c.in-Some.is c.requires

pub marked-requires-clause-known : goal.marked-requires-clause-known
marked-requires-clause-known c =
    known_between c.args.joined c.args.iface c.args.self.now c.args.played.now c.in-Some.member c.in-Some.is c.request.new.self c.in-Accepted.call c.in-Accepted.asked
    (subst (λ r. Moves c.args.self.now.realm (RequestsIn c.in-Some.member c.args.joined c.args.iface r) c.request.new.self) c.in-Accepted.is c.in_ok-requested.ensures) c.requires

pub marked-requires-clause-low : goal.marked-requires-clause-low
marked-requires-clause-low c = low_here c.args.joined c.args.iface c.args.self.now c.args.played.now c.in-Some.member c.in-Some.is c.requires

pub returns-in-Refused : goal.returns-in-Refused
returns-in-Refused c =
    refused c.args.joined c.args.iface c.args.self.now c.args.played.now c.in-Some.member c.in-Some.is c.request.new.self c.in-Refused.status
    (subst (λ r. Moves c.args.self.now.realm (RequestsIn c.in-Some.member c.args.joined c.args.iface r) c.request.new.self) c.in-Refused.is c.in_ok-requested.ensures)

pub returns-in_ok-told-in-Accepted : goal.returns-in_ok-told-in-Accepted
returns-in_ok-told-in-Accepted c =
    accepted c.args.joined c.args.iface c.args.self.now c.args.played.now c.in-Some.member c.in-Some.is c.request.new.self c.marked.new.realm c.in-Accepted.call c.in-Accepted.asked c.in_ok-told-in-Accepted.told
    (subst (λ r. Moves c.args.self.now.realm (RequestsIn c.in-Some.member c.args.joined c.args.iface r) c.request.new.self) c.in-Accepted.is c.in_ok-requested.ensures)
    c.in_ok-told-in-Accepted.ensures
