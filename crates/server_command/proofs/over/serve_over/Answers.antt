use Rattle.std.proofs.Common.{rules, ◌≡◌, subst}
use Rattle.std.specs.Arc.{arc_value}
use Rattle.rpc_outside.specs.Doors.{ListensAt}
use Rattle.group_hub.specs.declared.hub.Hub.{Hub}
use Rattle.server_command.specs.Serves.{IsOver}
use Rattle.server_command.proofs.Rounds.{if_err, if_ok, serves, serves_had, untold}
use Rattle.server_command.proofs.over.serve_over.Goals as goal

pub returns-clause-serves : goal.returns-clause-serves
returns-clause-serves g c =
    let shows = g.D.Link.Link.shows in
    let door = g.D.Door.shows in
    let r = c.serve-round.result.0 in
    let h = arc_value c.in_ok-hub-2.hub in
    let boot_is : h.boot ≡ c.args.boot = search rules in
    let listens : ListensAt (door c.args.door.now) (door c.listen.new.self) c.args.at = search rules in
    if_ok _ _ c.end.result
    (λ p o. serves shows (g.S.Manager.may (arc_value c.args.service.now)) (g.S.Manager.tables (arc_value c.args.service.now)) h c.args.boot c.in_ok-hub.pass
    (door c.args.door.now) (door c.listen.new.self) (door c.serve-round.new.door) (door c.end.new.door) c.args.at c.args.most r p.out p.log p.status
    boot_is c.in_ok-hub.ensures.empty listens c.serve-round.ensures.round c.serve-round.ensures.pass c.end.ensures.back
    (subst (λ (x : Hub). IsOver shows x r.pass r.finished.items r.stop p.out p.log p.status) c.deref.ensures o))
    c.end.ensures.over

pub returns-clause-why : goal.returns-clause-why
returns-clause-why g c =
    let shows = g.D.Link.Link.shows in
    let door = g.D.Door.shows in
    let r = c.serve-round.result.0 in
    let h = arc_value c.in_ok-hub-2.hub in
    let boot_is : h.boot ≡ c.args.boot = search rules in
    let listens : ListensAt (door c.args.door.now) (door c.listen.new.self) c.args.at = search rules in
    if_err _ _ c.end.result
    (λ why is. untold shows (g.S.Manager.may (arc_value c.args.service.now)) (g.S.Manager.tables (arc_value c.args.service.now)) h c.args.boot c.in_ok-hub.pass
    (door c.args.door.now) (door c.listen.new.self) (door c.serve-round.new.door) (door c.end.new.door) c.args.at c.args.most r why
    boot_is c.in_ok-hub.ensures.empty listens c.serve-round.ensures.round c.serve-round.ensures.pass c.end.ensures.back is)
    c.end.ensures.fault

pub returns-clause-had : goal.returns-clause-had
returns-clause-had g c =
    let shows = g.D.Link.Link.shows in
    let door = g.D.Door.shows in
    let r = c.serve-round.result.0 in
    let h = arc_value c.in_ok-hub-2.hub in
    let boot_is : h.boot ≡ c.args.boot = search rules in
    let listens : ListensAt (door c.args.door.now) (door c.listen.new.self) c.args.at = search rules in
    if_ok _ _ c.end.result
    (λ p o. serves_had shows g.S.Manager.may g.S.Manager.tables g.S.Manager.is_pass g.S.Manager.enters g.S.Manager.runs_down g.S.Manager.splits g.S.Manager.joins (arc_value c.args.service.now) c.args.desks h c.args.boot c.in_ok-hub.pass
    (door c.args.door.now) (door c.listen.new.self) (door c.serve-round.new.door) (door c.end.new.door) c.args.at c.args.most r p.out p.log p.status c.serve-round.result.1
    boot_is c.in_ok-hub.ensures.empty listens c.serve-round.ensures.round c.serve-round.ensures.pass c.end.ensures.back
    (subst (λ (x : Hub). IsOver shows x r.pass r.finished.items r.stop p.out p.log p.status) c.deref.ensures o)
    c.serve-round.ensures.desks c.serve-round.ensures.had)
    c.end.ensures.over
