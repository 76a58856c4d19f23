use Rattle.std.proofs.Common.{rules, ◌≡◌, Option, subst}
use denote.Param.Send.{sendable}
use Rattle.std.proofs.Crossing.{crosses}
use Rattle.std.specs.Arc.{arc_value}
use Rattle.ndr_table.specs.Tables.{TableForm}
use Rattle.desk_locks.specs.Tables.{shown_by}
use Rattle.desk_locks.specs.Tables.{tables_with}
use Rattle.desk_locks.specs.Calls.{echo_of, May}
use Rattle.desk_locks.specs.Offers.{OffersAll}
use Rattle.desk_locks.specs.Passes.{IsFresh}
use Rattle.desk_locks.proofs.Crossing.{service_send, service_sync, passes_send}
use Rattle.server_command.specs.Serves.{Serves, IsWhy}
use Rattle.server_command.proofs.Rounds.{if_err, if_ok}
use Rattle.server_command.proofs.command.serve.Goals as goal

pub serve_over-requires-send-S : goal.serve_over-requires-send-S
serve_over-requires-send-S g c κs = let a = service_send in search (crosses, sendable) depth 40

pub serve_over-requires-send-S-Pass : goal.serve_over-requires-send-S-Pass
serve_over-requires-send-S-Pass g c κs within = let a = passes_send in search (crosses, sendable) depth 40

pub serve_over-requires-sync-S : goal.serve_over-requires-sync-S
serve_over-requires-sync-S g c κs = let a = service_sync in search (crosses, sendable) depth 40

pub returns-clause-serves : goal.returns-clause-serves
returns-clause-serves g c =
    let same : echo_of (arc_value c.in_ok-service-2.service) ≡ shown_by (λ t. t) c.args.echo = search rules in
    if_ok _ _ c.serve_over.result
    (λ p s. subst (λ (e : Option TableForm). Serves g.D.Link.Link.shows (May e) (tables_with e) c.args.boot (g.D.Door.shows c.args.door.now) c.args.at c.args.most (g.D.Door.shows c.serve_over.new.door) p.out p.log p.status) same s)
    c.serve_over.ensures.serves

pub returns-clause-why : goal.returns-clause-why
returns-clause-why g c =
    let same : echo_of (arc_value c.in_ok-service-2.service) ≡ shown_by (λ t. t) c.args.echo = search rules in
    if_err _ _ c.serve_over.result
    (λ why w. subst (λ (e : Option TableForm). IsWhy g.D.Link.Link.shows (May e) (tables_with e) c.args.boot (g.D.Door.shows c.args.door.now) c.args.at c.args.most (g.D.Door.shows c.serve_over.new.door) why) same w)
    c.serve_over.ensures.why

pub returns-clause-desks : goal.returns-clause-desks
returns-clause-desks g c =
    let d = arc_value c.in_ok-service-2.service in
    let same : echo_of d ≡ shown_by (λ t. t) c.args.echo = search rules in
    let offers : OffersAll c.args.at d = search rules in
    let fresh : IsFresh d c.in_ok-service.desks = search rules in
    if_ok _ _ c.serve_over.result
    (λ p had. record { desks = d; echo_is = same; offers = offers; first = c.in_ok-service.desks; fresh = fresh; had = had })
    c.serve_over.ensures.had
