use Rattle.std.proofs.Common.{rules, ◌≡◌, subst}
use denote.Param.Send.{sendable}
use Rattle.std.proofs.Crossing.{crosses}
use Rattle.std.specs.Arc.{arc_value}
use Rattle.ndr_table.specs.Shown.{shown}
use Rattle.ndr_table.specs.Tables.{TableForm}
use Rattle.server_command.specs.Serves.{Serves, IsWhy}
use Rattle.server_command.proofs.Rounds.{if_err, if_ok}
use Rattle.hello_server.specs.Calls.{May, tables_with}
use Rattle.hello_server.proofs.Crossing.{service_send, service_sync}
use Rattle.hello_server.proofs.served.serve_with.Goals as goal

pub serve_over-requires-send-S : goal.serve_over-requires-send-S
serve_over-requires-send-S g c κs = let a = service_send in search (crosses, sendable) depth 40

pub serve_over-requires-sync-S : goal.serve_over-requires-sync-S
serve_over-requires-sync-S g c κs = let a = service_sync in search (crosses, sendable) depth 40

pub returns-clause-serves : goal.returns-clause-serves
returns-clause-serves g c =
    let same : shown (arc_value c.in_ok-service-2.service).hello.table ≡ shown c.args.hello = search rules in
    if_ok _ _ c.serve_over.result
    (λ p s. subst (λ (t : TableForm). Serves g.D.Link.Link.shows (May t) (tables_with t) c.args.boot (g.D.Door.shows c.args.door.now) c.args.at c.args.most (g.D.Door.shows c.serve_over.new.door) p.out p.log p.status) same s)
    c.serve_over.ensures.serves

pub returns-clause-why : goal.returns-clause-why
returns-clause-why g c =
    let same : shown (arc_value c.in_ok-service-2.service).hello.table ≡ shown c.args.hello = search rules in
    if_err _ _ c.serve_over.result
    (λ why w. subst (λ (t : TableForm). IsWhy g.D.Link.Link.shows (May t) (tables_with t) c.args.boot (g.D.Door.shows c.args.door.now) c.args.at c.args.most (g.D.Door.shows c.serve_over.new.door) why) same w)
    c.serve_over.ensures.why
