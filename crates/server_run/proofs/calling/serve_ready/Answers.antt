use Rattle.server_run.proofs.Having.{on_then, on_waited, went_then, over_then, answered_on, answered_then}
use Rattle.server_run.proofs.Serving.{same_then}
use Rattle.server_run.proofs.calling.serve_ready.Goals as goal

pub returns-in-Err-clause-on : goal.returns-in-Err-clause-on
returns-in-Err-clause-on g c =
    let e = c.accept.ensures in
    answered_then g.K.Link.shows g.M.Manager.may g.M.Manager.tables g.M.Manager.enters g.M.Manager.runs_down g.M.Manager.splits g.M.Manager.joins c.args.server c.args.line c.accept.new.self c.args.desks c.answer.result e.same e.group e.quiet c.answer.ensures.goes c.answer.ensures.same

pub returns-in-Told-clause-on : goal.returns-in-Told-clause-on
returns-in-Told-clause-on g c =
    let a = c.args.line in
    let b = c.accept.new.self in
    let l = c.await_turn-awaited.new.line in
    let x = c.args.desks in
    let e = c.accept.ensures in
    let f = c.await_turn-awaited.ensures in
    let w = c.answer-in-Told in
    went_then g.M.Manager.tables g.M.Manager.enters g.M.Manager.runs_down g.M.Manager.splits g.M.Manager.joins c.args.server.manager.now c.args.server.hub.now.boot a l x x x w.result (same_then a b l e.same f.same)
    (on_waited g.M.Manager.tables g.M.Manager.enters g.M.Manager.runs_down g.M.Manager.splits g.M.Manager.joins c.args.server.manager.now c.args.server.hub.now.boot a b l x e.same e.group e.quiet f.same f.group f.quiet)
    (answered_on g.K.Link.shows g.M.Manager.may g.M.Manager.tables g.M.Manager.enters g.M.Manager.runs_down g.M.Manager.splits g.M.Manager.joins c.args.server l x w.result w.ensures.goes w.ensures.same)

pub returns-in-Stop-clause-on : goal.returns-in-Stop-clause-on
returns-in-Stop-clause-on g c =
    let e = c.accept.ensures in
    let f = c.await_turn-awaited.ensures in
    on_waited g.M.Manager.tables g.M.Manager.enters g.M.Manager.runs_down g.M.Manager.splits g.M.Manager.joins c.args.server.manager.now c.args.server.hub.now.boot c.args.line c.accept.new.self c.await_turn-awaited.new.line c.args.desks e.same e.group e.quiet f.same f.group f.quiet

pub returns-in-On-clause-on : goal.returns-in-On-clause-on
returns-in-On-clause-on g c =
    let a = c.args.line in
    let b = c.accept.new.self in
    let l = c.await_turn-awaited.new.line in
    let x = c.args.desks in
    let y = c.run_call-ran.result.1 in
    let e = c.accept.ensures in
    let f = c.await_turn-awaited.ensures in
    let r = rw c.in-On.is at c.run_call-ran.ensures.runs in
    let o = rw c.in-On.is at c.run_call-ran.ensures.on in
    let w = c.answer-in-On in
    went_then g.M.Manager.tables g.M.Manager.enters g.M.Manager.runs_down g.M.Manager.splits g.M.Manager.joins c.args.server.manager.now c.args.server.hub.now.boot a c.in-On.line x y y w.result (same_then a l c.in-On.line (same_then a b l e.same f.same) r.0)
    (on_then g.M.Manager.tables g.M.Manager.enters g.M.Manager.runs_down g.M.Manager.splits g.M.Manager.joins c.args.server.manager.now c.args.server.hub.now.boot a l c.in-On.line x x y (on_waited g.M.Manager.tables g.M.Manager.enters g.M.Manager.runs_down g.M.Manager.splits g.M.Manager.joins c.args.server.manager.now c.args.server.hub.now.boot a b l x e.same e.group e.quiet f.same f.group f.quiet) o)
    (answered_on g.K.Link.shows g.M.Manager.may g.M.Manager.tables g.M.Manager.enters g.M.Manager.runs_down g.M.Manager.splits g.M.Manager.joins c.args.server c.in-On.line y w.result w.ensures.goes w.ensures.same)

pub returns-in-Over-clause-on : goal.returns-in-Over-clause-on
returns-in-Over-clause-on g c =
    let a = c.args.line in
    let b = c.accept.new.self in
    let l = c.await_turn-awaited.new.line in
    let x = c.args.desks in
    let e = c.accept.ensures in
    let f = c.await_turn-awaited.ensures in
    over_then g.M.Manager.tables g.M.Manager.enters g.M.Manager.runs_down g.M.Manager.splits g.M.Manager.joins c.args.server.manager.now c.args.server.hub.now.boot a l x x c.run_call-ran.result.1 c.in-Over.finished (same_then a b l e.same f.same)
    (on_waited g.M.Manager.tables g.M.Manager.enters g.M.Manager.runs_down g.M.Manager.splits g.M.Manager.joins c.args.server.manager.now c.args.server.hub.now.boot a b l x e.same e.group e.quiet f.same f.group f.quiet) (rw c.in-Over.is at c.run_call-ran.ensures.on)
