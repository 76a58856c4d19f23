use Rattle.std.proofs.Common.{refl, ap, map, string_bytes}
use Rattle.rpc_app.specs.Words.{told_server, told_caller}
use Rattle.rpc_app.proofs.Served.{carried}
use Rattle.rpc_app.proofs.Ran.{run_done, run_served, run_called}
use Rattle.rpc_app.proofs.Ran as ran
use Rattle.rpc_app.proofs.top.run.Goals as goal

pub returns-in-Done : goal.returns-in-Done
returns-in-Done g c =
    let comes = rw c.in-Done.is at c.obey.ensures.comes in
    run_done g.D.Link.Link.shows g.Q.Link.Link.shows (map string_bytes c.args.words.now) c.args.boot _ _ _ _ _ c.in-Done.status comes.0 comes.1 comes.2 refl refl

pub returns-in-Serve : goal.returns-in-Serve
returns-in-Serve g c =
    let comes = rw c.in-Serve.is at c.obey.ensures.comes in
    let same = (rw c.in-Serve.is at c.obey.ensures.unused) tt in
    run_served g.D.Link.Link.shows g.Q.Link.Link.shows (map string_bytes c.args.words.now) c.args.boot _ _ _ _ _ c.serve_for.result (told_server c.in-Serve.task) comes.0
    (carried g.D.Link.Link.shows (told_server c.in-Serve.task) c.args.boot _ c.serve_for.result g.F.Shelf.files g.F.Shelf.faults g.S.Sink.faults g.S.Sink.written g.L.Sink.faults g.L.Sink.written
    _ _ _ _ _ _ _ _ _ same.0 same.1 same.2 c.serve_for.ensures)
    refl

pub returns-in-Call : goal.returns-in-Call
returns-in-Call g c =
    let comes = rw c.in-Call.is at c.obey.ensures.comes in
    let same = (rw c.in-Call.is at c.obey.ensures.unused) tt in
    run_called g.D.Link.Link.shows g.Q.Link.Link.shows (map string_bytes c.args.words.now) c.args.boot _ _ _ _ _ c.call_for.result (told_caller c.in-Call.task) comes
    (ran.carried g.Q.Link.Link.shows (told_caller c.in-Call.task) _ c.call_for.result g.F.Shelf.files g.F.Shelf.faults g.S.Sink.faults g.S.Sink.written
    _ _ _ _ _ _ same.0 same.1 c.call_for.ensures)
    (ap g.L.Sink.written same.2)
    refl
