use Rattle.std.proofs.Common.{refl}
use denote.Exit.{no}
use denote.Param.{param}
use denote.Param.Send.{IsSync, IsSend, param_send, arg_send}
use Rattle.server_run.proofs.beside.start.Lts as lts
use Rattle.server_run.proofs.Crossing.{work_send}
use Rattle.server_run.proofs.Serving.{works_kept, answers_kept}
use Rattle.server_run.proofs.beside.start.Goals as goal

pub returns-in-Ok-clause-starts : goal.returns-in-Ok-clause-starts
returns-in-Ok-clause-starts g c = λ r keeps.
    works_kept g.M.Manager.tables g.M.Manager.may c.in-Ok.child.promise (record { manager = c.of.result; desks = c.of-2.result; hub = c.of-3.result; asked = c.of-4.result; row = c.args.running.row; group = c.args.running.group; call = c.args.running.call }) r c.args.server c.args.running
    c.in-Ok.ensures.ok c.of.ensures c.of-3.ensures c.of-4.ensures refl refl refl keeps

pub returns-in-Ok-clause-answers : goal.returns-in-Ok-clause-answers
returns-in-Ok-clause-answers g c = λ r keeps.
    answers_kept g.M.Manager.tables g.M.Manager.is_pass g.M.Manager.enters c.in-Ok.child.promise (record { manager = c.of.result; desks = c.of-2.result; hub = c.of-3.result; asked = c.of-4.result; row = c.args.running.row; group = c.args.running.group; call = c.args.running.call }) r c.args.server c.args.running c.args.task.desks
    c.in-Ok.ensures.ok c.of.ensures c.of-2.ensures c.of-3.ensures c.of-4.ensures refl refl keeps

pub spawn_with-requires-send-F : goal.spawn_with-requires-send-F
spawn_with-requires-send-F g c κs within =
    let r : IsSync (param 1 g.row.R) = c.type_bounds.sync-R in
    let m : IsSync (param 3 g.row.M) = c.type_bounds.sync-M in
    let d : IsSend (param 4 g.row.M-Pass) = c.type_bounds.send-M-Pass in
    let k : IsSend (param 2 g.row.K) = c.type_bounds.send-K in
    let p : IsSend (lts.arg-4-2 g.row.E g.row.R g.row.K g.row.M g.row.M-Pass g.E.laws g.R.laws g.K.laws g.M.laws g.M.Pass.laws g.R.Wait g.R.Wait-dict g.R.Threads g.R.Threads-dict g.K.Link g.K.Link-dict g.M.Manager g.M.Manager-dict g.K.Destruct-dict g.M.Pass.Destruct-dict κs) = arg_send _ no _ (work_send _ (param 1 g.row.R) (param 3 g.row.M) (param 4 g.row.M-Pass) (param 2 g.row.K) κs.1.1.1.1.1.1.0 κs.1.1.1.1.1.1.1.0 κs.1.1.1.1.1.1.1.1.0 κs.1.1.1.1.1.1.1.1.1.0 κs.1.1.1.1.1.1.1.1.1.1.0 κs.1.1.1.1.1.1.1.1.1.1.1.0 r m d k) in
    param_send 2 _ p
