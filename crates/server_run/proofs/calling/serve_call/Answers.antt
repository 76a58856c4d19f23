use Rattle.std.proofs.Common.{sym, subst}
use Rattle.conn_histories.specs.Requests.{IsRefused}
use Rattle.server_calls.specs.Suited.{never_full}
use Rattle.server_steps.proofs.Calling.{settled_early}
use Rattle.server_run.proofs.calling.serve_call.Goals as goal

pub answer-requires-clause-settled : goal.answer-requires-clause-settled
answer-requires-clause-settled g c κs within =
    let j = c.args.joined in
    settled_early g.K.Link.shows (g.M.Manager.may c.args.server.manager.now) (g.M.Manager.tables c.args.server.manager.now) c.args.server.hub.now c.args.line j c.args.iface c.in-Err.status c.requires.asking
    (subst (λ t. IsRefused t c.args.iface j.op j.order j.stub never_full c.in-Err.status) (sym c.requires.served) c.in-Err.ensures)
