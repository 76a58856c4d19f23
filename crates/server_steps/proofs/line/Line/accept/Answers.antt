use Rattle.std.proofs.Common.{sym, ap, subst}
use Rattle.std.specs.Prelude.{⊤}
use Rattle.hub_story.specs.Calls.{IsNewCall}
use Rattle.hub_story.specs.Passes.{Serves}
use Rattle.group_hub.specs.Shards.{shard_of}
use Rattle.group_hub.specs.Passes.{at_shard}
use Rattle.handle_model.specs.declared.reply.Reply.TheVariants.{Never}
use Rattle.server_steps.specs.Calls.{IsSettled}
use Rattle.server_steps.proofs.Accepting.{accepted_so, accepted_marked, unaccepted_so}
use Rattle.server_steps.proofs.Dealing.{quiet_then, quiet_unaccepted, quiet_accepted, quiet_cancelled}
use Rattle.server_steps.proofs.line.Line.accept.Goals as goal

pub accept-requires-clause-serves : goal.accept-requires-clause-serves
accept-requires-clause-serves g c =
    let x = c.requires in
    let l = c.args.self.now in
    subst (λ n. Serves (at_shard l.pass (shard_of l.group)) l.group n) (sym (ap (λ a. a.conn) x.asked)) x.called.serves

pub accept-requires-clause-few : goal.accept-requires-clause-few
accept-requires-clause-few g c = c.requires.opened.few

pub returns-in-Err-clause-accepts : goal.returns-in-Err-clause-accepts
returns-in-Err-clause-accepts g c =
    subst (λ s. IsSettled g.K.Link.shows (g.M.Manager.may c.args._manager.now) (g.M.Manager.tables c.args._manager.now) c.args.hub.now (record c.args.self.now { pass = c.accept.new.pass }) (Never s)) (sym c.accept_status.ensures)
    (unaccepted_so g.K.Link.shows (g.M.Manager.may c.args._manager.now) (g.M.Manager.tables c.args._manager.now) c.args.hub.now c.args.self.now c.accept.new.pass c.args.given c.args.marked c.requires c.in-Err.ensures.pass c.in-Err.ensures.still
    c.in-Err.refused.0 c.in-Err.refused.1 c.in-Err.ensures.call)

pub cancel-requires-clause-serves : goal.cancel-requires-clause-serves
cancel-requires-clause-serves g c = (c.args.given.conn, c.in-Ok.ensures.accepted.has)

pub returns-then-marked-clause-accepts : goal.returns-then-marked-clause-accepts
returns-then-marked-clause-accepts g c =
    accepted_marked g.K.Link.shows (g.M.Manager.may c.args._manager.now) (g.M.Manager.tables c.args._manager.now) c.args.hub.now c.args.self.now c.accept.new.pass c.args.given c.args.marked c.requires c.in-Ok.ensures.pass c.in-Ok.ensures.still
    c.in-Ok.call c.in-Ok.ensures.call c.in-Ok.ensures.accepted c.cancel.new.pass c.cancel.result c.if-marked.true c.cancel.ensures.call c.cancel.ensures.pass c.cancel.ensures.still

pub returns-clause-accepts : goal.returns-clause-accepts
returns-clause-accepts g c =
    accepted_so g.K.Link.shows (g.M.Manager.may c.args._manager.now) (g.M.Manager.tables c.args._manager.now) c.args.hub.now c.args.self.now c.accept.new.pass c.args.given c.args.marked c.requires c.in-Ok.ensures.pass c.in-Ok.ensures.still
    c.in-Ok.call c.in-Ok.ensures.call c.in-Ok.ensures.accepted c.if-marked.false

pub returns-in-Err-clause-quiet : goal.returns-in-Err-clause-quiet
returns-in-Err-clause-quiet g c =
    quiet_unaccepted c.args.hub.now.boot c.args.self.now.group c.args.self.now.pass c.accept.new.pass c.args.given c.in-Err.refused.0 c.in-Err.refused.1 (λ j z. ⊤) c.in-Err.ensures.call

pub returns-then-marked-clause-quiet : goal.returns-then-marked-clause-quiet
returns-then-marked-clause-quiet g c =
    let l = c.args.self.now in
    quiet_then l.group l.pass c.accept.new.pass c.cancel.new.pass
    (quiet_accepted c.args.hub.now.boot l.group l.pass c.accept.new.pass c.args.given c.in-Ok.call (λ j z. IsNewCall c.in-Ok.call j) c.in-Ok.ensures.call)
    (quiet_cancelled c.args.hub.now.boot l.group c.accept.new.pass c.cancel.new.pass c.in-Ok.call c.cancel.result c.cancel.ensures.call)

pub returns-clause-quiet : goal.returns-clause-quiet
returns-clause-quiet g c =
    let l = c.args.self.now in
    quiet_accepted c.args.hub.now.boot l.group l.pass c.accept.new.pass c.args.given c.in-Ok.call (λ j z. IsNewCall c.in-Ok.call j) c.in-Ok.ensures.call
