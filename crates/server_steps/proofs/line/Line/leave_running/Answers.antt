use Rattle.std.proofs.Common.{refl}
use Rattle.hub_shard.specs.declared.answer.HubRest.TheVariants as hub_rest
use Rattle.conn_histories.specs.declared.turn.Deed.TheVariants.{Pending}
use Rattle.server_steps.proofs.LeaveLemmas.{gone_as}
use Rattle.server_steps.proofs.Dealing.{quiet_left}
use Rattle.server_steps.proofs.Remaining.{stays_running}
use Rattle.server_steps.proofs.line.Line.leave_running.Goals as goal

pub leave-requires-clause-serves : goal.leave-requires-clause-serves
leave-requires-clause-serves g c = c.requires.serves

pub unreachable-requires : goal.unreachable-requires
unreachable-requires g c =
    let stays = stays_running g.K.Link.shows (g.M.Manager.may c.args._manager.now) (g.M.Manager.tables c.args._manager.now) c.args.hub.now c.args.self c.leave.new.pass c.args._why c.leave.result c.args._call c.args._asked.now c.args._cookies.now c.requires
    c.leave.ensures.call in
    let shut = c.in-Shut.is in
    absurd (cc (stays, shut))

pub returns-clause-gone : goal.returns-clause-gone
returns-clause-gone g c =
    let l = c.args.self in
    let shows = g.K.Link.shows in
    let may = g.M.Manager.may c.args._manager.now in
    let tables = g.M.Manager.tables c.args._manager.now in
    gone_as shows may tables c.args.hub.now l c.leave.new.pass c.leave.new.pass c.args._why hub_rest.Stays c.args._call c.args._asked.now c.args._cookies.now c.requires c.in-Stays.ensures.call refl
    c.in-Stays.ensures.pass c.in-Stays.ensures.still _ refl c.of.ensures

pub returns-clause-quiet : goal.returns-clause-quiet
returns-clause-quiet g c = quiet_left c.args.hub.now.boot c.args.self.group c.args.self.pass c.leave.new.pass c.args.self.number c.in-Stays.ensures.call

pub returns-clause-open : goal.returns-clause-open
returns-clause-open g c = (c.requires.halted Pending).stopped.linked.is_open
