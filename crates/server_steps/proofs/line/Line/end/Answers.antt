use Rattle.std.proofs.Common.{false, refl, sym, subst, inl}
use Rattle.handle_model.specs.declared.entry.Entry.TheVariants.{End}
use Rattle.handle_model.specs.declared.reply.Reply.TheVariants.{Ran}
use Rattle.server_steps.specs.Calls.{ended_reply, IsSettled}
use Rattle.server_steps.proofs.LeaveLemmas.{own_came}
use Rattle.server_steps.proofs.Besides.{running_merged, asked_merged, ended_running}
use Rattle.conn_histories.specs.declared.turn.Fate.TheVariants.{Running}
use Rattle.server_steps.specs.Lines.{server}
use Rattle.server_steps.proofs.Dealing.{ended_had}
use Rattle.server_steps.proofs.line.Line.end.Goals as goal

pub end-rest-requires-clause-runs : goal.end-rest-requires-clause-runs
end-rest-requires-clause-runs g c =
    let w = c.requires.works in
    let x = running_merged g.K.Link.shows (g.M.Manager.may c.args.manager.now) (g.M.Manager.tables c.args.manager.now) c.args.hub.now c.args.self.now c.args.call c.args._asked.now c.args._cookies.now c.args.orphaned c.requires.running
    c.args.worked.pass c.join.new.pass c.join.ensures.pass w.none c.join.ensures.merges in
    x.runs c.args.worked.answered.results w.suits

pub returns-then-orphaned-clause-settled : goal.returns-then-orphaned-clause-settled
returns-then-orphaned-clause-settled g c =
    let shows = g.K.Link.shows in
    let may = g.M.Manager.may c.args.manager.now in
    let tables = g.M.Manager.tables c.args.manager.now in
    let l = c.args.self.now in
    let w = c.requires.works in
    let a = c.args.worked.answered in
    let x = running_merged shows may tables c.args.hub.now l c.args.call c.args._asked.now c.args._cookies.now c.args.orphaned c.requires.running c.args.worked.pass c.join.new.pass c.join.ensures.pass w.none c.join.ensures.merges in
    subst (λ b. IsSettled shows may tables c.args.hub.now (record l { pass = c.settle-desks.new.pass; retired = c.settle-desks.result.1 }) (ended_reply b a.said)) c.if-orphaned.true
    (subst (λ z. IsSettled shows may tables c.args.hub.now (record l { pass = c.settle-desks.new.pass; retired = z }) (ended_reply c.args.orphaned a.said)) (sym c.settle-desks.ensures.retired)
    (ended_running shows may tables c.args.hub.now (record l { pass = c.join.new.pass }) c.end-rest.new.pass c.settle-desks.new.pass c.args.call c.args._asked.now c.args._cookies.now c.args.orphaned w.told a.results a.said c.end-rest.result x
    (λ t. asked_merged c.args.hub.now.boot l.group c.args.call l.pass c.args.worked.pass c.join.new.pass c.join.ensures.merges (w.asked t)) w.meets c.end-rest.ensures.call c.end-rest.ensures.still c.settle-desks.ensures.settles c.settle-desks.ensures.pass))

pub returns-else-orphaned-clause-settled : goal.returns-else-orphaned-clause-settled
returns-else-orphaned-clause-settled g c =
    let shows = g.K.Link.shows in
    let may = g.M.Manager.may c.args.manager.now in
    let tables = g.M.Manager.tables c.args.manager.now in
    let l = c.args.self.now in
    let w = c.requires.works in
    let a = c.args.worked.answered in
    let x = running_merged shows may tables c.args.hub.now l c.args.call c.args._asked.now c.args._cookies.now c.args.orphaned c.requires.running c.args.worked.pass c.join.new.pass c.join.ensures.pass w.none c.join.ensures.merges in
    subst (λ s. IsSettled shows may tables c.args.hub.now (record l { pass = c.settle-desks.new.pass; retired = c.settle-desks.result.1 }) (Ran s)) (sym w.same)
    (subst (λ b. IsSettled shows may tables c.args.hub.now (record l { pass = c.settle-desks.new.pass; retired = c.settle-desks.result.1 }) (ended_reply b a.said)) c.if-orphaned.false
    (subst (λ z. IsSettled shows may tables c.args.hub.now (record l { pass = c.settle-desks.new.pass; retired = z }) (ended_reply c.args.orphaned a.said)) (sym c.settle-desks.ensures.retired)
    (ended_running shows may tables c.args.hub.now (record l { pass = c.join.new.pass }) c.end-rest.new.pass c.settle-desks.new.pass c.args.call c.args._asked.now c.args._cookies.now c.args.orphaned w.told a.results a.said c.end-rest.result x
    (λ t. asked_merged c.args.hub.now.boot l.group c.args.call l.pass c.args.worked.pass c.join.new.pass c.join.ensures.merges (w.asked t)) w.meets c.end-rest.ensures.call c.end-rest.ensures.still c.settle-desks.ensures.settles c.settle-desks.ensures.pass)))

pub returns-then-orphaned-clause-entered : goal.returns-then-orphaned-clause-entered
returns-then-orphaned-clause-entered g c =
    let a = c.args.worked.answered in
    own_came c.args.hub.now.boot c.join.new.pass c.end-rest.new.pass c.settle-desks.new.pass c.args.self.now.group (End c.args.call a.results a.said) c.end-rest.result c.end-rest.ensures.call c.settle-desks.ensures.settles

pub returns-else-orphaned-clause-entered : goal.returns-else-orphaned-clause-entered
returns-else-orphaned-clause-entered g c =
    let a = c.args.worked.answered in
    own_came c.args.hub.now.boot c.join.new.pass c.end-rest.new.pass c.settle-desks.new.pass c.args.self.now.group (End c.args.call a.results a.said) c.end-rest.result c.end-rest.ensures.call c.settle-desks.ensures.settles

pub returns-then-orphaned-clause-carries : goal.returns-then-orphaned-clause-carries
returns-then-orphaned-clause-carries g c = λ before other split met first h.
    let m = c.args.manager.now in
    let l = c.args.self.now in
    let x = c.requires.running in
    ended_had (g.M.Manager.enters m) (g.M.Manager.runs_down m) (g.M.Manager.splits m) (g.M.Manager.joins m) (g.M.Manager.tables m) c.args.hub.now.boot l.group l.began.value first
    l.pass c.args.worked.pass c.join.new.pass c.end-rest.new.pass c.settle-desks.new.pass before c.args.desks other c.join-2.new.pass c.settle-desks.result.0 c.args.call l.number c.args._asked.now c.args.worked c.requires.works.none c.join.ensures.merges c.end-rest.result
    (server g.K.Link.shows (g.M.Manager.may m) (g.M.Manager.tables m) c.args.hub.now) l.retired false x.j x.iface x.offs c.args._cookies.now (Running c.args._cookies.now) x.called.turns x.called.held (inl refl) x.asked
    split met c.join-2.ensures.joins c.end-rest.ensures.call c.settle-desks.ensures.settles c.settle-desks.ensures.runs h

pub returns-else-orphaned-clause-carries : goal.returns-else-orphaned-clause-carries
returns-else-orphaned-clause-carries g c = λ before other split met first h.
    let m = c.args.manager.now in
    let l = c.args.self.now in
    let x = c.requires.running in
    ended_had (g.M.Manager.enters m) (g.M.Manager.runs_down m) (g.M.Manager.splits m) (g.M.Manager.joins m) (g.M.Manager.tables m) c.args.hub.now.boot l.group l.began.value first
    l.pass c.args.worked.pass c.join.new.pass c.end-rest.new.pass c.settle-desks.new.pass before c.args.desks other c.join-2.new.pass c.settle-desks.result.0 c.args.call l.number c.args._asked.now c.args.worked c.requires.works.none c.join.ensures.merges c.end-rest.result
    (server g.K.Link.shows (g.M.Manager.may m) (g.M.Manager.tables m) c.args.hub.now) l.retired false x.j x.iface x.offs c.args._cookies.now (Running c.args._cookies.now) x.called.turns x.called.held (inl refl) x.asked
    split met c.join-2.ensures.joins c.end-rest.ensures.call c.settle-desks.ensures.settles c.settle-desks.ensures.runs h
