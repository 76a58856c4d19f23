use Rattle.std.proofs.Common.{true, refl, sym, subst, inr}
use Rattle.handle_model.specs.declared.entry.Entry.TheVariants.{End}
use Rattle.server_steps.specs.Endings.{HasEnded}
use Rattle.server_steps.proofs.LeaveLemmas.{own_came}
use Rattle.server_steps.proofs.Besides.{gone_merged, asked_merged, ended_gone}
use Rattle.conn_histories.specs.declared.turn.Fate.TheVariants.{LeftRunning}
use Rattle.server_steps.specs.Lines.{server}
use Rattle.server_steps.proofs.Dealing.{ended_had}
use Rattle.server_steps.proofs.gone.Gone.end.Goals as goal

pub end-rest-requires-clause-runs : goal.end-rest-requires-clause-runs
end-rest-requires-clause-runs g c =
    let w = c.requires.works in
    let x = gone_merged g.K.Link.shows (g.M.Manager.may c.args.manager.now) (g.M.Manager.tables c.args.manager.now) c.args.hub.now c.args.self.now c.args.worked.pass c.join.new.pass c.args._why c.args.call c.args._asked.now c.args._cookies.now
    c.requires.gone c.join.ensures.pass w.none c.join.ensures.merges in
    x.runs c.args.worked.answered.results w.suits

pub returns-clause-ended : goal.returns-clause-ended
returns-clause-ended g c =
    let w = c.requires.works in
    let x = gone_merged g.K.Link.shows (g.M.Manager.may c.args.manager.now) (g.M.Manager.tables c.args.manager.now) c.args.hub.now c.args.self.now c.args.worked.pass c.join.new.pass c.args._why c.args.call c.args._asked.now c.args._cookies.now
    c.requires.gone c.join.ensures.pass w.none c.join.ensures.merges in
    subst (λ z. HasEnded g.K.Link.shows (g.M.Manager.may c.args.manager.now) (g.M.Manager.tables c.args.manager.now) c.args.hub.now (record c.args.self.now { pass = c.settle-desks.new.pass; retired = z }) c.args._why) (sym c.settle-desks.ensures.retired)
    (ended_gone g.K.Link.shows (g.M.Manager.may c.args.manager.now) (g.M.Manager.tables c.args.manager.now) c.args.hub.now (record c.args.self.now { pass = c.join.new.pass }) c.end-rest.new.pass c.settle-desks.new.pass c.args._why c.args.call
    c.args._asked.now c.args._cookies.now w.told c.args.worked.answered.results c.args.worked.answered.said c.end-rest.result x
    (λ t. asked_merged c.args.hub.now.boot c.args.self.now.group c.args.call c.args.self.now.pass c.args.worked.pass c.join.new.pass c.join.ensures.merges (w.asked t)) w.meets c.end-rest.ensures.call c.settle-desks.ensures.settles c.settle-desks.ensures.pass)

pub returns-clause-entered : goal.returns-clause-entered
returns-clause-entered g c =
    let a = c.args.worked.answered in
    own_came c.args.hub.now.boot c.join.new.pass c.end-rest.new.pass c.settle-desks.new.pass c.args.self.now.group (End c.args.call a.results a.said) c.end-rest.result c.end-rest.ensures.call c.settle-desks.ensures.settles

pub returns-clause-carries : goal.returns-clause-carries
returns-clause-carries g c = λ before other split met first h.
    let m = c.args.manager.now in
    let l = c.args.self.now in
    let x = c.requires.gone in
    ended_had (g.M.Manager.enters m) (g.M.Manager.runs_down m) (g.M.Manager.splits m) (g.M.Manager.joins m) (g.M.Manager.tables m) c.args.hub.now.boot l.group l.began.value first
    l.pass c.args.worked.pass c.join.new.pass c.end-rest.new.pass c.settle-desks.new.pass before c.args.desks other c.join-2.new.pass c.settle-desks.result.0 c.args.call l.number c.args._asked.now c.args.worked c.requires.works.none c.join.ensures.merges c.end-rest.result
    (server g.K.Link.shows (g.M.Manager.may m) (g.M.Manager.tables m) c.args.hub.now) l.retired true x.j x.iface x.offs c.args._cookies.now (LeftRunning c.args._cookies.now) x.turns x.held (inr refl) x.asked
    split met c.join-2.ensures.joins c.end-rest.ensures.call c.settle-desks.ensures.settles c.settle-desks.ensures.runs h
