use Rattle.std.proofs.Common.{ℕ, sym, subst}
use Rattle.server_steps.specs.Deeds.{Since}
use Rattle.server_run.proofs.Ends.{ends_departed}
use Rattle.server_run.proofs.running.finish_departed.Goals as goal

pub end-desks-requires-clause-gone : goal.end-desks-requires-clause-gone
end-desks-requires-clause-gone g c = λ κs within. c.requires.departed.1.gone

pub returns-clause-over : goal.returns-clause-over
returns-clause-over g c = λ old x. (
  c.end-desks.ensures.ended.pass,
  ends_departed g.K.Link.shows g.M.Manager.may g.M.Manager.tables c.args.server old c.args.running c.args.cookies.now c.args.departed c.end-desks.new.self x c.end-desks.ensures.began c.end-desks.ensures.wire c.end-desks.ensures.ended,
)

pub returns-clause-on : goal.returns-clause-on
returns-clause-on g c = λ before other split met first h.
    subst (λ (n : ℕ). Since g.M.Manager.tables g.M.Manager.enters g.M.Manager.runs_down g.M.Manager.splits g.M.Manager.joins c.args.server.manager.now c.args.server.hub.now.boot n c.args.departed.gone.began.value first c.end-desks.new.self.pass c.end-desks.result) (sym c.end-desks.ensures.member.0)
    (c.end-desks.ensures.carries before other split met first h)
