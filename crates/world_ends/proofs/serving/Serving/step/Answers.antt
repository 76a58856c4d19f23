use Rattle.std.proofs.Common.{Option, sym, subst, ◌∙◌}
use Rattle.conn_asks.specs.declared.events.Act.{Act}
use Rattle.world_laws.specs.Ends.{Line}
use Rattle.world_server.specs.Servers.{seen}
use Rattle.world_ends.specs.Servings.{IsServing, Lives, event_of}
use Rattle.world_ends.proofs.Steps.{acts}
use Rattle.world_ends.proofs.serving.Serving.step.Goals as goal

pub returns-in_ok-act-in-Some : goal.returns-in_ok-act-in-Some
returns-in_ok-act-in-Some c =
    acts (seen c.args.server.now) (seen c.act.new.server) c.args.self.now c.next.new.self c.act.new.self (sym c.is_due.ensures ∙ c.if-is_due.false) c.in-Some.act
    (subst (λ (o : Option Act). (l : Line) → IsServing c.args.self.now l → Lives (event_of o) c.next.new.self l) c.in-Some.is c.in_ok-next.ensures) c.in_ok-act-in-Some.ensures
