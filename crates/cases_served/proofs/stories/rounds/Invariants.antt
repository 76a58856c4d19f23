use Rattle.cases_served.specs.Passes.{AreOf}
use Rattle.cases_served.proofs.stories.rounds.Given as goal

abbrev pub invariant-loop : goal.invariant-loop
invariant-loop g l = AreOf l.server l.passes
