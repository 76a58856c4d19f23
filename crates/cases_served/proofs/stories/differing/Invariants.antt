use Rattle.cases_served.specs.Passes.{AreOf}
use Rattle.cases_served.proofs.stories.differing.Given as goal

abbrev pub invariant-loop-line : goal.invariant-loop-line
invariant-loop-line g l = AreOf l.server l.passes
