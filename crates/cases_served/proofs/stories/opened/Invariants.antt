use Rattle.group_hub.specs.Passes.{IsPassOf}
use Rattle.cases_served.proofs.stories.opened.Given as goal

abbrev pub invariant-loop : goal.invariant-loop
invariant-loop g l = IsPassOf l.hub l.pass
