use Rattle.group_hub.specs.Passes.{IsPassOf}
use Rattle.hub_tests.proofs.beside.call_beside.Given as goal

abbrev pub invariant-loop : goal.invariant-loop
invariant-loop g l = IsPassOf l.hub l.pass
