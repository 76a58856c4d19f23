use Rattle.desk_told.specs.Desks.{IsPassOf}
use Rattle.lock_tests.proofs.told.append.Given as goal

abbrev pub invariant-loop : goal.invariant-loop
invariant-loop g l = IsPassOf g.D.Desk.may g.D.Rundown.runs_down l.desk l.pass
