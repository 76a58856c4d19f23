use Rattle.std.proofs.Common.{◌≡◌, false}
use Rattle.cases_served.proofs.tied.is_told.Given as goal

abbrev pub invariant-loop : goal.invariant-loop
invariant-loop g l = (g.P.Probe.told l.probe ≡ false) × (g.P.Probe.key l.probe ≡ g.P.Probe.key l.initial.probe)
