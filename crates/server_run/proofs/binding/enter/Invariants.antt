use Rattle.std.proofs.Common.{◌≡◌}
use Rattle.server_steps.specs.Early.{IsEarly}
use Rattle.server_run.proofs.binding.enter.Given as goal

abbrev pub invariant-loop : goal.invariant-loop
invariant-loop g l = (l.wire.first.value ≡ l.initial.wire.first.value) × IsEarly g.K.Link.shows (g.M.Manager.tables l.manager) l.wire
