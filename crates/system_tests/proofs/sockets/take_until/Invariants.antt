use Rattle.std.proofs.Common.{◌≡◌, false}
use Rattle.base_system.specs.Sockets.{shown}
use Rattle.system_tests.proofs.sockets.take_until.Given as goal

abbrev pub invariant-loop : goal.invariant-loop
invariant-loop l = (shown l.link).closed ≡ false
