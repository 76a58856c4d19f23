use Rattle.std.proofs.Common.{◌≡◌, false}
use Rattle.base_system.specs.Sockets.{shown}
use Rattle.system_tests.proofs.sockets.a_bell_ends_a_take_from_another_thread.Given as goal

abbrev pub invariant-loop : goal.invariant-loop
invariant-loop g l = (shown l.link).closed ≡ false
