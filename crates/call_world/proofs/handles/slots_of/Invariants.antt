use Rattle.std.proofs.Common.{◌≡◌, reverse, length}
use Rattle.handle_model.specs.Journal as spec
use Rattle.world_server.specs.Servers.{whole}
use Rattle.call_world.proofs.handles.slots_of.Given as goal

abbrev pub invariant-loop-entry : goal.invariant-loop-entry
invariant-loop-entry l = spec.slots (whole (reverse l.fn.entries)) l.fn.call ≡ spec.slots (whole (reverse l.rest)) l.fn.call

abbrev pub decreases-loop-entry : goal.decreases-loop-entry
decreases-loop-entry l = length l.rest
