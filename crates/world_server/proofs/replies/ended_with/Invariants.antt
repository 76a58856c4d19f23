use Rattle.std.proofs.Common.{◌≡◌, reverse, length}
use Rattle.handle_model.specs.Replies as spec
use Rattle.world_server.specs.Servers.{whole}
use Rattle.world_server.proofs.replies.ended_with.Given as goal

abbrev pub invariant-loop-entry : goal.invariant-loop-entry
invariant-loop-entry l = spec.ended_with (whole (reverse l.fn.entries)) l.fn.call ≡ spec.ended_with (whole (reverse l.rest)) l.fn.call

abbrev pub decreases-loop-entry : goal.decreases-loop-entry
decreases-loop-entry l = length l.rest
