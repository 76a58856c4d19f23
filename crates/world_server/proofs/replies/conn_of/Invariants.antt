use Rattle.std.proofs.Common.{◌≡◌, reverse, length}
use Rattle.handle_model.specs.Journal as journal
use Rattle.world_server.specs.Servers.{whole}
use Rattle.world_server.specs.Scans.{conn_of}
use Rattle.world_server.proofs.replies.conn_of.Given as goal

abbrev pub invariant-loop-entry : goal.invariant-loop-entry
invariant-loop-entry l = conn_of (journal.asked (whole (reverse l.fn.entries)) l.fn.call) ≡ conn_of (journal.asked (whole (reverse l.rest)) l.fn.call)

abbrev pub decreases-loop-entry : goal.decreases-loop-entry
decreases-loop-entry l = length l.rest
