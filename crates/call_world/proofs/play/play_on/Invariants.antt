use Rattle.std.proofs.Common.{reverse, length}
use Rattle.ndr_table.specs.Shown.{shown}
use Rattle.call_world.proofs.Runs.{Midway}
use Rattle.call_world.proofs.play.play_on.Given as goal

abbrev pub invariant-loop-step : goal.invariant-loop-step
invariant-loop-step l = Midway (shown l.fn.world.table) l.fn.moves.items (reverse l.left.items) l.place l.world

abbrev pub decreases-loop-step : goal.decreases-loop-step
decreases-loop-step l = length l.left.items
