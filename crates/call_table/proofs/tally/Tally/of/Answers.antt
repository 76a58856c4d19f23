use Rattle.std.proofs.Common.{drop}
use Rattle.call_table.proofs.Tallied.{part_room}
use Rattle.call_table.proofs.tally.Tally.of.Goals as goal

pub enter-requires : goal.enter-requires
enter-requires c = part_room c.args.rows.now.items (drop c.loop-at.at c.args.rows.now.items) c.loop-at.tally c.requires.rise c.requires.few c.loop-at.invariant
