use Rattle.std.proofs.Common.{sym, ◌∙◌, rules}
use Rattle.group_core.proofs.Ending.{ended_here}
use Rattle.group_core.proofs.ended.entries_before_end.Goals as goal

pub returns-then-ends : goal.returns-then-ends
returns-then-ends c =
    ended_here c.args.base.now c.args.entries.now c.loop-at.at c.args.call c.loop-at.taken c.index-entries-at.result (search rules) c.index-entries-at.is
    c.loop-at.invariant.0 c.loop-at.invariant.1 (sym c.ends.ensures ∙ c.if-ends.true)
