use Rattle.std.proofs.Common.{◌∙◌, ap}
use Rattle.call_table.specs.Rows.{calls}
use Rattle.call_table.specs.Ahead.{greatest}
use Rattle.call_table.proofs.Sharing.{ahead_shared}
use Rattle.call_table.proofs.ahead.last_of.Goals as goal

pub returns : goal.returns
returns c = c.last_sharing.ensures ∙ ap (λ rs. greatest (calls rs)) (ahead_shared c.args.slots.now c.args.call c.args.rows.now.items)
