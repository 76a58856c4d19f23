use Rattle.std.proofs.Common.{arith}
use Rattle.call_table.proofs.Order.{last_row}
use Rattle.call_table.proofs.rows.all_below.Goals as goal

pub returns : goal.returns
returns c = last_row c.args.rows.now.items c.row.result.now c.args.call _ (omega (arith, c.len-count.ensures)) c.row.ensures c.requires
