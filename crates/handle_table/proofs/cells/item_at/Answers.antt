use Rattle.std.proofs.Common.{sym, ◌∙◌}
use Rattle.handle_table.proofs.Search.{no_cell}
use Rattle.handle_table.proofs.Found.{found_read, found_none}
use Rattle.handle_table.proofs.cells.item_at.Goals as goal

pub returns-in-Ok : goal.returns-in-Ok
returns-in-Ok c = c.item.ensures no_cell ∙ sym (found_read c.args.index.now.cells c.args.serial c.in-Ok.at no_cell c.requires (rw c.in-Ok.is at c.seek.ensures))

pub returns-in-Err : goal.returns-in-Err
returns-in-Err c = sym (found_none c.args.index.now.cells c.args.serial _ c.requires (rw c.in-Err.is at c.seek.ensures))
