use Rattle.call_table.proofs.Found.{row_shown}
use Rattle.call_table.proofs.laws.shows_row.Goals as goal

pub returns : goal.returns
returns c = row_shown
