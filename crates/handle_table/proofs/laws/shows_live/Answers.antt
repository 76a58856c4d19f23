use Rattle.handle_table.proofs.Live.{due_item_at}
use Rattle.handle_table.proofs.laws.shows_live.Goals as goal

pub returns : goal.returns
returns c = due_item_at
