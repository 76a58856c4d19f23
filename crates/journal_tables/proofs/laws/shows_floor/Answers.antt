use Rattle.journal_tables.proofs.Floors.{floor_shown}
use Rattle.journal_tables.proofs.laws.shows_floor.Goals as goal

pub returns : goal.returns
returns c = floor_shown
