use Rattle.journal_reader.proofs.Above.{outcome_item}
use Rattle.journal_reader.proofs.list.read_outcomes.Goals as goal

pub read_list-requires : goal.read_list-requires
read_list-requires c = outcome_item
