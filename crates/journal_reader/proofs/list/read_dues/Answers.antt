use Rattle.journal_reader.proofs.Above.{due_item}
use Rattle.journal_reader.proofs.list.read_dues.Goals as goal

pub read_list-requires : goal.read_list-requires
read_list-requires c = due_item
