use Rattle.journal_reader.proofs.Above.{slot_item}
use Rattle.journal_reader.proofs.list.read_slots.Goals as goal

pub read_list-requires : goal.read_list-requires
read_list-requires c = slot_item
