use Rattle.journal_reader.proofs.Above.{conn_item}
use Rattle.journal_reader.proofs.list.read_conns.Goals as goal

pub read_list-requires : goal.read_list-requires
read_list-requires c = conn_item
