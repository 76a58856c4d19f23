use Rattle.journal_reader.proofs.Above.{cookie_item}
use Rattle.journal_reader.proofs.list.read_cookies.Goals as goal

pub read_list-requires : goal.read_list-requires
read_list-requires c = cookie_item
