use Rattle.journal_reader.proofs.Heads.{feed_base_line}
use Rattle.journal_reader.proofs.next.next_base.Goals as goal

pub next-requires : goal.next-requires
next-requires c = feed_base_line
