use Rattle.journal_reader.proofs.Heads.{feed_line}
use Rattle.journal_reader.proofs.next.next_entry.Goals as goal

pub next-requires : goal.next-requires
next-requires c = feed_line
