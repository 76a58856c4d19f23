use Rattle.journal_reader.proofs.Heads.{feed_group_line}
use Rattle.journal_reader.proofs.next.next_group.Goals as goal

pub next-requires : goal.next-requires
next-requires c = feed_group_line
