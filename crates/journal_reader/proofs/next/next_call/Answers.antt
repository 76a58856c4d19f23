use Rattle.journal_reader.proofs.Heads.{feed_call_line}
use Rattle.journal_reader.proofs.next.next_call.Goals as goal

pub next-requires : goal.next-requires
next-requires c = feed_call_line
