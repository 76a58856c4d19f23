use Rattle.journal_audit.proofs.TextJournals.{neither_both}
use Rattle.journal_audit.proofs.text_laws.neither_both.Goals as goal

pub returns : goal.returns
returns c = neither_both
