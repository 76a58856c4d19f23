use Rattle.journal_audit.proofs.TextJournals.{one_reading}
use Rattle.journal_audit.proofs.text_laws.one_reading.Goals as goal

pub returns : goal.returns
returns c = one_reading
