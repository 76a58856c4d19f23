use Rattle.journal_audit.proofs.VerdictLaws.{one_verdict}
use Rattle.journal_audit.proofs.text_laws.one_verdict.Goals as goal

pub returns : goal.returns
returns c = one_verdict
