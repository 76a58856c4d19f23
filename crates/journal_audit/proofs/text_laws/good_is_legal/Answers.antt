use Rattle.journal_audit.proofs.VerdictLaws.{good_is_legal}
use Rattle.journal_audit.proofs.text_laws.good_is_legal.Goals as goal

pub returns : goal.returns
returns c = good_is_legal
