use Rattle.journal_tables.proofs.Told.{keeps_replies}
use Rattle.journal_tables.proofs.fold_laws.keeps_replies.Goals as goal

pub returns : goal.returns
returns c = keeps_replies
