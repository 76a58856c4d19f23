use Rattle.handle_model.proofs.Older.{older_legal}
use Rattle.handle_model.proofs.moments.older_is_legal.Goals as goal

pub returns : goal.returns
returns c = older_legal
