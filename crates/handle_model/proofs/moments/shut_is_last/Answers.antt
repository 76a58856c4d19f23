use Rattle.handle_model.proofs.Older.{shut_is_last}
use Rattle.handle_model.proofs.moments.shut_is_last.Goals as goal

pub returns : goal.returns
returns c = shut_is_last
