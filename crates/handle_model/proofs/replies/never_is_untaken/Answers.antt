use Rattle.handle_model.proofs.ReplyTruth.{never_is_untaken}
use Rattle.handle_model.proofs.replies.never_is_untaken.Goals as goal

pub returns : goal.returns
returns c = never_is_untaken c.decided_once.ensures
