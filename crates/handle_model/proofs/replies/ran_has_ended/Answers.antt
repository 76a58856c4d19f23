use Rattle.handle_model.proofs.ReplyTruth.{ran_has_ended}
use Rattle.handle_model.proofs.replies.ran_has_ended.Goals as goal

pub returns : goal.returns
returns c = ran_has_ended
