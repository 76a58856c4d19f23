use Rattle.handle_model.proofs.ReplyStays.{orphaned_reply}
use Rattle.handle_model.proofs.replies.orphan_replies.Goals as goal

pub returns : goal.returns
returns c = orphaned_reply
