use Rattle.handle_model.proofs.ReplyStays.{reply_stays}
use Rattle.handle_model.proofs.replies.reply_stays.Goals as goal

pub returns : goal.returns
returns c = reply_stays
