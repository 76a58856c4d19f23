use Rattle.client_laws.proofs.Partly.{replies_tell_last}
use Rattle.client_laws.proofs.laws.replies_tell_last.Goals as goal

pub returns : goal.returns
returns c = replies_tell_last c.one_message.ensures c.stub_is_read.ensures
