use Rattle.client_laws.proofs.Ending.{answers_are_told}
use Rattle.client_laws.proofs.laws.answers_are_told.Goals as goal

pub returns : goal.returns
returns c = answers_are_told c.one_message.ensures c.stub_is_read.ensures
