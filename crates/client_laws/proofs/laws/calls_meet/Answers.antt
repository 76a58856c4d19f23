use Rattle.client_laws.proofs.Ending.{calls_meet}
use Rattle.client_laws.proofs.laws.calls_meet.Goals as goal

pub returns : goal.returns
returns c = calls_meet c.written_is_stub.ensures c.one_message.ensures c.stub_is_read.ensures
