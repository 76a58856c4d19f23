use Rattle.client_core.specs.State.{state}
use Rattle.client_core.proofs.Asked.{calls}
use Rattle.client_core.proofs.client.Client.call.Goals as goal

pub returns : goal.returns
returns c = calls (state c.args.self.now) (state c.begin.new.self) _ _ _ c.requires.message c.begin.ensures
