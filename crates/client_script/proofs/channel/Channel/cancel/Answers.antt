use Rattle.client_core.specs.Histories.ClientEvent.{DidCancel}
use Rattle.client_script.proofs.Channels.{halted}
use Rattle.client_script.proofs.channel.Channel.cancel.Goals as goal

pub returns-in-Err-clause-begins : goal.returns-in-Err-clause-begins
returns-in-Err-clause-begins g c = λ interface a h o.
    halted g.K.Link.shows interface c.args.self.now a c.cancel.new.self h o c.cancel.ensures.stays DidCancel ⊥ ⊥ (λ x. x) c.in-Err.fault c.halt.result c.halt.new.self (c.in-Err.ensures.begins interface a.events a.state (h.lived o).0) c.halt.ensures
