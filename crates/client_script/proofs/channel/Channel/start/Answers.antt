use Rattle.std.proofs.Common.{sym, subst}
use Rattle.ndr_value.specs.Values.{msg}
use Rattle.client_link.specs.Wires.{IsTooLong}
use Rattle.client_core.specs.States.{ClientState}
use Rattle.client_core.specs.State.{state}
use Rattle.client_core.specs.Histories.ClientEvent.{DidCall}
use Rattle.client_script.proofs.Channels.{begun, halted}
use Rattle.client_script.proofs.channel.Channel.start.Goals as goal

pub returns-in-Ok-clause-begins : goal.returns-in-Ok-clause-begins
returns-in-Ok-clause-begins g c = λ interface a h o.
    begun g.K.Link.shows interface c.args.self.now a c.call.new.self h o c.call.ensures.stays (DidCall c.args.op (msg c.args.message.now)) (IsTooLong a.state.interface c.args.op (msg c.args.message.now)) (IsTooLong (state c.args.self.now.wire.client).interface c.args.op (msg c.args.message.now))
    (c.in-Ok.ensures.begins interface a.events a.state (h.lived o).0)

pub returns-in-Err-clause-begins : goal.returns-in-Err-clause-begins
returns-in-Err-clause-begins g c = λ interface a h o.
    halted g.K.Link.shows interface c.args.self.now a c.call.new.self h o c.call.ensures.stays (DidCall c.args.op (msg c.args.message.now)) (IsTooLong a.state.interface c.args.op (msg c.args.message.now)) (IsTooLong (state c.args.self.now.wire.client).interface c.args.op (msg c.args.message.now))
    (λ x. subst (λ (s : ClientState). IsTooLong s.interface c.args.op (msg c.args.message.now)) (sym (h.lived o).0.at) x) c.in-Err.fault c.halt.result
    c.halt.new.self (c.in-Err.ensures.begins interface a.events a.state (h.lived o).0) c.halt.ensures
