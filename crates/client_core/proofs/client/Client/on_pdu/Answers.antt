use Rattle.client_core.specs.State.{state}
use Rattle.client_core.proofs.Heard.{heard}
use Rattle.client_core.proofs.Answering.{of_bind_ack, of_bind_nak, of_alter_resp, of_fault}
use Rattle.client_core.proofs.client.Client.on_pdu.Goals as goal

pub returns-in-Response-clause-hears : goal.returns-in-Response-clause-hears
returns-in-Response-clause-hears c =
    heard (state c.args.self.now) (state c.on_response.new.self) c.args.pdu c.in-Response.part _ (rw c.out-out.ensures at c.on_response.ensures.hears) c.in-Response.is

pub returns-in-BindAck-clause-answer : goal.returns-in-BindAck-clause-answer
returns-in-BindAck-clause-answer c = of_bind_ack (state c.args.self.now) (state c.on_bind_ack.new.self) c.out-out.result c.in-BindAck.ack _ c.on_bind_ack.ensures

pub returns-in-BindNak-clause-answer : goal.returns-in-BindNak-clause-answer
returns-in-BindNak-clause-answer c = of_bind_nak (state c.args.self.now) (state c.on_bind_nak.new.self) _ _ _ c.on_bind_nak.ensures

pub returns-in-AlterResp-clause-answer : goal.returns-in-AlterResp-clause-answer
returns-in-AlterResp-clause-answer c = of_alter_resp (state c.args.self.now) (state c.on_alter_resp.new.self) c.out-out.result c.args.pdu.call_id c.in-AlterResp.ack _ c.on_alter_resp.ensures

pub returns-in-Fault-clause-answer : goal.returns-in-Fault-clause-answer
returns-in-Fault-clause-answer c = of_fault (state c.args.self.now) (state c.on_fault.new.self) _ _ _ _ _ c.on_fault.ensures
