use Rattle.std.proofs.Common.{◌≢◌, rules}
use Rattle.pdu_stream.specs.declared.joined.JoinFault.TheVariants.{Memory}
use Rattle.client_core.specs.State.{state}
use Rattle.client_core.proofs.Heard.{inner, broken, short, whole}
use Rattle.client_core.proofs.Answering.{of_whole}
use Rattle.client_core.proofs.client.Client.on_fragment.Goals as goal

pub returns-in-Ok-None-clause-tells : goal.returns-in-Ok-None-clause-tells
returns-in-Ok-None-clause-tells c d at = inner (state c.args.self.now) (state c.join.new.self) d _ (rw (c.in-Ok-None.is, c.in-Ok-None.field-0-is) at (c.join.ensures.each d at))

pub returns-in-Ok-Some-clause-tells : goal.returns-in-Ok-Some-clause-tells
returns-in-Ok-Some-clause-tells c d at =
    whole (state c.args.self.now) (state c.join.new.self) (state c.on_whole.new.self) d _ c.in-Ok-Some.joined _ (rw (c.in-Ok-Some.is, c.in-Ok-Some.field-0-is) at (c.join.ensures.each d at)) c.on_whole.ensures.tells

pub returns-in-Err-Memory-clause-tells : goal.returns-in-Err-Memory-clause-tells
returns-in-Err-Memory-clause-tells c d at = short (state c.args.self.now) (state c.join.new.self) d _ _ (rw (c.in-Err-Memory.is, c.in-Err-Memory.field-0-is) at (c.join.ensures.each d at))

pub returns-in-Err-clause-tells : goal.returns-in-Err-clause-tells
returns-in-Err-clause-tells c d at =
    let known : c.in-Err.fault ≢ Memory = search rules in
    broken (state c.args.self.now) (state c.join.new.self) d _ c.in-Err.fault known (rw c.in-Err.is at (c.join.ensures.each d at))

pub returns-in-Ok-Some-clause-answer : goal.returns-in-Ok-Some-clause-answer
returns-in-Ok-Some-clause-answer c = of_whole (state c.args.self.now) (state c.join.new.self) _ _ _ c.requires c.join.ensures.each c.on_whole.ensures.answer
