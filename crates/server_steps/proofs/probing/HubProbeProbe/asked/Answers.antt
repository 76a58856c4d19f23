use Rattle.std.proofs.Common.{true, refl, inl, inr}
use Rattle.server_steps.proofs.Askings.{asking_on}
use Rattle.server_steps.proofs.probing.HubProbeProbe.asked.Goals as goal

pub invariant_of-self : goal.invariant_of-self
invariant_of-self g c =
    let v = c.self.inside in
    asking_on v.hub.now v.hub.now.boot v.group v.pass c.asked-asked.new.pass c.asked-asked.ensures.call.here.0 c.asked-asked.ensures.call.here.1 c.asked-asked.ensures.call.others v.call v.told true c.asked-asked.ensures.pass (λ k h. c.asked-asked.ensures.still.knows v.group k h)
    (λ t. inr (c.asked-asked.ensures.told c.if-asked.true)) refl c.self.invariant

pub invariant_of-self-else-asked : goal.invariant_of-self-else-asked
invariant_of-self-else-asked g c =
    let v = c.self.inside in
    asking_on v.hub.now v.hub.now.boot v.group v.pass c.asked-asked.new.pass c.asked-asked.ensures.call.here.0 c.asked-asked.ensures.call.here.1 c.asked-asked.ensures.call.others v.call v.told v.told c.asked-asked.ensures.pass (λ k h. c.asked-asked.ensures.still.knows v.group k h)
    (λ t. inl t) refl c.self.invariant
