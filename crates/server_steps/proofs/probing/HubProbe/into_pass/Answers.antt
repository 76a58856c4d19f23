use Rattle.std.proofs.Common.{ap}
use Rattle.server_steps.proofs.Askings.{may_ask, has_asked}
use Rattle.server_steps.proofs.probing.HubProbe.into_pass.Goals as goal

pub returns-clause-asks : goal.returns-clause-asks
returns-clause-asks g c =
    let v = c.self.inside in
    let is = ap (λ z. z.place) c.self.view_is in
    may_ask v.hub.now c.args._hub.now v.group v.call c.args._group c.args._call v.pass (cc (is, c.requires)) c.self.invariant.may

pub returns-clause-told : goal.returns-clause-told
returns-clause-told g c = λ t.
    let v = c.self.inside in
    let is = ap (λ z. z.place) c.self.view_is in
    let told = ap (λ z. z.told) c.self.view_is in
    has_asked v.hub.now c.args._hub.now v.group v.call c.args._group c.args._call v.pass (cc (is, c.requires)) (c.self.invariant.asked (cc (told, t)))
