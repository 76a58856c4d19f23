use Rattle.std.proofs.Common.{Ok, ap, ◌∙◌}
use Rattle.client_link.proofs.WireLemmas.{took, lost}
use Rattle.client_link.proofs.wire.Wire.take.Goals as goal

pub returns-in-Ok-clause-looks : goal.returns-in-Ok-clause-looks
returns-in-Ok-clause-looks g c =
    let told = rw (c.in-Ok-Bytes.is ∙ ap Ok c.in-Ok-Bytes.field-0-is) at c.take.ensures in
    λ interface events m l. took g.K.Link.shows interface c.args.self.now c.push.new.self c.take.new.self events m _ l told.2 c.in-Ok.ensures.ok

pub returns-in-Err-push-clause-looks : goal.returns-in-Err-push-clause-looks
returns-in-Err-push-clause-looks g c =
    let told = rw (c.in-Ok-Bytes.is ∙ ap Ok c.in-Ok-Bytes.field-0-is) at c.take.ensures in
    λ interface events m l. lost g.K.Link.shows interface c.args.self.now c.push.new.self c.take.new.self events m _ l told.2
