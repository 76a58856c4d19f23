use Rattle.std.proofs.Common.{Ok, ap, ◌∙◌}
use Rattle.client_core.specs.State.{state}
use Rattle.client_link.proofs.WireLemmas.{tells, tells_nothing, takes}
use Rattle.client_link.proofs.wire.Wire.look.Goals as goal

pub returns-in-Ok-Some-on_pdu-clause-looks : goal.returns-in-Ok-Some-on_pdu-clause-looks
returns-in-Ok-Some-on_pdu-clause-looks g c =
    let next = rw (c.in-Ok-Some.is ∙ ap Ok c.in-Ok-Some.field-0-is) at c.next.ensures in
    let hears = rw (c.in-Ok-Some-on_pdu.is ∙ ap Ok c.in-Ok-Some-on_pdu.field-0-is) at c.on_pdu.ensures.hears in
    λ interface events m l. tells g.K.Link.shows interface c.args.self.now c.on_pdu.new.self c.next.new.self events m c.in-Ok-Some.pdu c.in-Ok-Some-on_pdu.told l next hears

pub returns-in-Ok-None-on_pdu-clause-looks : goal.returns-in-Ok-None-on_pdu-clause-looks
returns-in-Ok-None-on_pdu-clause-looks g c =
    let next = rw (c.in-Ok-Some.is ∙ ap Ok c.in-Ok-Some.field-0-is) at c.next.ensures in
    let hears = rw (c.in-Ok-None-on_pdu.is ∙ ap Ok c.in-Ok-None-on_pdu.field-0-is) at c.on_pdu.ensures.hears in
    λ interface events m l. tells_nothing g.K.Link.shows interface c.args.self.now c.on_pdu.new.self c.next.new.self events m c.in-Ok-Some.pdu l next hears

pub returns-in-Ok-None-clause-looks : goal.returns-in-Ok-None-clause-looks
returns-in-Ok-None-clause-looks g c =
    let next = rw (c.in-Ok-None.is ∙ ap Ok c.in-Ok-None.field-0-is) at c.next.ensures in
    λ interface events m l. takes g.K.Link.shows interface c.args.self.now c.take.new.self c.next.new.self events m c.take.result next.2 l (c.take.ensures.looks interface events m)

pub returns-in-Ok-Some-on_pdu-clause-answer : goal.returns-in-Ok-Some-on_pdu-clause-answer
returns-in-Ok-Some-on_pdu-clause-answer g c = (state c.args.self.now.client, rw (c.in-Ok-Some-on_pdu.is ∙ ap Ok c.in-Ok-Some-on_pdu.field-0-is) at c.on_pdu.ensures.answer)
