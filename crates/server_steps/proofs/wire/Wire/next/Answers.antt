use Rattle.server_steps.proofs.WireLemmas.{nexts}
use Rattle.server_steps.proofs.wire.Wire.next.Goals as goal

pub returns-clause-nexts : goal.returns-clause-nexts
returns-clause-nexts g c = λ ids events m l. nexts g.K.Link.shows ids c.args.self.now c.next.new.self events m c.next.result l c.next.ensures.goes
