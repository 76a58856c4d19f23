use Rattle.server_steps.proofs.WireLemmas.{puts}
use Rattle.server_steps.proofs.wire.Wire.put.Goals as goal

pub returns-clause-puts : goal.returns-clause-puts
returns-clause-puts g c = λ ids events m l. puts g.K.Link.shows ids c.args.self.now c.put_all.new.link events m c.args.octets.now c.put_all.result l c.put_all.ensures
