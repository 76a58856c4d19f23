use Rattle.server_steps.proofs.WireLemmas.{starts}
use Rattle.server_steps.proofs.wire.Wire.new.Goals as goal

pub returns-in-Ok : goal.returns-in-Ok
returns-in-Ok g c = (c.of-first.ensures, starts g.K.Link.shows c.args.ids.now (record { link = c.args.link; conn = c.in-Ok.conn; first = c.of-first.result }) c.requires.open c.of-first.ensures c.in-Ok.ensures)
