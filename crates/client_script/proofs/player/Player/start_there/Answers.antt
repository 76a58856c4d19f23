use Rattle.client_script.proofs.LineLemmas.{start_ready, touched_within, started, start_barred}
use Rattle.client_script.proofs.player.Player.start_there.Goals as goal

pub start_at-begun-requires-after_bounds : goal.start_at-begun-requires-after_bounds
start_at-begun-requires-after_bounds g c κs within =
    start_ready g.K.Link.shows c.args.self.now c.args.name c.args.at c.args.op.now c.args.text.now c.in-Some.number c.in-Some.message c.requires.world c.requires.there (rw c.in-Some.is at c.in_ok-number.ensures)

pub begun-requires-after_bounds : goal.begun-requires-after_bounds
begun-requires-after_bounds g c κs within = touched_within g.K.Link.shows c.args.self.now c.start_at-begun.new.self c.args.at c.start_at-begun.ensures

pub returns : goal.returns
returns g c =
    started g.K.Link.shows c.args.self.now c.start_at-begun.new.self c.begun.new.self c.args.name c.args.at c.args.op.now c.args.text.now c.in-Some.number c.in-Some.message c.start_at-begun.result c.begun.result c.requires.there
    (rw c.in-Some.is at c.in_ok-number.ensures) c.start_at-begun.ensures c.begun.ensures

pub returns-in_default : goal.returns-in_default
returns-in_default g c = start_barred g.K.Link.shows c.args.self.now c.args.name c.args.at c.args.op.now c.args.text.now c.requires.there (rw c.in_default.is at c.in_ok-number.ensures)
