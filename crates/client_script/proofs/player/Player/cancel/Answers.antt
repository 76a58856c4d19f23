use Rattle.client_script.proofs.LineLemmas.{has_index, cancel_ready, touched_within, cancelled, cancel_barred}
use Rattle.client_script.proofs.player.Player.cancel.Goals as goal

pub calling-requires-after_bounds : goal.calling-requires-after_bounds
calling-requires-after_bounds g c κs within = has_index g.K.Link.shows c.args.self.now c.requires

pub cancel_at-begun-requires-after_bounds : goal.cancel_at-begun-requires-after_bounds
cancel_at-begun-requires-after_bounds g c κs within = cancel_ready g.K.Link.shows c.args.self.now c.args.name c.in-Some.at c.requires c.in-Some.ensures

pub begun-requires-after_bounds : goal.begun-requires-after_bounds
begun-requires-after_bounds g c κs within = touched_within g.K.Link.shows c.args.self.now c.cancel_at-begun.new.self c.in-Some.at c.cancel_at-begun.ensures

pub returns : goal.returns
returns g c =
    cancelled g.K.Link.shows c.args.self.now c.cancel_at-begun.new.self c.begun.new.self c.args.name c.in-Some.at c.cancel_at-begun.result c.begun.result c.in-Some.ensures c.cancel_at-begun.ensures c.begun.ensures

pub returns-in_default : goal.returns-in_default
returns-in_default g c = cancel_barred g.K.Link.shows c.args.self.now c.args.name (rw c.in_default.is at c.calling.ensures)
