use Rattle.client_script.proofs.LineLemmas.{has_index, close_ready, closed, close_barred}
use Rattle.client_script.proofs.player.Player.close.Goals as goal

pub find-requires-after_bounds : goal.find-requires-after_bounds
find-requires-after_bounds g c κs within = has_index g.K.Link.shows c.args.self.now c.requires

pub close_at-requires-after_bounds : goal.close_at-requires-after_bounds
close_at-requires-after_bounds g c κs within = close_ready g.K.Link.shows c.args.self.now c.args.name c.in-Some.at c.requires c.in-Some.ensures

pub returns : goal.returns
returns g c = closed g.K.Link.shows c.args.self.now c.close_at.new.self c.args.name c.in-Some.at c.in-Some.ensures c.close_at.ensures

pub returns-in_default : goal.returns-in_default
returns-in_default g c = close_barred g.K.Link.shows c.args.self.now c.args.name (rw c.in_default.is at c.find.ensures)
