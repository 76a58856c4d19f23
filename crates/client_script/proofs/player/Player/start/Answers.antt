use Rattle.client_script.proofs.LineLemmas.{has_index, start_free}
use Rattle.client_script.proofs.player.Player.start.Goals as goal

pub find-requires-after_bounds : goal.find-requires-after_bounds
find-requires-after_bounds g c κs within = has_index g.K.Link.shows c.args.self.now c.requires

pub returns-in_default : goal.returns-in_default
returns-in_default g c = start_free g.K.Link.shows c.args.self.now c.args.name c.args.op.now c.args.text.now (rw c.in_default.is at c.find.ensures)
