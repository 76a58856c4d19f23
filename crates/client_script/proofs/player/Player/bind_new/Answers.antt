use Rattle.ndr_table.specs.Shown.{shown}
use Rattle.client_script.proofs.LineLemmas.{has_index, group_barred}
use Rattle.client_script.proofs.player.Player.bind_new.Goals as goal

pub asked-requires-after_bounds : goal.asked-requires-after_bounds
asked-requires-after_bounds g c κs within = has_index g.K.Link.shows c.args.self.now c.requires.world

pub returns-in-None : goal.returns-in-None
returns-in-None g c = group_barred g.K.Link.shows (shown c.args.table.now) c.args.at c.args.self.now (g.Q.Dial.shows c.args.dial.now) c.args.name c.args.group c.in-None.ensures
