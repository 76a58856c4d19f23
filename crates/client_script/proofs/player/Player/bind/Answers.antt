use Rattle.ndr_table.specs.Shown.{shown}
use Rattle.client_script.proofs.LineLemmas.{has_index, bind_barred}
use Rattle.client_script.proofs.player.Player.bind.Goals as goal

pub find-requires-after_bounds : goal.find-requires-after_bounds
find-requires-after_bounds g c κs within = has_index g.K.Link.shows c.args.self.now c.requires

pub returns-in-Some : goal.returns-in-Some
returns-in-Some g c = bind_barred g.K.Link.shows (shown c.args.table.now) c.args.at c.args.self.now (g.Q.Dial.shows c.args.dial.now) c.args.name c.in-Some.field-0 c.args.group c.in-Some.ensures
