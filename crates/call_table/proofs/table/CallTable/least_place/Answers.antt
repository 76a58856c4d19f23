use Rattle.std.proofs.Common.{◌∙◌, ap}
use Rattle.handle_model.specs.Journal.{least}
use Rattle.call_table.specs.Rows.{running_places}
use Rattle.call_table.proofs.Places.{least_place}
use Rattle.call_table.proofs.table.CallTable.least_place.Goals as goal

pub returns : goal.returns
returns c =
    least_place c.self.inside.rows.items c.self.inside.running.keys _ c.self.invariant.4.has_running c.least.ensures
    ∙ ap (λ v. least (running_places v.rows)) c.self.view_is
