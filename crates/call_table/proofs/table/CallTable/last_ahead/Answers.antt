use Rattle.std.proofs.Common.{◌∙◌, ap, sym}
use Rattle.call_table.specs.Rows.{waits_at}
use Rattle.call_table.specs.Ahead.{last_of, last_at}
use Rattle.call_table.proofs.Marks.{waits_called, slots_place}
use Rattle.call_table.proofs.table.CallTable.last_ahead.Goals as goal

pub place-at-requires-clause-there : goal.place-at-requires-clause-there
place-at-requires-clause-there c = (waits_called c.self.inside.rows.items c.args.call (ap (λ v. waits_at v.rows c.args.call) c.self.view_is ∙ c.requires))

pub returns : goal.returns
returns c =
    let slots = slots_place 0 _ _ _ c.row-row.result.now c.self.invariant.0.rises c.place-at.ensures c.row-row.ensures in
    let last = rw c.as_slice.ensures.slots at c.last_of.ensures in
    last ∙ (ap (λ ss. last_of ss c.args.call c.self.inside.rows.items) (sym slots) ∙ ap (λ v. last_at v.rows c.args.call) c.self.view_is)
