use Rattle.std.proofs.Common.{◌<◌, length, ◌∙◌, ap, sym, subst, arith}
use Rattle.std.specs.List.{remove}
use Rattle.std.proofs.lemmas.List.{length-map}
use Rattle.call_table.specs.declared.row.Row.{Row}
use Rattle.call_table.specs.Rows.{is_other}
use Rattle.call_table.specs.Tally.{IsTally}
use Rattle.call_table.specs.Queues.{IsQueued, queued}
use Rattle.call_table.specs.Waits.{waits_under, HasWaiting}
use Rattle.call_table.specs.Places.{runs_at_place, IsPlaced}
use Rattle.call_table.proofs.Marks.{filtered, row_place}
use Rattle.call_table.proofs.Search.{remove_row, at_read}
use Rattle.call_table.proofs.Tallied.{tally_holds, tally_without}
use Rattle.call_table.proofs.Nearest.{remove_queued}
use Rattle.call_table.proofs.Ordered.{keys_hold, keys_without}
use Rattle.call_table.proofs.Places.{placed_without}
use Rattle.call_table.proofs.table.CallTable.remove.Goals as goal

pub remove-requires : goal.remove-requires
remove-requires g c =
    let rows = ap (λ v. length v.rows) c.self.view_is in
    let calls = ap (λ cs. length cs) c.self.invariant.2.calls_are in
    let size = length-map c.self.inside.rows.items queued in omega (arith, c.requires)

pub leave-requires-3 : goal.leave-requires-3
leave-requires-3 g c =
    let row = c.remove-row.result in
    let rows = ap (λ v. length v.rows) c.self.view_is in
    let lt : c.args.at < length c.self.inside.rows.items = omega (arith, c.requires) in
    let at = at_read c.self.inside.rows.items row.call c.args.at row lt (ap (λ (r : Row). r.call) (sym c.remove-row.ensures.value)) in
    tally_holds _ _ row.call _ c.self.invariant.0.rises (row_place 0 _ _ _ row c.self.invariant.0.rises at c.remove-row.ensures.value) c.self.invariant.1

pub leave-requires : goal.leave-requires
leave-requires g c n =
    let row = c.remove-row.result in
    let rise = c.self.invariant.0.rises in
    let rows = ap (λ v. length v.rows) c.self.view_is in
    let lt : c.args.at < length c.self.inside.rows.items = omega (arith, c.requires) in
    let at = at_read c.self.inside.rows.items row.call c.args.at row lt (ap (λ (r : Row). r.call) (sym c.remove-row.ensures.value)) in
    keys_hold waits_under c.self.inside.rows.items c.self.inside.waiting.keys row.call row rise (row_place 0 _ _ _ row rise at c.remove-row.ensures.value) c.self.invariant.3.has_waiting n

pub leave-requires-2 : goal.leave-requires-2
leave-requires-2 g c n =
    let row = c.remove-row.result in
    let rise = c.self.invariant.0.rises in
    let rows = ap (λ v. length v.rows) c.self.view_is in
    let lt : c.args.at < length c.self.inside.rows.items = omega (arith, c.requires) in
    let at = at_read c.self.inside.rows.items row.call c.args.at row lt (ap (λ (r : Row). r.call) (sym c.remove-row.ensures.value)) in
    keys_hold runs_at_place c.self.inside.rows.items c.self.inside.running.keys row.call row rise (row_place 0 _ _ _ row rise at c.remove-row.ensures.value) c.self.invariant.4.has_running n

pub invariant_of-self : goal.invariant_of-self
invariant_of-self g c =
    let row = c.remove-row.result in
    let rise = c.self.invariant.0.rises in
    let rows = ap (λ v. length v.rows) c.self.view_is in
    let lt : c.args.at < length c.self.inside.rows.items = omega (arith, c.requires) in
    let at = at_read c.self.inside.rows.items row.call c.args.at row lt (ap (λ (r : Row). r.call) (sym c.remove-row.ensures.value)) in
    let there = row_place 0 _ _ _ row rise at c.remove-row.ensures.value in
    let gone = c.remove-row.ensures.items ∙ remove_row 0 _ _ _ rise at in (
      filtered _ _ _ _ (is_other row.call) c.self.invariant.0 gone c.remove-row.ensures.room,
      subst (λ rows. IsTally rows c.leave-3.new.self) (sym gone) (tally_without _ _ _ row.call _ rise there c.self.invariant.1 c.leave-3.ensures),
      subst (λ rows. IsQueued rows c.remove.new.self c.self.inside.room) (sym c.remove-row.ensures.items) (remove_queued _ _ _ _ _ c.self.invariant.2 c.remove.ensures.calls c.remove.ensures.room),
      record { has_waiting = subst (λ rows. HasWaiting rows c.leave.new.self.keys) (sym gone) (keys_without waits_under c.self.inside.rows.items c.self.inside.waiting.keys c.leave.new.self.keys row.call _ rise there c.self.invariant.3.has_waiting c.leave.ensures.keys); enough = omega (arith, c.leave.ensures.room, c.self.invariant.3.enough) },
      subst (λ rows. IsPlaced rows c.leave-2.new.self c.self.inside.room) (sym gone) (placed_without c.self.inside.rows.items c.self.inside.running c.leave-2.new.self c.self.inside.room row.call _ rise there c.self.invariant.4 c.leave-2.ensures.keys c.leave-2.ensures.room),
    )

pub returns-clause-rows : goal.returns-clause-rows
returns-clause-rows g c = c.remove-row.ensures.items ∙ ap (λ v. remove v.rows c.args.at) c.self.view_is
