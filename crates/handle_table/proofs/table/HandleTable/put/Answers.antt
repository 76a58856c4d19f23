use Rattle.std.proofs.Common.{◌≡◌, ◌+◌, ◌≤◌, ◌<◌, length, refl, sym, ◌∙◌, ap, arith, rules}
use Rattle.handle_table.specs.Handles.{with_item}
use Rattle.handle_table.specs.Cells.{living, live_cell}
use Rattle.handle_table.proofs.Found.{climb_set, climb_insert, length_kept, length_more, length_insert, live_as, dead_as, put_at, put_gap}
use Rattle.handle_table.proofs.table.HandleTable.put.Goals as goal

pub invariant_of-self : goal.invariant_of-self
invariant_of-self c =
    let at = rw c.in-Ok.is at c.seek.ensures in
    let live = live_as c.self.inside.index.cells c.in-Ok.at c.in-Some.field-0 (rw c.in-Some.is at c.item.ensures) in
    let same = length_kept c.self.inside.index.cells c.in-Ok.at (live_cell c.args.item) at.within live refl in
    let kept = c.self.invariant in
    rw c.set.ensures
    (record {
      rises = climb_set 0 c.self.inside.index.cells c.args.item.serial c.in-Ok.at (live_cell c.args.item) kept.rises at refl;
      places = omega (arith, kept.places);
      due_places = omega (arith, kept.due_places);
      given_places = omega (arith, kept.given_places);
      no_due = kept.no_due;
      no_given = kept.no_given;
    })

pub invariant_of-self-in-None : goal.invariant_of-self-in-None
invariant_of-self-in-None c =
    let at = rw c.in-Ok.is at c.seek.ensures in
    let dead = dead_as c.self.inside.index.cells c.in-Ok.at (rw c.in-None.is at c.item.ensures) in
    let cells = c.fill.ensures.cells in
    let more = ap (λ cs. length (living cs)) cells ∙ length_more c.self.inside.index.cells c.in-Ok.at (live_cell c.args.item) at.within dead refl in
    let less = c.fill.ensures.room in
    let room = ap (λ v. v.room) c.self.view_is in
    let some = c.requires in
    let kept = c.self.invariant in
    record {
      rises = rw cells (climb_set 0 c.self.inside.index.cells c.args.item.serial c.in-Ok.at (live_cell c.args.item) kept.rises at refl);
      places = omega (arith, kept.places);
      due_places = omega (arith, kept.due_places);
      given_places = omega (arith, kept.given_places);
      no_due = kept.no_due;
      no_given = kept.no_given;
    }

pub invariant_of-self-in-Err : goal.invariant_of-self-in-Err
invariant_of-self-in-Err c =
    let gap = rw c.in-Err.is at c.seek.ensures in
    let cells = c.insert.ensures.cells in
    let more = ap (λ cs. length (living cs)) cells ∙ length_insert c.self.inside.index.cells c.in-Err.at (live_cell c.args.item) gap.within refl in
    let less = c.insert.ensures.room in
    let room = ap (λ v. v.room) c.self.view_is in
    let some = c.requires in
    let kept = c.self.invariant in
    record {
      rises = rw cells (climb_insert 0 c.self.inside.index.cells c.in-Err.at (live_cell c.args.item) kept.rises gap (omega arith) (search rules));
      places = omega (arith, kept.places);
      due_places = omega (arith, kept.due_places);
      given_places = omega (arith, kept.given_places);
      no_due = kept.no_due;
      no_given = kept.no_given;
    }

pub returns-in-Some-clause-items : goal.returns-in-Some-clause-items
returns-in-Some-clause-items c =
    let at = rw c.in-Ok.is at c.seek.ensures in
    ap (λ v. living v.cells) c.set.ensures
    ∙ (put_at 0 c.self.inside.index.cells c.in-Ok.at (live_cell c.args.item) c.self.invariant.rises at refl ∙ ap (λ v. with_item c.args.item v.items) c.self.view_is)

pub returns-in-None-clause-items : goal.returns-in-None-clause-items
returns-in-None-clause-items c =
    let at = rw c.in-Ok.is at c.seek.ensures in
    ap living c.fill.ensures.cells
    ∙ (put_at 0 c.self.inside.index.cells c.in-Ok.at (live_cell c.args.item) c.self.invariant.rises at refl ∙ ap (λ v. with_item c.args.item v.items) c.self.view_is)

pub returns-in-Err-clause-items : goal.returns-in-Err-clause-items
returns-in-Err-clause-items c =
    let gap = rw c.in-Err.is at c.seek.ensures in
    ap living c.insert.ensures.cells
    ∙ (put_gap 0 c.self.inside.index.cells c.in-Err.at (live_cell c.args.item) c.self.invariant.rises gap refl ∙ ap (λ v. with_item c.args.item v.items) c.self.view_is)
