use Rattle.std.proofs.Common.{◌≡◌, ◌+◌, true, length, refl, sym, ◌∙◌, ap, arith}
use Rattle.handle_table.specs.Handles.{has, without}
use Rattle.handle_table.specs.Cells.{living, dead_cell}
use Rattle.handle_table.proofs.Found.{climb_set, length_less, live_at, closed_at, no_gap}
use Rattle.handle_table.proofs.table.HandleTable.close.Goals as goal

pub close-requires-clause-live : goal.close-requires-clause-live
close-requires-clause-live c =
    let at = rw c.in-Ok.is at c.seek.ensures in
    let there : has (living c.self.inside.index.cells) c.args.serial ≡ true = ap (λ v. has v.items c.args.serial) c.self.view_is ∙ c.requires in
    live_at c.self.inside.index.cells c.args.serial c.in-Ok.at c.self.invariant.rises at there

pub invariant_of-self : goal.invariant_of-self
invariant_of-self c =
    let at = rw c.in-Ok.is at c.seek.ensures in
    let kept = c.self.invariant in
    let there : has (living c.self.inside.index.cells) c.args.serial ≡ true = ap (λ v. has v.items c.args.serial) c.self.view_is ∙ c.requires in
    let live = live_at c.self.inside.index.cells c.args.serial c.in-Ok.at kept.rises at there in
    let less = length_less c.self.inside.index.cells c.in-Ok.at (dead_cell c.args.serial) at.within live refl in
    rw c.close.ensures
    (record {
      rises = climb_set 0 c.self.inside.index.cells c.args.serial c.in-Ok.at (dead_cell c.args.serial) kept.rises at refl;
      places = kept.places;
      due_places = omega (arith, kept.due_places);
      given_places = omega (arith, kept.given_places);
      no_due = kept.no_due;
      no_given = kept.no_given;
    })

pub returns-in-Ok-clause-items : goal.returns-in-Ok-clause-items
returns-in-Ok-clause-items c =
    let at = rw c.in-Ok.is at c.seek.ensures in
    ap (λ v. v.items) c.shed.ensures
    ∙ (ap (λ v. living v.cells) c.close.ensures
    ∙ (closed_at 0 c.self.inside.index.cells c.args.serial c.in-Ok.at (dead_cell c.args.serial) c.self.invariant.rises at refl ∙ ap (λ v. without c.args.serial v.items) c.self.view_is))

pub returns-in-Err-clause-items : goal.returns-in-Err-clause-items
returns-in-Err-clause-items c =
    let gap = rw c.in-Err.is at c.seek.ensures in
    let there : has (living c.self.inside.index.cells) c.args.serial ≡ true = ap (λ v. has v.items c.args.serial) c.self.view_is ∙ c.requires in
    absurd (no_gap c.self.inside.index.cells c.args.serial _ c.self.invariant.rises gap there)
