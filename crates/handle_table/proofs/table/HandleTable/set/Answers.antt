use Rattle.std.proofs.Common.{◌≡◌, ◌+◌, true, length, refl, sym, ◌∙◌, ap, arith}
use Rattle.handle_table.specs.Handles.{has, with_cookie}
use Rattle.handle_table.specs.Cells.{living, live_cell}
use Rattle.handle_table.proofs.Found.{climb_set, length_kept, live_as, read_serial, cookie_written, not_dead, no_gap}
use Rattle.handle_table.proofs.table.HandleTable.set.Goals as goal

pub invariant_of-self : goal.invariant_of-self
invariant_of-self c =
    let at = rw c.in-Ok.is at c.seek.ensures in
    let read = rw c.in-Some.is at c.item.ensures in
    let live = live_as c.self.inside.index.cells c.in-Ok.at c.in-Some.item read in
    let serial = read_serial c.self.inside.index.cells c.args.serial c.in-Ok.at c.in-Some.item at read in
    let same = length_kept c.self.inside.index.cells c.in-Ok.at (live_cell (record { serial = c.in-Some.item.serial; kind = c.in-Some.item.kind; cookie = c.args.cookie })) at.within live refl in
    let kept = c.self.invariant in
    rw c.set.ensures
    (record {
      rises = climb_set 0 c.self.inside.index.cells c.args.serial c.in-Ok.at (live_cell (record { serial = c.in-Some.item.serial; kind = c.in-Some.item.kind; cookie = c.args.cookie })) kept.rises at serial;
      places = kept.places;
      due_places = omega (arith, kept.due_places);
      given_places = omega (arith, kept.given_places);
      no_due = kept.no_due;
      no_given = kept.no_given;
    })

pub returns-in-Some-clause-items : goal.returns-in-Some-clause-items
returns-in-Some-clause-items c =
    let at = rw c.in-Ok.is at c.seek.ensures in
    let read = rw c.in-Some.is at c.item.ensures in
    ap (λ v. living v.cells) c.set.ensures
    ∙ (cookie_written c.self.inside.index.cells c.args.serial c.in-Ok.at c.args.cookie c.in-Some.item c.self.invariant.rises at read ∙ ap (λ v. with_cookie c.args.serial c.args.cookie v.items) c.self.view_is)

pub returns-in-None-clause-items : goal.returns-in-None-clause-items
returns-in-None-clause-items c =
    let at = rw c.in-Ok.is at c.seek.ensures in
    let there : has (living c.self.inside.index.cells) c.args.serial ≡ true = ap (λ v. has v.items c.args.serial) c.self.view_is ∙ c.requires in
    absurd (not_dead c.self.inside.index.cells c.args.serial c.in-Ok.at c.self.invariant.rises at there (rw c.in-None.is at c.item.ensures))

pub returns-in-Err-clause-items : goal.returns-in-Err-clause-items
returns-in-Err-clause-items c =
    let gap = rw c.in-Err.is at c.seek.ensures in
    let there : has (living c.self.inside.index.cells) c.args.serial ≡ true = ap (λ v. has v.items c.args.serial) c.self.view_is ∙ c.requires in
    absurd (no_gap c.self.inside.index.cells c.args.serial _ c.self.invariant.rises gap there)
