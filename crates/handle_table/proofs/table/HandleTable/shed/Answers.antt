use Rattle.std.proofs.Common.{◌≡◌, ◌+◌, ◌≤◌, length, sym, ◌∙◌, ap, subst}
use Rattle.std.specs.Prelude.{vec_capacity}
use Rattle.handle_table.specs.Cells.{living}
use Rattle.handle_table.proofs.Found.{climb_filter, living_filter, handles_with}
use Rattle.handle_table.proofs.table.HandleTable.shed.Goals as goal

pub invariant_of-self : goal.invariant_of-self
invariant_of-self c =
    let kept = c.self.invariant in
    let same = sym (living_filter c.self.inside.index.cells) in
    rw c.sweep.ensures
    (record {
      rises = climb_filter 0 c.self.inside.index.cells kept.rises;
      places = kept.places;
      due_places = subst (λ xs. length xs + c.self.inside.room ≤ vec_capacity c.self.inside.due) same kept.due_places;
      given_places = subst (λ xs. length xs + c.self.inside.room ≤ vec_capacity c.self.inside.given) same kept.given_places;
      no_due = kept.no_due;
      no_given = kept.no_given;
    })

pub returns-then-len-live : goal.returns-then-len-live
returns-then-len-live c =
    ap (λ v. handles_with c.self.inside.home c.self.inside.room (living v.cells)) c.sweep.ensures
    ∙ (ap (handles_with c.self.inside.home c.self.inside.room) (living_filter c.self.inside.index.cells) ∙ c.self.view_is)
