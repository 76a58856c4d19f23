use Rattle.std.proofs.Common.{◌≡◌, ◌∙◌, ◌||◌, ap, true}
use Rattle.handle_model.specs.Journal.{waits, runs, slots}
use Rattle.call_table.specs.Rows.{slots_in}
use Rattle.group_core.proofs.Telling.{slots_there}
use Rattle.group_core.specs.Kept.{logged}
use Rattle.group_core.proofs.group.Group.slots.Goals as goal

pub returns-in-Some : goal.returns-in-Some
returns-in-Some c =
    let j = logged c.self.inside.home c.self.inside.log in
    let open_then : (waits j c.args.call || runs j c.args.call) ≡ true = ap (λ h. waits h c.args.call || runs h c.args.call) c.self.view_is ∙ c.requires in
    let there = slots_there _ _ _ _ _ c.args.call c.self.invariant open_then in
    c.as_slice.ensures.slots ∙ (ap slots_in (rw c.in-Some.is at c.row.ensures) ∙ (there ∙ ap (λ h. slots h c.args.call) c.self.view_is))

pub returns-in-None : goal.returns-in-None
returns-in-None c =
    let j = logged c.self.inside.home c.self.inside.log in
    let open_then : (waits j c.args.call || runs j c.args.call) ≡ true = ap (λ h. waits h c.args.call || runs h c.args.call) c.self.view_is ∙ c.requires in
    let there = slots_there _ _ _ _ _ c.args.call c.self.invariant open_then in
    ap slots_in (rw c.in-None.is at c.row.ensures) ∙ (there ∙ ap (λ h. slots h c.args.call) c.self.view_is)
