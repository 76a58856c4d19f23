use Rattle.std.proofs.Common.{◌∙◌, ap}
use Rattle.call_table.specs.Laws.{open_asked}
use Rattle.group_core.proofs.Telling.{asked_there}
use Rattle.group_core.proofs.group.Group.asked_of.Goals as goal

pub returns : goal.returns
returns c =
    let found = rw (c.base.ensures, c.as_slice.ensures, c.journal-journal.ensures) at c.asked.ensures in
    found ∙ (asked_there _ _ _ _ _ c.args.call c.self.invariant ∙ ap (λ j. open_asked j c.args.call) c.self.view_is)
