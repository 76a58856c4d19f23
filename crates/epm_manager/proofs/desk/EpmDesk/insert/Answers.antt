use Rattle.std.proofs.Common.{◌∙◌, filter, sym, ap, subst}
use Rattle.ndr_value.specs.Values.{msg}
use Rattle.manager_api.specs.Arguments.{value_at}
use Rattle.epm_manager.specs.declared.entry.Likeness.TheVariants.{Service}
use Rattle.epm_manager.specs.Entries.{is_unlike}
use Rattle.epm_manager.specs.Asked.{elements_of, listed}
use Rattle.epm_manager.specs.Wholes.{IsWhole}
use Rattle.epm_manager.proofs.Whole.{entries_noted, whole_filter}
use Rattle.epm_manager.proofs.desk.EpmDesk.insert.Goals as goal

pub insert_behind-requires : goal.insert_behind-requires
insert_behind-requires c =
    let m = msg c.args.message.now in
    entries_noted m.heap (elements_of (value_at m.values 1)) c.in-Some.new.items (sym c.in_ok-new.ensures ∙ ap listed c.in-Some.is)

pub insert_over-requires-clause-old : goal.insert_over-requires-clause-old
insert_over-requires-clause-old c =
    let left = is_unlike Service c.deref.result.now in
    subst IsWhole (sym (c.in_ok-old.ensures ∙ ap (filter left) c.deref-2.ensures.value)) (whole_filter left c.self.inside.entries.items c.self.invariant)

pub insert_over-requires-clause-notes : goal.insert_over-requires-clause-notes
insert_over-requires-clause-notes c =
    let m = msg c.args.message.now in
    entries_noted m.heap (elements_of (value_at m.values 1)) c.in-Some.new.items (sym c.in_ok-new.ensures ∙ ap listed c.in-Some.is)
