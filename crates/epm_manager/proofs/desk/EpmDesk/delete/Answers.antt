use Rattle.std.proofs.Common.{◌∙◌, filter, sym, ap, subst}
use Rattle.epm_manager.specs.declared.entry.Likeness.TheVariants.{Entry}
use Rattle.epm_manager.specs.Entries.{is_unlike}
use Rattle.epm_manager.specs.Wholes.{IsWhole}
use Rattle.epm_manager.proofs.Whole.{whole_filter}
use Rattle.epm_manager.proofs.desk.EpmDesk.delete.Goals as goal

pub invariant_of-self : goal.invariant_of-self
invariant_of-self c =
    let left = is_unlike Entry c.deref-3.result.now in
    subst IsWhole (sym (c.in_ok-self-inside.ensures ∙ ap (filter left) c.deref-4.ensures.value)) (whole_filter left c.self.inside.entries.items c.self.invariant)
