use Rattle.std.proofs.Common.{◌≡◌, ◌+◌, ◌∙◌, true, length, rules, sym, subst}
use Rattle.std.specs.Prelude.{nat_le}
use Rattle.epm_manager.specs.Entries.{most_entries}
use Rattle.epm_manager.specs.Wholes.{IsWhole}
use Rattle.epm_manager.proofs.Whole.{whole_new}
use Rattle.epm_manager.proofs.desk.EpmDesk.insert_over.Goals as goal

pub invariant_of-self : goal.invariant_of-self
invariant_of-self c =
    let old = c.args.old.items in
    let new = c.args.new.items in
    let yes : c.fits.result ≡ true = search rules in
    let fits : nat_le (length old + length new) most_entries ≡ true = sym (λ j. nat_le (length (c.deref.ensures.value j) + length (c.deref-2.ensures.value j)) most_entries) ∙ sym c.fits.ensures ∙ yes in
    subst IsWhole (sym c.in_ok-append.ensures.items)
    (whole_new old c.self.inside.last new c.in_ok-more.more.entries.items c.in_ok-more.ensures.entries c.in_ok-more.ensures.typed c.requires.notes fits c.requires.old)
