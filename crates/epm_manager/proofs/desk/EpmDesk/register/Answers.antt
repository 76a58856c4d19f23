use Rattle.std.proofs.Common.{◌≡◌, ◌+◌, ◌≤◌, ◌∙◌, length, true, List, [], ◌∷◌, refl, arith}
use Rattle.std.specs.Prelude.{is_ok}
use Rattle.std.proofs.lemmas.Grind.{common_steps}
use Rattle.epm_manager.specs.declared.entry.Numbered.{Numbered}
use Rattle.epm_manager.specs.Entries.{most_entries}
use Rattle.epm_manager.specs.Wholes.{all_noted}
use Rattle.epm_manager.proofs.Sound.{and_true}
use Rattle.epm_manager.proofs.Whole.{whole_more, whole_if}
use Rattle.epm_manager.proofs.desk.EpmDesk.register.Goals as goal

pub invariant_of-self-2 : goal.invariant_of-self-2
invariant_of-self-2 c =
    let ns = c.self.inside.entries.items in
    let x : Numbered = record { number = c.saturating_add-number.result; entry = c.args.entry } in
    let ms : List Numbered = x ∷ [] in
    let count : c.len.result ≡ length ns = grind (arith, common_steps) in
    let few : length ns + length ms ≤ most_entries = omega (arith, count, c.if-len-ge-MOST_ENTRIES.false) in
    whole_if (is_ok c.push.result) ns ms c.push.new.self.items c.push.ensures.items c.self.invariant
    (whole_more ns ms c.self.invariant (c.note_types.ensures, tt) (and_true _ true c.requires refl) few)
