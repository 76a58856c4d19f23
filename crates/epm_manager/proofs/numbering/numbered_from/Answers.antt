use Rattle.std.proofs.Common.{◌≡◌, ◌∙◌, List, [], ◌∷◌, ◌++◌, sym, ap, subst}
use Rattle.epm_manager.specs.declared.entry.Numbered.{Numbered}
use Rattle.epm_manager.specs.Entries.{next_number, last_of}
use Rattle.epm_manager.specs.Wholes.{AllTyped}
use Rattle.epm_manager.proofs.Whole.{typed_append, numbered_push, last_push}
use Rattle.epm_manager.proofs.numbering.numbered_from.Goals as goal

pub loop-entry-preserved : goal.loop-entry-preserved
loop-entry-preserved c =
    let inv = c.loop-entry.invariant in
    let e = c.in-Some.entry in
    let number : c.saturating_add-number.result ≡ next_number (last_of c.args.last c.loop-entry.yielded) = c.saturating_add-number.ensures ∙ ap next_number inv.last in
    let x : Numbered = record { number = c.saturating_add-number.result; entry = e } in
    let items : c.push.new.self.items ≡ c.loop-entry.numbered.items ++ x ∷ [] = c.in_ok-push.ensures.items in
    record {
      typed = subst AllTyped (sym items) (typed_append c.loop-entry.numbered.items (x ∷ []) inv.typed (c.note_types.ensures, tt));
      entries = items ∙ (λ j. inv.entries j ++ record { number = number j; entry = e } ∷ []) ∙ sym (numbered_push c.args.last c.loop-entry.yielded e);
      last = number ∙ sym (last_push c.args.last c.loop-entry.yielded e);
    }
