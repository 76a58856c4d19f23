use Rattle.std.proofs.Common.{rules, ◌≡◌, ◌∙◌, false, sym, ap, subst}
use Rattle.std.specs.Prelude.{IfOk}
use Rattle.ndr_value.specs.declared.value.Value.{Value}
use Rattle.ndr_value.specs.Values.{Vals, val, vals}
use Rattle.ndr_value.proofs.Mirror.{val_array}
use Rattle.epm_manager.specs.Asked.{elements_of, entries_of, listed}
use Rattle.epm_manager.proofs.EntryLemmas.{octets_none}
use Rattle.epm_manager.proofs.asked.entries_of.Goals as goal

pub returns-in-Array : goal.returns-in-Array
returns-in-Array c =
    let same : vals c.deref.result.now ≡ elements_of (val c.args.value.now) = ap vals c.deref.ensures.value ∙ sym (ap (λ (v : Value). elements_of (val v)) c.in-Array.is ∙ ap elements_of (val_array c.in-Array.values)) in
    subst (λ (vs : Vals). IfOk c.each_entry.result (λ o. listed o ≡ entries_of (vals c.args.heap.now) vs)) same c.each_entry.ensures

pub returns-then-not-is_empty : goal.returns-then-not-is_empty
returns-then-not-is_empty c =
    let some : c.is_empty.result ≡ false = search rules in
    octets_none (vals c.args.heap.now) c.in-Octets.octets (sym c.is_empty.ensures ∙ some) ∙ sym (ap (λ (v : Value). entries_of (vals c.args.heap.now) (elements_of (val v))) c.in-Octets.is)
