use Rattle.std.proofs.Common.{◌∙◌, List, Some, sym, ap}
use Rattle.ndr_value.specs.Values.{vals}
use Rattle.epm_manager.specs.declared.entry.MapEntry.{MapEntry}
use Rattle.epm_manager.proofs.EntryLemmas.{entry_more, entry_none}
use Rattle.epm_manager.proofs.asked.each_entry.Goals as goal

pub returns-in-None : goal.returns-in-None
returns-in-None c =
    sym (entry_none (vals c.args.heap.now) c.args.values.now c.loop-value.value-index c.value-item.result c.loop-value-test.true c.value-item.is (sym c.in-None.is ∙ c.in_ok-entry_of.ensures))

pub loop-value-preserved : goal.loop-value-preserved
loop-value-preserved c =
    ap (λ (es : List MapEntry). Some es) c.in_ok-push-in-Some.ensures.items
    ∙ entry_more (vals c.args.heap.now) c.args.values.now c.loop-value.value-index c.value-item.result c.loop-value.entries.items c.in-Some.entry c.loop-value-test.true c.value-item.is c.loop-value.invariant (sym c.in-Some.is ∙ c.in_ok-entry_of.ensures)
