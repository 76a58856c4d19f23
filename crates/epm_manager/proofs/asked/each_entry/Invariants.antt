use Rattle.std.proofs.Common.{◌≡◌, take, Some}
use Rattle.ndr_value.specs.Values.{vals}
use Rattle.epm_manager.specs.Asked.{entries_of}
use Rattle.epm_manager.proofs.asked.each_entry.Given as goal

abbrev pub invariant-loop-value : goal.invariant-loop-value
invariant-loop-value l = Some l.entries.items ≡ entries_of (vals l.heap) (vals (take l.value-index l.values))
