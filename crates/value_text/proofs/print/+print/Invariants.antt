use Rattle.std.proofs.Common.{◌≡◌, ◌++◌, drop}
use Rattle.ndr_value.specs.Values.{vals}
use Rattle.value_text.specs.Texts.{list_text}
use Rattle.value_text.specs.Rows.{rest_text}
use Rattle.value_text.proofs.print.+print.Given as goal

abbrev pub invariant-put_list-loop-value : goal.invariant-put_list-loop-value
invariant-put_list-loop-value l = l.into.items ++ rest_text l.first (vals (drop l.value-index l.values)) ≡ l.initial.into.items ++ list_text (vals l.values)
