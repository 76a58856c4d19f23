use Rattle.std.proofs.Common.{◌≡◌, ◌++◌, length}
use Rattle.ndr_value.specs.Values.{vals}
use Rattle.value_text.specs.Texts.{more_text}
use Rattle.client_texts.proofs.rows.put_more.Given as goal

abbrev pub invariant-loop-first : goal.invariant-loop-first
invariant-loop-first l = l.into.items ++ more_text (vals l.left) ≡ l.initial.into.items ++ more_text (vals l.values)

abbrev pub decreases-loop-first : goal.decreases-loop-first
decreases-loop-first l = length l.left
