use Rattle.std.proofs.Common.{◌≡◌, drop}
use Rattle.desk_kit.specs.Rows.{vals_then}
use Rattle.epm_manager.specs.Answered as spec
use Rattle.epm_manager.proofs.answer_values.entry_values.Given as goal

-- with the entries that are left they are all of them
abbrev pub invariant-loop-numbered : goal.invariant-loop-numbered
invariant-loop-numbered l = (l.item ≡ l.numbered-index) × (vals_then l.values.items (spec.entry_values l.item (drop l.numbered-index l.entries)) ≡ spec.entry_values 0 l.entries)
