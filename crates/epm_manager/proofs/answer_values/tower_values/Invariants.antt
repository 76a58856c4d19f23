use Rattle.std.proofs.Common.{◌≡◌, drop}
use Rattle.desk_kit.specs.Rows.{vals_then}
use Rattle.epm_manager.specs.Answered as spec
use Rattle.epm_manager.proofs.answer_values.tower_values.Given as goal

-- with the towers that are left they are all of them
abbrev pub invariant-loop-numbered : goal.invariant-loop-numbered
invariant-loop-numbered l = vals_then l.towers.items (spec.tower_values (drop l.numbered-index l.entries)) ≡ spec.tower_values l.entries
