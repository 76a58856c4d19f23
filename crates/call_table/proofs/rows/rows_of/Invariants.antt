use Rattle.std.proofs.Common.{◌≡◌, ◌++◌, true, drop, map}
use Rattle.std.specs.List.{list_all}
use Rattle.handle_model.specs.Sound.{is_within}
use Rattle.call_table.specs.Shown.{base_row, base_rows}
use Rattle.call_table.proofs.rows.rows_of.Given as goal

-- what is made, and what is left
abbrev pub invariant-loop-call : goal.invariant-loop-call
invariant-loop-call l =
    (l.rows.items ++ map (base_row l.base.count) (drop l.call-index l.base.calls) ≡ base_rows l.base)
    × (list_all (is_within l.base) (drop l.call-index l.base.calls) ≡ true)
