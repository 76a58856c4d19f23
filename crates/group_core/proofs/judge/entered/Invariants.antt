use Rattle.std.proofs.Common.{◌≡◌, length, take}
use Rattle.group_core.proofs.judge.entered.Given as goal

-- the first places have the first cookies
abbrev pub invariant-loop-i : goal.invariant-loop-i
invariant-loop-i l = (length l.list ≡ length l.fn.list) × (take l.i l.list ≡ take l.i l.row)
