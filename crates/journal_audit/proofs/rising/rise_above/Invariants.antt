use Rattle.std.proofs.Common.{◌≡◌, drop}
use Rattle.handle_model.specs.Sound.{rise_above}
use Rattle.journal_audit.proofs.rising.rise_above.Given as goal

-- what is left decides
abbrev pub invariant-loop-number : goal.invariant-loop-number
invariant-loop-number l = rise_above l.low l.numbers ≡ rise_above l.last (drop l.number-index l.numbers)
