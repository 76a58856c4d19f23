use Rattle.std.proofs.Common.{◌≡◌, drop, length, nat_lt}
use Rattle.journal_audit.specs.Sounds.{taken_of}
use Rattle.journal_audit.proofs.held.any_taken.Given as goal

-- what is left decides
abbrev pub invariant-loop-call : goal.invariant-loop-call
invariant-loop-call l = nat_lt 0 (length (taken_of l.calls)) ≡ nat_lt 0 (length (taken_of (drop l.call-index l.calls)))
