use Rattle.std.proofs.Common.{length}
use Rattle.journal_audit.proofs.Read.{Auditing}
use Rattle.journal_audit.proofs.file.audit.Given as goal

-- these journals were read, and the rest is left
abbrev pub invariant-loop-rest : goal.invariant-loop-rest
invariant-loop-rest l = Auditing l.text l.verdicts l.line l.rest

abbrev pub decreases-loop-rest : goal.decreases-loop-rest
decreases-loop-rest l = length l.rest
