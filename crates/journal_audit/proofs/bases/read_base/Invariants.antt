use Rattle.std.proofs.Common.{◌≡◌, length}
use Rattle.journal_audit.proofs.Read.{Based}
use Rattle.journal_audit.proofs.bases.read_base.Given as goal

-- these lines of a base were read, and the rest is left
abbrev pub invariant-loop-growing : goal.invariant-loop-growing
invariant-loop-growing l = Based l.fn.home l.line l.text l.growing.base l.now l.rest × (l.growing.home ≡ l.fn.home)

abbrev pub decreases-loop-growing : goal.decreases-loop-growing
decreases-loop-growing l = length l.rest
