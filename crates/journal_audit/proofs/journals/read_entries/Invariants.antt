use Rattle.std.proofs.Common.{length}
use Rattle.journal_audit.proofs.Read.{Reading}
use Rattle.journal_audit.proofs.journals.read_entries.Given as goal

-- these entries were read and watched, and the rest is left
abbrev pub invariant-loop-watch : goal.invariant-loop-watch
invariant-loop-watch l = Reading l.fn.watch l.line l.text l.watch l.now l.rest

abbrev pub decreases-loop-watch : goal.decreases-loop-watch
decreases-loop-watch l = length l.rest
