use Rattle.std.proofs.Common.{◌≡◌, false}
use Rattle.cases_words.proofs.link_rows.put_calls.Given as goal

abbrev pub invariant-loop-call : goal.invariant-loop-call
invariant-loop-call l = l.link.closed ≡ false
