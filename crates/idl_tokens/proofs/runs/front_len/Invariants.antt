use Rattle.std.proofs.Common.{◌≡◌, ℕ, ◌<◌, true, get_or}
use Rattle.idl_tokens.specs.Runs.{passes}
use Rattle.idl_tokens.proofs.runs.front_len.Given as goal

abbrev pub invariant-loop-len : goal.invariant-loop-len
invariant-loop-len l = (k : ℕ) → k < l.len → passes l.run (get_or l.text k 0) ≡ true
