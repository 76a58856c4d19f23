use Rattle.std.proofs.Common.{length, sym, arith}
use Rattle.std.proofs.lemmas.List.Sums.{prefix_len_is}
use Rattle.idl_tokens.specs.Runs.{passes}
use Rattle.idl_tokens.proofs.runs.front_len.Goals as goal

pub returns-clause-value : goal.returns-clause-value
returns-clause-value c =
    sym (prefix_len_is (passes c.args.run) c.args.text.now (length c.args.text.now) 0 (omega arith) (λ k h. c.loop-len.invariant k (omega arith)) (λ h. absurd (omega arith)))
