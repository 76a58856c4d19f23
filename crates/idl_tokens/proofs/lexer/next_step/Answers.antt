use Rattle.std.proofs.Common.{arith}
use Rattle.std.proofs.lemmas.Bool.Decides.{nat_tests}
use Rattle.idl_tokens.proofs.Steps.{last_end, last_bad}
use Rattle.idl_tokens.proofs.lexer.next_step.Goals as goal

pub returns-then-is_empty : goal.returns-then-is_empty
returns-then-is_empty c = λ before t.
    last_end c.args.total before c.args.text.now c.behind_gap-here.result.now c.behind_gap-here.ensures.gap (grind (arith, nat_tests))

pub returns-in-None : goal.returns-in-None
returns-in-None c = λ before t.
    last_bad c.args.total before c.args.text.now c.behind_gap-here.result.now c.behind_gap-here.ensures.gap (grind (arith, nat_tests)) (omega arith) c.behind_gap-here.ensures.no_more
    ((rw c.in-None.is at c.in_ok-kind.ensures) before t)
