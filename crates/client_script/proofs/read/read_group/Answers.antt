use Rattle.std.proofs.Common.{sym, ◌∙◌}
use Rattle.base_words.proofs.Compares.{agree, differ}
use Rattle.client_script.proofs.Parts.{new_text, some_group, no_group}
use Rattle.client_script.proofs.read.read_group.Goals as goal

pub returns-then-eq : goal.returns-then-eq
returns-then-eq c = (tt, new_text c.args.text.now (agree c.args.text.now c.as_slice.result.now c.eq.result c.eq.ensures c.if-eq.true ∙ c.as_slice.ensures))

pub returns-in_err-other : goal.returns-in_err-other
returns-in_err-other c = rw c.from_residual.ensures (λ o fits e.
    no_group o c.args.text.now (λ same. differ c.args.text.now c.as_slice.result.now c.eq.result c.eq.ensures c.if-eq.false (same ∙ sym c.as_slice.ensures))
    (λ d f g. c.in_err-other.ensures d f g) fits e)

pub returns : goal.returns
returns c = (c.in_ok-other.ensures.0, some_group c.in_ok-other.other c.args.text.now c.in_ok-other.ensures.1)
