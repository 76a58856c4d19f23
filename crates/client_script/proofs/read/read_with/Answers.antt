use Rattle.std.proofs.Common.{sym, ◌∙◌}
use Rattle.base_words.proofs.Compares.{agree, differ}
use Rattle.client_script.proofs.Parts.{with_parts, no_with, with_reads}
use Rattle.client_script.proofs.read.read_with.Goals as goal

pub returns-in_err-word : goal.returns-in_err-word
returns-in_err-word c = rw c.from_residual.ensures (λ d fits e. no_with d c.args.text.now c.in_err-word.ensures e)

pub returns-then-eq : goal.returns-then-eq
returns-then-eq c =
    let cut = c.in_ok-word.ensures in
    with_reads c.args.text.now c.in_ok-word.word.now c.in_ok-word.other.now c.read_connection.result cut.0 cut.1
    (agree c.in_ok-word.word.now c.as_slice.result.now c.eq.result c.eq.ensures c.if-eq.true ∙ c.as_slice.ensures) c.read_connection.ensures

pub returns-else-eq : goal.returns-else-eq
returns-else-eq c = λ d fits e.
    let cut = c.in_ok-word.ensures in
    let parts = with_parts d c.args.text.now c.in_ok-word.word.now c.in_ok-word.other.now cut.0 cut.1 e in
    differ c.in_ok-word.word.now c.as_slice.result.now c.eq.result c.eq.ensures c.if-eq.false (sym parts.0 ∙ sym c.as_slice.ensures)
