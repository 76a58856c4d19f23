use Rattle.std.proofs.Common.{◌∙◌}
use Rattle.base_words.proofs.Compares.{agree}
use Rattle.journal_reader.proofs.Marks.{issue_alone}
use Rattle.journal_reader.proofs.part.numbered_outcome.Goals as goal

pub returns-in_err-serial : goal.returns-in_err-serial
returns-in_err-serial c = rw c.from_residual-in_err-serial.ensures (λ o fits e.
    let name = agree c.args.name.now c.as_slice-else-eq.result.now c.eq-else-eq.result c.eq-else-eq.ensures c.if-eq-2.true in
    issue_alone o c.args.name.now c.args.rest.now fits (name ∙ c.as_slice-else-eq.ensures) e c.in_err-serial.ensures)
