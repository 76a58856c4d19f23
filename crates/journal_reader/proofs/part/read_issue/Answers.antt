use Rattle.std.proofs.Common.{[], ◌∷◌, refl}
use Rattle.journal_reader.specs.Fits.{FitsIssue}
use Rattle.journal_reader.specs.Parts.{issue_parts, issue_text}
use Rattle.journal_reader.proofs.Cutting.{reads_parts, reads_no_parts}
use Rattle.journal_reader.proofs.Marks.{issue_own}
use Rattle.journal_reader.proofs.part.read_issue.Goals as goal

pub returns-in_err-serial : goal.returns-in_err-serial
returns-in_err-serial c = rw c.from_residual.ensures (reads_no_parts FitsIssue issue_parts issue_text 58 2 c.args.text.now issue_own (λ x. refl) c.in_err-serial.ensures)

pub returns : goal.returns
returns c =
    reads_parts FitsIssue issue_parts issue_text 58 c.args.text.now (c.in_ok-serial.serial.now ∷ c.in_ok-serial.cookie.now ∷ []) c.issue_of.result issue_own (λ x. refl) c.in_ok-serial.ensures c.issue_of.ensures
