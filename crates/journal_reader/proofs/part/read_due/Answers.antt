use Rattle.std.proofs.Common.{[], ◌∷◌}
use Rattle.journal_text.specs.Texts.{due_text}
use Rattle.journal_reader.specs.Fits.{FitsDue}
use Rattle.journal_reader.specs.Parts.{due_parts}
use Rattle.journal_reader.proofs.Cutting.{reads_parts, reads_no_parts}
use Rattle.journal_reader.proofs.Marks.{due_own, due_joined}
use Rattle.journal_reader.proofs.part.read_due.Goals as goal

pub returns-in_err-serial : goal.returns-in_err-serial
returns-in_err-serial c = rw c.from_residual.ensures (reads_no_parts FitsDue due_parts due_text 58 3 c.args.text.now due_own due_joined c.in_err-serial.ensures)

pub returns : goal.returns
returns c =
    reads_parts FitsDue due_parts due_text 58 c.args.text.now (c.in_ok-serial.serial.now ∷ c.in_ok-serial.kind.now ∷ c.in_ok-serial.cookie.now ∷ []) c.due_of.result due_own due_joined c.in_ok-serial.ensures c.due_of.ensures
