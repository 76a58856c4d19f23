use Rattle.std.proofs.Common.{[], ◌∷◌, refl}
use Rattle.journal_reader.specs.Fits.{FitsDeny}
use Rattle.journal_reader.specs.Parts.{deny_parts, deny_text}
use Rattle.journal_reader.proofs.Cutting.{reads_parts, reads_no_parts}
use Rattle.journal_reader.proofs.Words.{deny_own}
use Rattle.journal_reader.proofs.entries.read_deny.Goals as goal

pub returns-in_err-call : goal.returns-in_err-call
returns-in_err-call c = rw c.from_residual.ensures (reads_no_parts FitsDeny deny_parts deny_text 32 2 c.args.text.now deny_own (λ x. refl) c.in_err-call.ensures)

pub returns : goal.returns
returns c =
    reads_parts FitsDeny deny_parts deny_text 32 c.args.text.now (c.in_ok-call.call.now ∷ c.in_ok-call.slot.now ∷ []) c.deny_of.result deny_own (λ x. refl) c.in_ok-call.ensures c.deny_of.ensures
