use Rattle.std.proofs.Common.{[], ◌∷◌, refl}
use Rattle.journal_reader.specs.Fits.{FitsOperation}
use Rattle.journal_reader.specs.Parts.{operation_parts, operation_text}
use Rattle.journal_reader.proofs.Cutting.{reads_parts, reads_no_parts}
use Rattle.journal_reader.proofs.Words.{operation_own}
use Rattle.journal_reader.proofs.asked.read_operation.Goals as goal

pub returns-in_err-iface : goal.returns-in_err-iface
returns-in_err-iface c = rw c.from_residual.ensures (reads_no_parts FitsOperation operation_parts operation_text 46 2 c.args.text.now operation_own (λ x. refl) c.in_err-iface.ensures)

pub returns : goal.returns
returns c =
    reads_parts FitsOperation operation_parts operation_text 46 c.args.text.now (c.in_ok-iface.iface.now ∷ c.in_ok-iface.op.now ∷ []) c.operation_of.result operation_own (λ x. refl) c.in_ok-iface.ensures c.operation_of.ensures
