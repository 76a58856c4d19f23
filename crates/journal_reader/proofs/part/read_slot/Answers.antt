use Rattle.std.proofs.Common.{[], ◌∷◌}
use Rattle.journal_text.specs.Texts.{slot_text}
use Rattle.journal_reader.specs.Fits.{FitsSlot}
use Rattle.journal_reader.specs.Parts.{slot_parts}
use Rattle.journal_reader.proofs.Cutting.{reads_parts, reads_no_parts}
use Rattle.journal_reader.proofs.Marks.{slot_own, slot_joined}
use Rattle.journal_reader.proofs.part.read_slot.Goals as goal

pub returns-in_err-name : goal.returns-in_err-name
returns-in_err-name c = rw c.from_residual.ensures (reads_no_parts FitsSlot slot_parts slot_text 58 3 c.args.text.now slot_own slot_joined c.in_err-name.ensures)

pub returns : goal.returns
returns c =
    reads_parts FitsSlot slot_parts slot_text 58 c.args.text.now (c.in_ok-name.name.now ∷ c.in_ok-name.kind.now ∷ c.in_ok-name.object.now ∷ []) c.slot_of.result slot_own slot_joined c.in_ok-name.ensures c.slot_of.ensures
