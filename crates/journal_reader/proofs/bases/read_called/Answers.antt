use Rattle.std.proofs.Common.{[], ◌∷◌, refl}
use Rattle.journal_reader.specs.Fits.{FitsCalled}
use Rattle.journal_reader.specs.Parts.{called_parts, called_text}
use Rattle.journal_reader.proofs.Cutting.{reads_parts_ok, reads_no_parts}
use Rattle.journal_reader.proofs.BaseWords.{called_own}
use Rattle.journal_reader.proofs.bases.read_called.Goals as goal

pub returns-in_default : goal.returns-in_default
returns-in_default c = reads_no_parts FitsCalled called_parts called_text 32 7 c.args.text.now called_own (λ x. refl) c.in_default.ensures

pub returns : goal.returns
returns c =
    reads_parts_ok FitsCalled called_parts called_text 32 c.args.text.now (c.in-Some.conn.now ∷ c.in-Some.operation.now ∷ c.in-Some.order.now ∷ c.in-Some.reply.now ∷ c.in-Some.slots.now ∷ c.in-Some.stub.now ∷ c.in-Some.stage.now ∷ []) c.called_of.result called_own (λ x. refl) c.in-Some.ensures c.called_of.ensures
