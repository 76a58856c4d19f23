use Rattle.std.proofs.Common.{[], ◌∷◌, refl}
use Rattle.journal_reader.specs.Fits.{FitsCall}
use Rattle.journal_reader.specs.Parts.{call_parts, call_text}
use Rattle.journal_reader.proofs.Cutting.{reads_parts_ok, reads_no_parts}
use Rattle.journal_reader.proofs.BaseWords.{call_own}
use Rattle.journal_reader.proofs.bases.read_call.Goals as goal

pub returns-in_default : goal.returns-in_default
returns-in_default c = reads_no_parts FitsCall call_parts call_text 32 2 c.args.text.now call_own (λ x. refl) c.in_default.ensures

pub returns : goal.returns
returns c =
    reads_parts_ok FitsCall call_parts call_text 32 c.args.text.now (c.in-Some.call.now ∷ c.in-Some.called.now ∷ []) c.call_of.result call_own (λ x. refl) c.in-Some.ensures c.call_of.ensures
