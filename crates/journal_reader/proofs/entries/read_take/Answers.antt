use Rattle.std.proofs.Common.{[], ◌∷◌, refl}
use Rattle.journal_reader.specs.Fits.{FitsTake}
use Rattle.journal_reader.specs.Parts.{take_parts, take_text}
use Rattle.journal_reader.proofs.Cutting.{reads_parts_ok, reads_no_parts}
use Rattle.journal_reader.proofs.Words.{take_own}
use Rattle.journal_reader.proofs.entries.read_take.Goals as goal

pub returns-in_default : goal.returns-in_default
returns-in_default c = reads_no_parts FitsTake take_parts take_text 32 2 c.args.text.now take_own (λ x. refl) c.in_default.ensures

pub returns : goal.returns
returns c =
    reads_parts_ok FitsTake take_parts take_text 32 c.args.text.now (c.in-Some.call.now ∷ c.in-Some.cookies.now ∷ []) c.take_of.result take_own (λ x. refl) c.in-Some.ensures c.take_of.ensures
