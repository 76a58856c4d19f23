use Rattle.std.proofs.Common.{[], ◌∷◌, refl}
use Rattle.journal_reader.specs.Fits.{FitsEnd}
use Rattle.journal_reader.specs.Parts.{end_parts, end_text}
use Rattle.journal_reader.proofs.Cutting.{reads_parts_ok, reads_no_parts}
use Rattle.journal_reader.proofs.Words.{end_own}
use Rattle.journal_reader.proofs.entries.read_end.Goals as goal

pub returns-in_default : goal.returns-in_default
returns-in_default c = reads_no_parts FitsEnd end_parts end_text 32 3 c.args.text.now end_own (λ x. refl) c.in_default.ensures

pub returns : goal.returns
returns c =
    reads_parts_ok FitsEnd end_parts end_text 32 c.args.text.now (c.in-Some.call.now ∷ c.in-Some.results.now ∷ c.in-Some.said.now ∷ []) c.end_of.result end_own (λ x. refl) c.in-Some.ensures c.end_of.ensures
