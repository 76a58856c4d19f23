use Rattle.std.proofs.Common.{[], ◌∷◌, refl, sym}
use Rattle.journal_text.specs.Texts.{outcome_text}
use Rattle.journal_reader.specs.Fits.{FitsOutcome}
use Rattle.journal_reader.specs.Parts.{outcome_parts}
use Rattle.journal_reader.proofs.Cutting.{reads_one_or_two}
use Rattle.journal_reader.proofs.Marks.{outcome_own, outcome_joined}
use Rattle.journal_reader.proofs.part.read_outcome.Goals as goal

pub returns-in-None : goal.returns-in-None
returns-in-None c =
    reads_one_or_two FitsOutcome outcome_parts outcome_text 58 c.args.text.now (c.args.text.now ∷ []) c.named_outcome.result outcome_own outcome_joined c.in-None.ensures refl c.named_outcome.ensures

pub returns-in-Some : goal.returns-in-Some
returns-in-Some c =
    let cut = c.in-Some.ensures in
    reads_one_or_two FitsOutcome outcome_parts outcome_text 58 c.args.text.now (c.in-Some.name.now ∷ c.in-Some.rest.now ∷ []) c.numbered_outcome.result outcome_own outcome_joined cut.1 (sym cut.0) c.numbered_outcome.ensures
