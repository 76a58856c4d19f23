use Rattle.std.proofs.Common.{[], ◌∷◌, refl}
use Rattle.journal_reader.specs.Fits.{FitsHome}
use Rattle.journal_reader.specs.Parts.{home_parts, home_text}
use Rattle.journal_reader.proofs.Cutting.{reads_parts, reads_no_parts}
use Rattle.journal_reader.proofs.BaseWords.{home_own}
use Rattle.journal_reader.proofs.bases.read_home.Goals as goal

pub returns-in_err-group : goal.returns-in_err-group
returns-in_err-group c = rw c.from_residual.ensures (reads_no_parts FitsHome home_parts home_text 32 3 c.args.text.now home_own (λ x. refl) c.in_err-group.ensures)

pub returns : goal.returns
returns c =
    reads_parts FitsHome home_parts home_text 32 c.args.text.now (c.in_ok-group.group.now ∷ c.in_ok-group.word.now ∷ c.in_ok-group.boot.now ∷ []) c.home_of.result home_own (λ x. refl) c.in_ok-group.ensures c.home_of.ensures
