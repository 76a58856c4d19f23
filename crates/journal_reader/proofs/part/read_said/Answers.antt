use Rattle.std.proofs.Common.{[], ◌∷◌}
use Rattle.journal_text.specs.Texts.{said_text}
use Rattle.journal_reader.specs.Fits.{FitsSaid}
use Rattle.journal_reader.specs.Parts.{said_parts}
use Rattle.journal_reader.proofs.Cutting.{reads_parts_ok, reads_no_parts}
use Rattle.journal_reader.proofs.Marks.{said_own, said_joined}
use Rattle.journal_reader.proofs.part.read_said.Goals as goal

pub returns-in_default : goal.returns-in_default
returns-in_default c = reads_no_parts FitsSaid said_parts said_text 58 2 c.args.text.now said_own said_joined c.in_default.ensures

pub returns : goal.returns
returns c =
    reads_parts_ok FitsSaid said_parts said_text 58 c.args.text.now (c.in-Some.name.now ∷ c.in-Some.rest.now ∷ []) c.said_of.result said_own said_joined c.in-Some.ensures c.said_of.ensures
