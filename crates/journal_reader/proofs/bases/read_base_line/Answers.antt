use Rattle.std.proofs.Common.{[], ◌∷◌}
use Rattle.journal_reader.specs.Fits.{FitsBase}
use Rattle.journal_reader.specs.Parts.{headed_base}
use Rattle.journal_text.specs.Texts.{base_line}
use Rattle.journal_reader.proofs.Cutting.{reads_parts_ok, reads_no_parts}
use Rattle.journal_reader.proofs.Heads.{base_head_own}
use Rattle.journal_reader.proofs.BaseWords.{base_joined}
use Rattle.journal_reader.proofs.bases.read_base_line.Goals as goal

pub returns-in_default : goal.returns-in_default
returns-in_default c = reads_no_parts FitsBase headed_base base_line 32 2 c.args.body.now base_head_own base_joined c.in_default.ensures

pub returns : goal.returns
returns c =
    reads_parts_ok FitsBase headed_base base_line 32 c.args.body.now (c.in-Some.name.now ∷ c.in-Some.rest.now ∷ []) c.named_base.result base_head_own base_joined c.in-Some.ensures c.named_base.ensures
