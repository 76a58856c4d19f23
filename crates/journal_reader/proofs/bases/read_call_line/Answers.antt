use Rattle.std.proofs.Common.{[], ◌∷◌}
use Rattle.journal_reader.specs.Fits.{FitsCall}
use Rattle.journal_reader.specs.Parts.{headed_call}
use Rattle.journal_text.specs.Texts.{call_line}
use Rattle.journal_reader.proofs.Cutting.{reads_parts_ok, reads_no_parts}
use Rattle.journal_reader.proofs.Heads.{call_head_own}
use Rattle.journal_reader.proofs.BaseWords.{call_joined}
use Rattle.journal_reader.proofs.bases.read_call_line.Goals as goal

pub returns-in_default : goal.returns-in_default
returns-in_default c = reads_no_parts FitsCall headed_call call_line 32 2 c.args.body.now call_head_own call_joined c.in_default.ensures

pub returns : goal.returns
returns c =
    reads_parts_ok FitsCall headed_call call_line 32 c.args.body.now (c.in-Some.name.now ∷ c.in-Some.rest.now ∷ []) c.named_call.result call_head_own call_joined c.in-Some.ensures c.named_call.ensures
