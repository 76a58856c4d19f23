use Rattle.std.proofs.Common.{[], ◌∷◌}
use Rattle.journal_text.specs.Texts.{line}
use Rattle.journal_reader.specs.Fits.{FitsEntry}
use Rattle.journal_reader.specs.Parts.{entry_parts}
use Rattle.journal_reader.proofs.Cutting.{reads_parts_ok, reads_no_parts}
use Rattle.journal_reader.proofs.Words.{entry_own, entry_joined}
use Rattle.journal_reader.proofs.entries.read_entry_line.Goals as goal

pub returns-in_default : goal.returns-in_default
returns-in_default c = reads_no_parts FitsEntry entry_parts line 32 2 c.args.body.now entry_own entry_joined c.in_default.ensures

pub returns : goal.returns
returns c =
    reads_parts_ok FitsEntry entry_parts line 32 c.args.body.now (c.in-Some.name.now ∷ c.in-Some.rest.now ∷ []) c.entry_of.result entry_own entry_joined c.in-Some.ensures c.entry_of.ensures
