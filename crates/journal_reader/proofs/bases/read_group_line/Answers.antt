use Rattle.std.proofs.Common.{[], ◌∷◌}
use Rattle.journal_reader.specs.Fits.{FitsHome}
use Rattle.journal_reader.specs.Parts.{group_parts}
use Rattle.journal_reader.specs.Parts.{group_line}
use Rattle.journal_reader.proofs.Cutting.{reads_parts, reads_no_parts}
use Rattle.journal_reader.proofs.Heads.{group_own}
use Rattle.journal_reader.proofs.BaseWords.{home_joined}
use Rattle.journal_reader.proofs.bases.read_group_line.Goals as goal

pub returns-in_err-name : goal.returns-in_err-name
returns-in_err-name c = rw c.from_residual.ensures (reads_no_parts FitsHome group_parts group_line 32 2 c.args.body.now group_own home_joined c.in_err-name.ensures)

pub returns : goal.returns
returns c =
    reads_parts FitsHome group_parts group_line 32 c.args.body.now (c.in_ok-name.name.now ∷ c.in_ok-name.rest.now ∷ []) c.group_of.result group_own home_joined c.in_ok-name.ensures c.group_of.ensures
