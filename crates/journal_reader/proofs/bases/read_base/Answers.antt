use Rattle.std.proofs.Common.{[], ◌∷◌, refl}
use Rattle.journal_reader.specs.Fits.{FitsBase}
use Rattle.journal_reader.specs.Parts.{base_parts, base_rest}
use Rattle.journal_reader.proofs.Cutting.{reads_parts_ok, reads_no_parts}
use Rattle.journal_reader.proofs.BaseWords.{base_own}
use Rattle.journal_reader.proofs.bases.read_base.Goals as goal

pub returns-in_default : goal.returns-in_default
returns-in_default c = reads_no_parts FitsBase base_parts base_rest 32 6 c.args.text.now base_own (λ x. refl) c.in_default.ensures

pub returns : goal.returns
returns c =
    reads_parts_ok FitsBase base_parts base_rest 32 c.args.text.now (c.in-Some.count.now ∷ c.in-Some.joins.now ∷ c.in-Some.accepts.now ∷ c.in-Some.opens.now ∷ c.in-Some.conns.now ∷ c.in-Some.handles.now ∷ []) c.base_of.result base_own (λ x. refl) c.in-Some.ensures c.base_of.ensures
