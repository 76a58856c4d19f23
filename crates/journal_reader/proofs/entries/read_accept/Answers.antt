use Rattle.std.proofs.Common.{[], ◌∷◌, refl}
use Rattle.journal_reader.specs.Fits.{FitsAccept}
use Rattle.journal_reader.specs.Parts.{accept_parts, accept_text}
use Rattle.journal_reader.proofs.Cutting.{reads_parts_ok, reads_no_parts}
use Rattle.journal_reader.proofs.Words.{accept_own}
use Rattle.journal_reader.proofs.entries.read_accept.Goals as goal

pub returns-in_default : goal.returns-in_default
returns-in_default c = reads_no_parts FitsAccept accept_parts accept_text 32 2 c.args.text.now accept_own (λ x. refl) c.in_default.ensures

pub returns : goal.returns
returns c =
    reads_parts_ok FitsAccept accept_parts accept_text 32 c.args.text.now (c.in-Some.call.now ∷ c.in-Some.asked.now ∷ []) c.accept_of.result accept_own (λ x. refl) c.in-Some.ensures c.accept_of.ensures
