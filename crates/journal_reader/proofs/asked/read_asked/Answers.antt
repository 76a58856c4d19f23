use Rattle.std.proofs.Common.{[], ◌∷◌}
use Rattle.journal_text.specs.Texts.{asked_text}
use Rattle.journal_reader.specs.Fits.{FitsAsked}
use Rattle.journal_reader.specs.Parts.{asked_parts}
use Rattle.journal_reader.proofs.Cutting.{reads_parts_ok, reads_no_parts}
use Rattle.journal_reader.proofs.Words.{asked_own, asked_joined}
use Rattle.journal_reader.proofs.asked.read_asked.Goals as goal

pub returns-in_default : goal.returns-in_default
returns-in_default c = reads_no_parts FitsAsked asked_parts asked_text 32 6 c.args.text.now asked_own asked_joined c.in_default.ensures

pub returns : goal.returns
returns c =
    reads_parts_ok FitsAsked asked_parts asked_text 32 c.args.text.now (c.in-Some.conn.now ∷ c.in-Some.operation.now ∷ c.in-Some.order.now ∷ c.in-Some.reply.now ∷ c.in-Some.slots.now ∷ c.in-Some.stub.now ∷ []) c.asked_of.result asked_own asked_joined c.in-Some.ensures c.asked_of.ensures
