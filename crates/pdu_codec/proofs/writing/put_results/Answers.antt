use Rattle.std.proofs.Common.{take}
use Rattle.std.specs.List.{flat_map}
use Rattle.std.proofs.lemmas.Result.{err_from_is_err_and}
use Rattle.pdu_codec.specs.Pdus.{result_octets}
use Rattle.pdu_codec.proofs.WritingLaws.{keeps_then}
use Rattle.pdu_codec.proofs.writing.put_results.Goals as goal

pub returns-in_err-put_result-clause-err : goal.returns-in_err-put_result-clause-err
returns-in_err-put_result-clause-err c =
    let r = err_from_is_err_and c.from_residual.result c.from_residual.ensures.1 in
    let written = flat_map (result_octets c.args.order) (take c.loop-answer.answer-index c.args.answers.now) in
    rw r.1 (keeps_then c.args.into.now.items written c.loop-answer.into.items c.put_result.new.into.items c.loop-answer.invariant c.in_err-put_result.ensures.err)
