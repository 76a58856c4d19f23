use Rattle.std.proofs.lemmas.Result.{err_from_is_err_and}
use Rattle.pdu_codec.proofs.WritingLaws.{keeps_then}
use Rattle.pdu_codec.proofs.writing.put_bind_ack.Goals as goal

pub returns-in_err-put_results-clause-err : goal.returns-in_err-put_results-clause-err
returns-in_err-put_results-clause-err c =
    let r = err_from_is_err_and c.from_residual-in_err-put_results.result c.from_residual-in_err-put_results.ensures.1 in
    let last = c.put_results.new.into.items in
    let counted = keeps_then c.put-2.new.into.items _ c.put-3.new.into.items last c.in_ok-put-3.ensures.ok c.in_err-put_results.ensures.err in
    let padded = keeps_then c.put.new.into.items _ c.put-2.new.into.items last c.in_ok-put-2.ensures.ok counted in
    let addressed = keeps_then c.put_u16.new.into.items _ c.put.new.into.items last c.in_ok-put.ensures.ok padded in
    let sized = keeps_then c.put_maxima.new.into.items _ c.put_u16.new.into.items last c.in_ok-put_u16.ensures.ok addressed in
    rw r.1 (keeps_then c.args.into.now.items _ c.put_maxima.new.into.items last c.in_ok-put_maxima.ensures.ok sized)
