use Rattle.std.proofs.lemmas.Result.{err_from_is_err_and}
use Rattle.pdu_codec.proofs.WritingLaws.{keeps_then}
use Rattle.pdu_codec.proofs.writing.put_bind.Goals as goal

pub returns-in_err-put_elements-clause-err : goal.returns-in_err-put_elements-clause-err
returns-in_err-put_elements-clause-err c =
    let r = err_from_is_err_and c.from_residual-in_err-put_elements.result c.from_residual-in_err-put_elements.ensures.1 in
    let counted = keeps_then c.put_maxima.new.into.items _ c.put.new.into.items c.put_elements.new.into.items c.in_ok-put.ensures.ok c.in_err-put_elements.ensures.err in
    rw r.1 (keeps_then c.args.into.now.items _ c.put_maxima.new.into.items c.put_elements.new.into.items c.in_ok-put_maxima.ensures.ok counted)
