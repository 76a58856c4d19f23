use Rattle.std.proofs.Common.{take}
use Rattle.std.specs.List.{flat_map}
use Rattle.std.proofs.lemmas.Result.{err_from_is_err_and}
use Rattle.pdu_codec.specs.Pdus.{element_octets}
use Rattle.pdu_codec.proofs.WritingLaws.{keeps_then}
use Rattle.pdu_codec.proofs.writing.put_elements.Goals as goal

pub returns-in_err-put_element-clause-err : goal.returns-in_err-put_element-clause-err
returns-in_err-put_element-clause-err c =
    let r = err_from_is_err_and c.from_residual.result c.from_residual.ensures.1 in
    let written = flat_map (element_octets c.args.order 0) (take c.loop-element.element-index c.args.elements.now) in
    rw r.1 (keeps_then c.args.into.now.items written c.loop-element.into.items c.put_element.new.into.items c.loop-element.invariant c.in_err-put_element.ensures.err)
