use Rattle.std.proofs.Common.{ℕ, List, subst}
use Rattle.pdu_codec.specs.Faults.{IsFault}
use Rattle.std.proofs.lemmas.Result.{err_from_is_err_and}
use Rattle.pdu_stream.proofs.Fronts.{head_partial, body_fault}
use Rattle.pdu_stream.proofs.front.front.Goals as goal

pub returns-then-octets-size : goal.returns-then-octets-size
returns-then-octets-size c =
    let chunk = c.in-Some.ensures.cases in
    head_partial c.args.octets.now c.in-Some.header.now c.in_ok-size.field-0 chunk.enough chunk.same c.in_ok-size.ensures.head c.if-octets-size.true

pub returns-in_err-pdu : goal.returns-in_err-pdu
returns-in_err-pdu c =
    let chunk = c.in-Some.ensures.cases in
    let r = err_from_is_err_and c.from_residual-in_err-pdu.result c.from_residual-in_err-pdu.ensures.1 in
    rw (r.1, r.2) (body_fault c.args.octets.now c.in-Some.header.now c.in_ok-size.field-0 c.in_err-pdu.field-0.0 chunk.enough chunk.same c.in_ok-size.ensures.head c.if-octets-size.false
    (subst (λ (t : List ℕ). IsFault t c.in_err-pdu.field-0.0) c.split_at.ensures.front c.in_err-pdu.ensures.fault))
