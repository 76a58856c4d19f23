use Rattle.std.proofs.Common.{drop, arith}
use Rattle.std.proofs.lemmas.Result.{err_from_is_err_and}
use Rattle.pdu_codec.specs.Reading.{body_at}
use Rattle.pdu_codec.proofs.PduLaws.{pdu_long, pdu_no_head_fault, opened, opened_found, opened_same, opened_read, opened_early, fails_memory, fails_fault}
use Rattle.pdu_codec.proofs.reading.read_pdu.Goals as goal

pub returns-then-octets-lt-HEADER_SIZE-clause-only : goal.returns-then-octets-lt-HEADER_SIZE-clause-only
returns-then-octets-lt-HEADER_SIZE-clause-only c = λ p is. absurd (omega (arith, pdu_long p c.args.octets.now is, c.if-octets-lt-HEADER_SIZE.true))

pub returns-in_err-head-clause-only : goal.returns-in_err-head-clause-only
returns-in_err-head-clause-only c = λ p is.
    absurd (pdu_no_head_fault p c.args.octets.now is c.in_err-head.field-0.0 c.in_err-head.ensures.fault)

pub returns-in_err-body-clause-only : goal.returns-in_err-body-clause-only
returns-in_err-body-clause-only c = λ p is.
    let h = c.in_ok-head.head in
    let octets = c.args.octets.now in
    let o = opened octets h (λ i. omega (arith, c.type_inv.octets i)) c.if-octets-lt-HEADER_SIZE.false c.in_ok-head.ensures.head c.in_ok-head.ensures.fields in
    let r = err_from_is_err_and c.from_residual-in_err-body.result c.from_residual-in_err-body.ensures.1 in
    rw (r.1, r.2) (fails_memory c.in_err-body.field-0.0 (body_at h.order h.flags h.kind (drop 16 octets)) c.in_err-body.ensures (opened_read p octets h is o))

pub returns-in_err-body-clause-fault : goal.returns-in_err-body-clause-fault
returns-in_err-body-clause-fault c =
    let h = c.in_ok-head.head in
    let octets = c.args.octets.now in
    let o = opened octets h (λ i. omega (arith, c.type_inv.octets i)) c.if-octets-lt-HEADER_SIZE.false c.in_ok-head.ensures.head c.in_ok-head.ensures.fields in
    let r = err_from_is_err_and c.from_residual-in_err-body.result c.from_residual-in_err-body.ensures.1 in
    rw (r.1, r.2) (fails_fault octets c.in_err-body.field-0.0 (body_at h.order h.flags h.kind (drop 16 octets)) c.in_err-body.ensures (opened_early octets h o))

pub returns-clause-found : goal.returns-clause-found
returns-clause-found c =
    let h = c.in_ok-head.head in
    let octets = c.args.octets.now in
    let o = opened octets h (λ i. omega (arith, c.type_inv.octets i)) c.if-octets-lt-HEADER_SIZE.false c.in_ok-head.ensures.head c.in_ok-head.ensures.fields in
    opened_found octets h c.in_ok-body.body o c.in_ok-body.ensures

pub returns-clause-only : goal.returns-clause-only
returns-clause-only c = λ p is.
    let h = c.in_ok-head.head in
    let octets = c.args.octets.now in
    let o = opened octets h (λ i. omega (arith, c.type_inv.octets i)) c.if-octets-lt-HEADER_SIZE.false c.in_ok-head.ensures.head c.in_ok-head.ensures.fields in
    opened_same p octets h c.in_ok-body.body is o c.in_ok-body.ensures
