use Rattle.std.proofs.Common.{◌≡◌, ◌+◌, ◌∙◌, length, sym, subst, Bool, Ok}
use Rattle.std.proofs.lemmas.Result.{err_from_is_err_and}
use Rattle.value_text.specs.Marks.{closed}
use Rattle.value_text.specs.Quoted.{next_at}
use Rattle.value_text.specs.Gives.{Fails}
use Rattle.value_text.proofs.Rows.{chars_end, chars_end_fails, chars_fail, chars_more, chars_over}
use Rattle.value_text.proofs.quoted.chars.Goals as goal

pub returns-in_err-rest : goal.returns-in_err-rest
returns-in_err-rest c =
    let p = err_from_is_err_and c.from_residual.result c.from_residual.ensures.1 in
    let e = c.in_err-rest.field-0.0 in
    let t = c.loop-count.rest.now in
    let f = subst (λ (b : Bool). Fails e (closed b t)) c.length_fits.ensures c.in_err-rest.ensures in
    rw (p.1, p.2) (chars_end_fails c.args.most c.loop-count.octets.items (length c.args.text.now + 1) c.loop-count.count t _ c.loop-count-test.true c.loop-count.invariant e (sym c.heads.ensures ∙ c.if-heads.true) f)

pub returns-then-heads : goal.returns-then-heads
returns-then-heads c =
    let t = c.loop-count.rest.now in
    let u = c.in_ok-rest.rest.now in
    let f = subst (λ (b : Bool). closed b t ≡ Ok u) c.length_fits.ensures c.in_ok-rest.ensures in
    rw c.from_vec.ensures (chars_end c.args.most c.loop-count.octets.items (length c.args.text.now + 1) c.loop-count.count t _ c.loop-count-test.true c.loop-count.invariant u (sym c.heads.ensures ∙ c.if-heads.true) f)

pub returns-in_err-octet : goal.returns-in_err-octet
returns-in_err-octet c =
    let p = err_from_is_err_and c.from_residual-in_err-octet.result c.from_residual-in_err-octet.ensures.1 in
    let e = c.in_err-octet.field-0.0 in
    let t = c.loop-count.rest.now in
    let f = subst (λ (b : Bool). Fails e (next_at b t)) c.length_fits-in-loop-count.ensures c.in_err-octet.ensures in
    rw (p.1, p.2) (chars_fail c.args.most c.loop-count.octets.items (length c.args.text.now + 1) c.loop-count.count t _ c.loop-count-test.true c.loop-count.invariant e (sym c.heads.ensures ∙ c.if-heads.false) f)

pub loop-count-preserved : goal.loop-count-preserved
loop-count-preserved c =
    let t = c.loop-count.rest.now in
    let u = c.in_ok-octet.after.now in
    let x = c.in_ok-octet.octet in
    let f = subst (λ (b : Bool). next_at b t ≡ Ok (x, u)) c.length_fits-in-loop-count.ensures c.in_ok-octet.ensures in
    rw c.in_ok-push.ensures.items (chars_more c.args.most c.loop-count.octets.items (length c.args.text.now + 1) c.loop-count.count t _ c.loop-count-test.true c.loop-count.invariant x u (sym c.heads.ensures ∙ c.if-heads.false) f)

pub returns : goal.returns
returns c = chars_over c.args.most c.loop-count.octets.items (length c.args.text.now + 1) c.loop-count.count c.loop-count.rest.now _ c.loop-count-test.false c.loop-count.invariant
