use Rattle.std.proofs.Common.{◌≡◌, ◌+◌, ◌-◌, ◌∙◌, ℕ, List, length, sym, ap, subst, Bool, Ok}
use Rattle.std.proofs.lemmas.Result.{err_from_is_err_and}
use Rattle.ndr_value.specs.Values.{VByte, no_val, then_val, bytes}
use Rattle.value_text.specs.Marks.{closed}
use Rattle.value_text.specs.Reading.{byte_at, item_at, items_on}
use Rattle.value_text.specs.Gives.{Fails}
use Rattle.value_text.specs.Rows.{join}
use Rattle.value_text.proofs.Rows.{bytes_push, row_fails, row_more, row_end, end_fails, items_close, items_more, items_over}
use Rattle.value_text.proofs.read.bytes_on.Goals as goal

pub returns-in_err-rest : goal.returns-in_err-rest
returns-in_err-rest c =
    let p = err_from_is_err_and c.from_residual.result c.from_residual.ensures.1 in
    let e = c.in_err-rest.field-0.0 in
    let t = c.loop-count.rest.now in
    let front = bytes c.loop-count.octets.items in
    let f = subst (λ (b : Bool). Fails e (closed b t)) c.count_fits.ensures c.in_err-rest.ensures in
    rw (p.1, p.2) (end_fails e front _ _ f (items_close byte_at c.args.kind.now front (length c.args.text.now + 2) c.loop-count.count t _ c.loop-count-test.true c.loop-count.invariant (sym c.heads.ensures ∙ c.if-heads.true)))

pub returns-then-heads : goal.returns-then-heads
returns-then-heads c =
    let t = c.loop-count.rest.now in
    let u = c.in_ok-rest.rest.now in
    let front = bytes c.loop-count.octets.items in
    let f = subst (λ (b : Bool). closed b t ≡ Ok u) c.count_fits.ensures c.in_ok-rest.ensures in
    rw c.from_vec.ensures (row_end front _ u _ f (items_close byte_at c.args.kind.now front (length c.args.text.now + 2) c.loop-count.count t _ c.loop-count-test.true c.loop-count.invariant (sym c.heads.ensures ∙ c.if-heads.true)))

pub returns-in_err-next : goal.returns-in_err-next
returns-in_err-next c =
    let p = err_from_is_err_and c.from_residual-in_err-next.result c.from_residual-in_err-next.ensures.1 in
    let e = c.in_err-next.field-0.0 in
    let t = c.loop-count.rest.now in
    let front = bytes c.loop-count.octets.items in
    let f = subst (λ (b : Bool). Fails e (item_at byte_at b t)) c.takes.ensures c.in_err-next.ensures in
    rw (p.1, p.2) (row_fails e front _ _ _ f (items_more byte_at c.args.kind.now front (length c.args.text.now + 2) c.loop-count.count t _ c.loop-count-test.true c.loop-count.invariant (sym c.heads.ensures ∙ c.if-heads.false)))

pub loop-count-preserved : goal.loop-count-preserved
loop-count-preserved c =
    let t = c.loop-count.rest.now in
    let u = c.in_ok-next.after.now in
    let x = c.in_ok-next.next in
    let n = length c.args.text.now + 2 in
    let m = c.loop-count.count in
    let front = bytes c.loop-count.octets.items in
    let f = subst (λ (b : Bool). item_at byte_at b t ≡ Ok (VByte x, u)) c.takes.ensures c.in_ok-next.ensures in
    let e : bytes c.push.new.self.items ≡ join front (then_val (VByte x) no_val) = ap bytes c.in_ok-push.ensures.items ∙ bytes_push c.loop-count.octets.items x in
    rw e (row_more front _ (VByte x) u (λ (w : List ℕ). items_on (n - (m + 1)) byte_at c.args.kind.now (m + 1) w) _ f (items_more byte_at c.args.kind.now front n m t _ c.loop-count-test.true c.loop-count.invariant (sym c.heads.ensures ∙ c.if-heads.false)))

pub returns : goal.returns
returns c = items_over byte_at c.args.kind.now (bytes c.loop-count.octets.items) (length c.args.text.now + 2) c.loop-count.count c.loop-count.rest.now _ c.loop-count-test.false c.loop-count.invariant
