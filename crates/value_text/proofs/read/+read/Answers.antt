use Rattle.std.proofs.Common.{◌≡◌, ◌+◌, ◌-◌, ◌∙◌, ℕ, List, length, drop, sym, ap, subst, Bool, Ok}
use Rattle.std.proofs.lemmas.Result.{err_from_is_err_and}
use Rattle.ndr_value.specs.Forms.{Form, form, forms, types_of}
use Rattle.ndr_value.specs.Values.{val, vals, no_val, then_val}
use Rattle.value_text.specs.Marks.{closed}
use Rattle.value_text.specs.Reading.{Found, read, read_at, item_at, items_on, members_on}
use Rattle.value_text.specs.Gives.{Fails, Gives}
use Rattle.value_text.specs.Rows.{join}
use Rattle.value_text.proofs.Rows.{vals_push, row_fails, row_more, row_end, end_fails, items_close, items_more, items_over, one_member, members_over}
use Rattle.value_text.proofs.Parts.{struct_is, union_is, read_step}
use Rattle.value_text.proofs.read.+read.Goals as goal

pub items_on-returns-in_err-rest : goal.items_on-returns-in_err-rest
items_on-returns-in_err-rest t c =
    let p = err_from_is_err_and c.from_residual.result c.from_residual.ensures.1 in
    let e = c.in_err-rest.field-0.0 in
    let go = read (types_of c.args.reader.now.types.now) c.args.room c.args.level (form c.args.inner.now) in
    let rest = c.loop-count.rest.now in
    let front = vals c.loop-count.values.items in
    let f = subst (λ (b : Bool). Fails e (closed b rest)) c.count_fits.ensures c.in_err-rest.ensures in
    rw (p.1, p.2) (end_fails e front _ _ f (items_close go c.args.kind.now front (length c.args.text.now + 2) c.loop-count.count rest _ c.loop-count-test.true c.loop-count.invariant (sym c.heads.ensures ∙ c.if-heads.true)))

pub items_on-returns-then-heads : goal.items_on-returns-then-heads
items_on-returns-then-heads t c =
    let go = read (types_of c.args.reader.now.types.now) c.args.room c.args.level (form c.args.inner.now) in
    let rest = c.loop-count.rest.now in
    let u = c.in_ok-rest.rest.now in
    let front = vals c.loop-count.values.items in
    let f = subst (λ (b : Bool). closed b rest ≡ Ok u) c.count_fits.ensures c.in_ok-rest.ensures in
    row_end front _ u _ f (items_close go c.args.kind.now front (length c.args.text.now + 2) c.loop-count.count rest _ c.loop-count-test.true c.loop-count.invariant (sym c.heads.ensures ∙ c.if-heads.true))

pub items_on-returns-in_err-next : goal.items_on-returns-in_err-next
items_on-returns-in_err-next t c =
    let p = err_from_is_err_and c.from_residual-in_err-next.result c.from_residual-in_err-next.ensures.1 in
    let e = c.in_err-next.field-0.0 in
    let go = read (types_of c.args.reader.now.types.now) c.args.room c.args.level (form c.args.inner.now) in
    let rest = c.loop-count.rest.now in
    let front = vals c.loop-count.values.items in
    let f = subst (λ (b : Bool). Fails e (item_at go b rest)) c.takes.ensures c.in_err-next.ensures in
    rw (p.1, p.2) (row_fails e front _ _ _ f (items_more go c.args.kind.now front (length c.args.text.now + 2) c.loop-count.count rest _ c.loop-count-test.true c.loop-count.invariant (sym c.heads.ensures ∙ c.if-heads.false)))

pub items_on-loop-count-preserved : goal.items_on-loop-count-preserved
items_on-loop-count-preserved t c =
    let go = read (types_of c.args.reader.now.types.now) c.args.room c.args.level (form c.args.inner.now) in
    let rest = c.loop-count.rest.now in
    let u = c.in_ok-next.after.now in
    let x = c.in_ok-next.next in
    let n = length c.args.text.now + 2 in
    let m = c.loop-count.count in
    let front = vals c.loop-count.values.items in
    let f = subst (λ (b : Bool). item_at go b rest ≡ Ok (val x, u)) c.takes.ensures c.in_ok-next.ensures in
    let e : vals c.add.new.values.items ≡ join front (then_val (val x) no_val) = ap vals c.in_ok-add.ensures ∙ vals_push c.loop-count.values.items x in
    rw e (row_more front _ (val x) u (λ (w : List ℕ). items_on (n - (m + 1)) go c.args.kind.now (m + 1) w) _ f (items_more go c.args.kind.now front n m rest _ c.loop-count-test.true c.loop-count.invariant (sym c.heads.ensures ∙ c.if-heads.false)))

pub items_on-returns : goal.items_on-returns
items_on-returns t c =
    let go = read (types_of c.args.reader.now.types.now) c.args.room c.args.level (form c.args.inner.now) in
    items_over go c.args.kind.now (vals c.loop-count.values.items) (length c.args.text.now + 2) c.loop-count.count c.loop-count.rest.now _ c.loop-count-test.false c.loop-count.invariant

pub members_on-returns-in_err-next : goal.members_on-returns-in_err-next
members_on-returns-in_err-next t c =
    let p = err_from_is_err_and c.from_residual.result c.from_residual.ensures.1 in
    let e = c.in_err-next.field-0.0 in
    let go = read (types_of c.args.reader.now.types.now) c.args.room c.args.level in
    let front = vals c.loop-shape.values.items in
    rw (p.1, p.2) (row_fails e front _ _ _ c.in_err-next.ensures (one_member go front c.args.shapes.now c.loop-shape.shape-index c.shape-item.result c.loop-shape.rest.now _ c.loop-shape-test.true c.shape-item.is c.loop-shape.invariant))

pub members_on-loop-shape-preserved : goal.members_on-loop-shape-preserved
members_on-loop-shape-preserved t c =
    let go = read (types_of c.args.reader.now.types.now) c.args.room c.args.level in
    let x = c.in_ok-next.next in
    let front = vals c.loop-shape.values.items in
    let i = c.loop-shape.shape-index in
    let e : vals c.add.new.values.items ≡ join front (then_val (val x) no_val) = ap vals c.in_ok-add.ensures ∙ vals_push c.loop-shape.values.items x in
    rw e (row_more front _ (val x) c.in_ok-next.after.now (λ (w : List ℕ). members_on go (forms (drop (i + 1) c.args.shapes.now)) w) _ c.in_ok-next.ensures (one_member go front c.args.shapes.now i c.shape-item.result c.loop-shape.rest.now _ c.loop-shape-test.true c.shape-item.is c.loop-shape.invariant))

pub members_on-returns-in_err-rest : goal.members_on-returns-in_err-rest
members_on-returns-in_err-rest t c =
    let p = err_from_is_err_and c.from_residual-in_err-rest.result c.from_residual-in_err-rest.ensures.1 in
    let e = c.in_err-rest.field-0.0 in
    let go = read (types_of c.args.reader.now.types.now) c.args.room c.args.level in
    let front = vals c.loop-shape.values.items in
    rw (p.1, p.2) (end_fails e front _ _ c.in_err-rest.ensures (members_over go front c.args.shapes.now c.loop-shape.shape-index c.loop-shape.rest.now _ c.loop-shape-test.false c.loop-shape.invariant))

pub members_on-returns : goal.members_on-returns
members_on-returns t c =
    let go = read (types_of c.args.reader.now.types.now) c.args.room c.args.level in
    let front = vals c.loop-shape.values.items in
    row_end front _ c.in_ok-rest.rest.now _ c.in_ok-rest.ensures (members_over go front c.args.shapes.now c.loop-shape.shape-index c.loop-shape.rest.now _ c.loop-shape-test.false c.loop-shape.invariant)

pub step-returns-in-Struct : goal.step-returns-in-Struct
step-returns-in-Struct t c =
    let types = types_of c.args.reader.now.types.now in
    subst (λ (y : Form). Gives (λ x. (val x.0, x.1.now)) c.structure.result (read_at types (read types c.args.room) c.args.level y c.args.text.now))
    (struct_is c.args.shape.now _ c.deref.result.now c.in-Struct.is c.deref.ensures.value) c.structure.ensures

pub step-returns-in-Union : goal.step-returns-in-Union
step-returns-in-Union t c =
    let types = types_of c.args.reader.now.types.now in
    subst (λ (y : Form). Gives (λ x. (val x.0, x.1.now)) c.union_value.result (read_at types (read types c.args.room) c.args.level y c.args.text.now))
    (union_is c.args.shape.now _ _ c.deref-in-Union.result.now c.deref-in-Union-2.result.now c.in-Union.is c.deref-in-Union.ensures c.deref-in-Union-2.ensures.value) c.union_value.ensures

pub value-returns : goal.value-returns
value-returns t c =
    let types = types_of c.args.reader.now.types.now in
    subst (λ (f : Found). Gives (λ x. (val x.0, x.1.now)) c.step.result f) (read_step types c.args.room c.args.level (form c.args.shape.now) c.args.text.now c.if-room-eq0.false) c.step.ensures
