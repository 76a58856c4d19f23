use Rattle.std.proofs.Common.{◌≡◌, ℕ, ℤ, sym, subst, ◌∙◌, ◌-◌, ◌+◌, ap, None, Some, Err, arith, length, to_z, of_z, w64, rules}
use mir.Val.{SFits}
use Rattle.std.proofs.lemmas.Int.{to_z-of_z}
use Rattle.ndr_value.specs.declared.shape.Shape.{Shape}
use Rattle.ndr_value.specs.Fits.{arm_of}
use Rattle.ndr_model.specs.Part.{tag_size}
use Rattle.ndr_model.specs.declared.departure.Departure.TheVariants.{Tag}
use Rattle.std.proofs.lemmas.Result.{err_from_is_err_and}
use Rattle.ndr_value.specs.Forms.{form, forms, arms_of, body, OfUnion}
use Rattle.ndr_model.specs.Scan.{Scanned, scan}
use Rattle.ndr_pointers.proofs.Alikes.{struct_is, union_is}
use Rattle.ndr_pointers.specs.Gives.{Gives}
use Rattle.ndr_pointers.specs.Views.{types_in, place}
use Rattle.ndr_pointers.proofs.Walks.{scan_step, struct_scan, union_scan, union_fails, arm_again, once_more, each_more, each_fails, moved_is}
use Rattle.ndr_pointers.proofs.scan.+scan.Goals as goal

pub scan_flat-returns : goal.scan_flat-returns
scan_flat-returns t c =
    subst (λ (f : Scanned). Gives (λ (j : ℕ). place j c.scan_one.new.seen) c.scan_one.result f)
    (sym (scan_step (types_in c.args.reader.now) c.args.reader.now.order c.args.reader.now.octets.now c.args.fuel c.args.room c.args.moved (form c.args.shape.now) (place c.args.at c.args.seen.now) c.if-fuel-eq0.false))
    c.scan_one.ensures

pub scan_one-returns-in_ok-own-in-Struct : goal.scan_one-returns-in_ok-own-in-Struct
scan_one-returns-in_ok-own-in-Struct t c =
    let s = struct_is c.args.shape.now _ c.deref.result.now c.in-Struct.is c.deref.ensures.value in
    let b = c.in_ok-own-in-Struct.ensures (forms c.deref.result.now) s in
    subst (λ (f : Scanned). Gives (λ (j : ℕ). place j c.scan_each.new.seen) c.scan_each.result f)
    (sym (struct_scan (types_in c.args.reader.now) c.args.reader.now.order c.args.reader.now.octets.now c.args.room c.args.moved _ (scan (types_in c.args.reader.now) c.args.reader.now.order c.args.reader.now.octets.now c.args.fuel c.args.room) (form c.args.shape.now) (forms c.deref.result.now) (place c.args.at c.args.seen.now) _ s b))
    c.scan_each.ensures

pub scan_times-loop-preserved : goal.scan_times-loop-preserved
scan_times-loop-preserved t c =
    once_more (scan (types_in c.args.reader.now) c.args.reader.now.order c.args.reader.now.octets.now c.args.fuel c.args.room None (form c.args.shape.now)) c.args.count c.loop.counter (place c.loop.index c.loop.seen) (place c.in_ok-index.index c.scan_flat.new.seen) _ c.loop-test.true c.in_ok-index.ensures c.loop.invariant

pub scan_each-loop-shape-preserved : goal.scan_each-loop-shape-preserved
scan_each-loop-shape-preserved t c =
    let i = c.loop-shape.invariant in
    let k : c.loop-shape.left - 1 + (c.loop-shape.shape-index + 1) ≡ length c.args.shapes.now = omega (arith, i.0, c.loop-shape-test.true) in (
      k,
      each_more (scan (types_in c.args.reader.now) c.args.reader.now.order c.args.reader.now.octets.now c.args.fuel c.args.room) c.args.own c.if_last-moved.result c.args.shapes.now c.loop-shape.shape-index c.shape-item.result (place c.loop-shape.index c.loop-shape.seen) (place c.in_ok-index.index c.scan_flat.new.seen) _ c.loop-shape-test.true c.shape-item.is
          (c.if_last-moved.ensures ∙ moved_is c.args.own c.args.shapes.now (c.loop-shape.left - 1) c.loop-shape.shape-index k) c.in_ok-index.ensures i.1,
    )

pub scan_each-returns-in_err-index : goal.scan_each-returns-in_err-index
scan_each-returns-in_err-index t c =
    let i = c.loop-shape.invariant in
    let p = err_from_is_err_and c.from_residual.result c.from_residual.ensures.1 in
    let k : c.loop-shape.left - 1 + (c.loop-shape.shape-index + 1) ≡ length c.args.shapes.now = omega (arith, i.0, c.loop-shape-test.true) in
    rw (p.1, p.2) (each_fails c.in_err-index.field-0.0 (scan (types_in c.args.reader.now) c.args.reader.now.order c.args.reader.now.octets.now c.args.fuel c.args.room) c.args.own c.if_last-moved.result c.args.shapes.now c.loop-shape.shape-index c.shape-item.result (place c.loop-shape.index c.loop-shape.seen) _ c.loop-shape-test.true c.shape-item.is
    (c.if_last-moved.ensures ∙ moved_is c.args.own c.args.shapes.now (c.loop-shape.left - 1) c.loop-shape.shape-index k) c.in_err-index.ensures i.1)

pub scan_one-returns-in-None-arm_for : goal.scan_one-returns-in-None-arm_for
scan_one-returns-in-None-arm_for t c =
    let n = c.in_ok-number-in-Union.number in
    let fits : SFits w64 n = search rules in
    let k : to_z w64 (of_z w64 n) ≡ n = to_z-of_z w64 n fits in
    let kind = c.deref-in-Union.result.now in
    let arms = c.deref-in-Union-2.result.now in
    let s : form c.args.shape.now ≡ OfUnion (form kind) (arms_of arms) = union_is c.args.shape.now _ _ kind arms c.in-Union.is c.deref-in-Union.ensures c.deref-in-Union-2.ensures.value in
    let none : arm_of (OfUnion (form kind) (arms_of arms)) n ≡ None =
    arm_again c.deref-in-Union-3.result.now kind c.deref-in-Union-4.result.now arms (to_z w64 (of_z w64 n)) n None (c.deref-in-Union-3.ensures ∙ sym c.deref-in-Union.ensures)
    (c.deref-in-Union-4.ensures.value ∙ sym c.deref-in-Union-2.ensures.value) k c.in-None-arm_for.ensures in
    let size : tag_size (form kind) ≡ c.tag_octets.result = ap (λ (x : Shape). tag_size (form x)) (c.deref-in-Union.ensures ∙ sym c.deref-in-None-arm_for.ensures) ∙ sym c.tag_octets.ensures.exact in
    union_scan (types_in c.args.reader.now) c.args.reader.now.order c.args.reader.now.octets.now c.args.room c.args.moved (scan (types_in c.args.reader.now) c.args.reader.now.order c.args.reader.now.octets.now c.args.fuel c.args.room)
    (form c.args.shape.now) (form kind) (arms_of arms) (place c.args.at c.args.seen.now) n c.in_ok-number-in-Union.after None s c.in_ok-number-in-Union.ensures.exact c.in_ok-number-in-Union.ensures.place none
    ∙ ap (λ (w : ℕ). Err (Tag (c.in_ok-number-in-Union.after - w))) size

pub scan_one-returns-in-Some-arm_for : goal.scan_one-returns-in-Some-arm_for
scan_one-returns-in-Some-arm_for t c =
    let n = c.in_ok-number-in-Union.number in
    let fits : SFits w64 n = search rules in
    let k : to_z w64 (of_z w64 n) ≡ n = to_z-of_z w64 n fits in
    let kind = c.deref-in-Union.result.now in
    let arms = c.deref-in-Union-2.result.now in
    let s : form c.args.shape.now ≡ OfUnion (form kind) (arms_of arms) = union_is c.args.shape.now _ _ kind arms c.in-Union.is c.deref-in-Union.ensures c.deref-in-Union-2.ensures.value in
    let b = body c.in-Some-arm_for.arm.now.shape in
    let some : arm_of (OfUnion (form kind) (arms_of arms)) n ≡ Some b =
    arm_again c.deref-in-Union-3.result.now kind c.deref-in-Union-4.result.now arms (to_z w64 (of_z w64 n)) n (Some b) (c.deref-in-Union-3.ensures ∙ sym c.deref-in-Union.ensures)
    (c.deref-in-Union-4.ensures.value ∙ sym c.deref-in-Union-2.ensures.value) k c.in-Some-arm_for.ensures in
    let i = c.in_ok-number-in-Union.after - tag_size (form kind) in
    subst (λ (f : Scanned). Gives (λ (j : ℕ). place j c.scan_arm.new.seen) c.scan_arm.result f)
    (sym (union_scan (types_in c.args.reader.now) c.args.reader.now.order c.args.reader.now.octets.now c.args.room c.args.moved (scan (types_in c.args.reader.now) c.args.reader.now.order c.args.reader.now.octets.now c.args.fuel c.args.room)
    (form c.args.shape.now) (form kind) (arms_of arms) (place c.args.at c.args.seen.now) n c.in_ok-number-in-Union.after (Some b) s c.in_ok-number-in-Union.ensures.exact c.in_ok-number-in-Union.ensures.place some))
    (c.scan_arm.ensures i)

pub scan_one-returns-in_err-number-in-Union : goal.scan_one-returns-in_err-number-in-Union
scan_one-returns-in_err-number-in-Union t c =
    let kind = c.deref-in-Union.result.now in
    let arms = c.deref-in-Union-2.result.now in
    let s : form c.args.shape.now ≡ OfUnion (form kind) (arms_of arms) = union_is c.args.shape.now _ _ kind arms c.in-Union.is c.deref-in-Union.ensures c.deref-in-Union-2.ensures.value in
    let p = err_from_is_err_and c.from_residual-in_err-number-in-Union.result c.from_residual-in_err-number-in-Union.ensures.1 in
    rw (p.1, p.2) (union_fails (types_in c.args.reader.now) c.args.reader.now.order c.args.reader.now.octets.now c.in_err-number-in-Union.field-0.0 c.args.room c.args.moved
    (scan (types_in c.args.reader.now) c.args.reader.now.order c.args.reader.now.octets.now c.args.fuel c.args.room) (form c.args.shape.now) (form kind) (arms_of arms) (place c.args.at c.args.seen.now) s c.in_err-number-in-Union.ensures.exact)
