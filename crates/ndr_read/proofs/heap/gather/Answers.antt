use Rattle.std.proofs.Common.{◌≡◌, ◌+◌, ◌-◌, ◌<◌, ◌∙◌, sym, ap, length, Some, None, arith}
use Rattle.std.proofs.lemmas.List.{length-set}
use Rattle.ndr_value.specs.Values.{Vals, val, vals, then_val, no_val}
use Rattle.ndr_model.specs.Stub.{item}
use Rattle.ndr_model.specs.Message.{heap_from}
use Rattle.ndr_read.specs.Slots.{held, slot}
use Rattle.ndr_read.proofs.Heaps.{behind, slot_is, slot_past, heap_more, heap_missing, heap_done}
use Rattle.ndr_read.specs.Readings.{join}
use Rattle.ndr_read.proofs.Rows.{vals_push}
use Rattle.ndr_read.proofs.heap.gather.Goals as goal

pub returns-in-None : goal.returns-in-None
returns-in-None c = λ items h.
    let i = c.loop-at.invariant in
    let at = c.loop-at.at in
    let lt : at < length c.args.slots.items = omega (arith, c.loop-at-test.true, c.len-at-end.ensures, c.args.slots.ok.0) in
    let here : slot c.loop-at.left.items at ≡ None = slot_is c.loop-at.left.items at c.index_mut.result.now (omega (arith, lt, i.0)) c.index_mut.ensures.value ∙ ap held (sym c.in-None.ensures.value) in
    let none : item items at ≡ None = sym (h at lt) ∙ sym (i.1 at (omega arith)) ∙ here in
    sym (heap_missing (vals c.loop-at.heap.items) items at (length c.args.slots.items) _ lt none (i.2 items h))

pub loop-at-preserved : goal.loop-at-preserved
loop-at-preserved c =
    let i = c.loop-at.invariant in
    let at = c.loop-at.at in
    let lt : at < length c.args.slots.items = omega (arith, c.loop-at-test.true, c.len-at-end.ensures, c.args.slots.ok.0) in
    let here : slot c.loop-at.left.items at ≡ Some (val c.in-Some.value) = slot_is c.loop-at.left.items at c.index_mut.result.now (omega (arith, lt, i.0)) c.index_mut.ensures.value ∙ ap held (sym c.in-Some.ensures.value) in
    let e : vals c.push.new.self.items ≡ join (vals c.loop-at.heap.items) (then_val (val c.in-Some.value) no_val) = ap vals c.in_ok-push-in-Some.ensures.items ∙ vals_push c.loop-at.heap.items c.in-Some.value in (
      length-set c.loop-at.left.items at c.take.new.self ∙ i.0,
      λ m le. slot_past c.loop-at.left.items at m c.take.new.self (omega (arith, le)) ∙ i.1 m (omega (arith, le)),
      λ items h.
          let some : item items at ≡ Some (val c.in-Some.value) = sym (h at lt) ∙ sym (i.1 at (omega arith)) ∙ here in
          ap (λ (vs : Vals). behind vs (heap_from items (at + 1) (length c.args.slots.items - (at + 1)))) e
          ∙ heap_more (vals c.loop-at.heap.items) items at (length c.args.slots.items) (val c.in-Some.value) _ lt some (i.2 items h),
    )

pub returns : goal.returns
returns c = λ items h.
    let i = c.loop-at.invariant in
    sym (heap_done (vals c.loop-at.heap.items) items c.loop-at.at (length c.args.slots.items) _ (omega (arith, c.loop-at-test.false, c.len-at-end.ensures, c.args.slots.ok.0)) (i.2 items h))
