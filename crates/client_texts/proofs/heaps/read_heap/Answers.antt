use Rattle.std.proofs.Common.{◌≡◌, List, map, refl, sym, subst}
use Rattle.ndr_value.specs.declared.value.Value.{Value}
use Rattle.ndr_value.specs.Forms.{types_of}
use Rattle.ndr_value.specs.Values.{vals}
use Rattle.ndr_table.specs.Tables.{param_form}
use Rattle.client_texts.specs.Texts.{inwards}
use Rattle.client_texts.specs.Heaps.{each_aims, IsHeap}
use Rattle.client_texts.specs.Pointers.{aim_of}
use Rattle.client_texts.proofs.Renamed.{none_long, some_long}
use Rattle.client_texts.proofs.Listed.{no_heap, never_heap}
use Rattle.client_texts.proofs.Messages.{heap_found}
use Rattle.client_texts.proofs.heaps.read_heap.Goals as goal

pub returns-then-is_empty : goal.returns-then-is_empty
returns-then-is_empty c =
    let before = each_aims (types_of c.args.types.now.items) (inwards (map param_form c.args.params.now)) (vals c.args.values.now) in
    subst (λ (vs : List Value). IsHeap (types_of c.args.types.now.items) before (vals vs) c.args.text.now) (sym c.new.ensures.items)
    (no_heap (types_of c.args.types.now.items) before c.args.text.now (none_long c.args.text.now c.is_empty.result c.is_empty.ensures c.if-is_empty.true))

pub returns-in_default : goal.returns-in_default
returns-in_default c =
    never_heap (types_of c.args.types.now.items) (each_aims (types_of c.args.types.now.items) (inwards (map param_form c.args.params.now)) (vals c.args.values.now)) c.args.text.now
    (some_long c.args.text.now c.is_empty.result c.is_empty.ensures c.if-is_empty.false) c.in_default.ensures

pub returns : goal.returns
returns c =
    let before = each_aims (types_of c.args.types.now.items) (inwards (map param_form c.args.params.now)) (vals c.args.values.now) in
    let same : map aim_of c.deref-2.result.now ≡ before = rw (c.deref-2.ensures.value, c.in_ok-add_row_aims.ensures, c.new-before.ensures.items, c.deref.ensures.value) refl in
    heap_found c.read_items.result (λ vs. vals vs.items) (types_of c.args.types.now.items) (map aim_of c.deref-2.result.now) before c.args.text.now c.in-Some.list.now c.in-Some.ensures same c.read_items.ensures
