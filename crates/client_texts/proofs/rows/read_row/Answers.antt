use Rattle.std.proofs.Common.{ℕ, List, map, subst}
use Rattle.ndr_value.specs.declared.value.Value.{Value}
use Rattle.ndr_value.specs.Forms.{types_of}
use Rattle.ndr_value.specs.Values.{Vals, vals}
use Rattle.ndr_table.specs.Tables.{param_form}
use Rattle.client_texts.specs.Texts.{IsRow, inwards}
use Rattle.client_texts.specs.Heaps.{each_aims, IsHeap}
use Rattle.client_texts.proofs.Messages.{no_heap_there}
use Rattle.client_texts.proofs.rows.read_row.Goals as goal

pub returns-in_default-3 : goal.returns-in_default-3
returns-in_default-3 c =
    let types = types_of c.args.types.now.items in
    let shapes = inwards (map param_form c.args.params.now) in
    let places = rw c.in-Some.is at c.in_ok-plain.ensures in
    let row = rw c.in-Some-2.is at c.in_ok-values.ensures in
    let none = rw c.in_default-3.is at c.in_ok-heap.ensures in
    no_heap_there types shapes c.args.known.now c.args.text.now c.in-Some.wires c.in-Some.plain.items places.1 (vals c.in-Some-2.values.items) c.in-Some-2.rest.now
    (subst (λ (x : List ℕ). IsRow types shapes (vals c.in-Some-2.values.items) x c.in-Some-2.rest.now) c.deref.ensures.value row)
    (subst (λ (l : List Value). (hs : Vals) → IsHeap types (each_aims types shapes (vals l)) hs c.in-Some-2.rest.now → ⊥) c.deref-2.ensures.value none)
