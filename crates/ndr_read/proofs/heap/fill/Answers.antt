use Rattle.std.proofs.Common.{◌≡◌, ℕ, ◌∙◌, ◌∷◌, List, sym, ap, length, Option, arith}
use Rattle.ndr_value.specs.Values.{Val, val}
use Rattle.ndr_model.specs.Stub.{item}
use Rattle.ndr_read.specs.Slots.{slot, or_then}
use Rattle.ndr_read.specs.Views.{items_of}
use Rattle.ndr_read.proofs.Heaps.{put_more, put_all, none_left}
use Rattle.ndr_read.proofs.Rows.{items_push}
use Rattle.ndr_read.proofs.heap.fill.Goals as goal

pub loop-preserved : goal.loop-preserved
loop-preserved c =
    let i = c.loop.invariant in
    let k = c.in-Some.kept in
    let items : items_of c.loop.left.items ≡ (k.number, val k.value) ∷ items_of c.pop.new.self.items = ap items_of c.in-Some.ensures.items ∙ items_push c.pop.new.self.items k in (
      omega (arith, i.0, c.in-Some.ensures.cases),
      c.put.ensures.len ∙ i.1,
      λ m lt. put_more (slot c.loop.slots.items m) (slot c.put.new.slots.items m) k.number m (val k.value) (items_of c.pop.new.self.items) _ (c.put.ensures.each m (omega (arith, lt, i.1)))
          (ap (λ (xs : List (ℕ × Val)). or_then (slot c.loop.slots.items m) (item xs m)) (sym items) ∙ i.2 m lt),
    )

pub returns-clause-each : goal.returns-clause-each
returns-clause-each c = λ m lt.
    let i = c.loop.invariant in
    let none : length c.loop.left.items ≡ 0 = omega (arith, c.loop-test.false, i.0, c.len-end.ensures, c.loop.left.ok.0) in
    put_all (slot c.loop.slots.items m) _ (ap (λ (o : Option Val). or_then (slot c.loop.slots.items m) o) (sym (none_left c.loop.left.items m none)) ∙ i.2 m lt)
