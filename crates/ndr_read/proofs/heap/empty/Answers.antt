use Rattle.std.proofs.Common.{ℕ, ◌+◌, ◌∷◌, [], List, length, Option, None, ap, ◌∙◌}
use Rattle.std.proofs.lemmas.List.{length-append}
use Rattle.ndr_value.specs.declared.value.Value.{Value}
use Rattle.ndr_read.specs.Slots.{slot}
use Rattle.ndr_read.proofs.Heaps.{slot_more}
use Rattle.ndr_read.proofs.heap.empty.Goals as goal

pub loop-preserved : goal.loop-preserved
loop-preserved c =
    let e = c.in_ok-push.ensures.items in (
      ap length e ∙ length-append c.loop.slots.items (None ∷ []) ∙ ap (λ (n : ℕ). n + 1) c.loop.invariant.0,
      λ m. ap (λ (xs : List (Option Value)). slot xs m) e ∙ slot_more c.loop.slots.items c.loop.invariant.1 m,
    )
