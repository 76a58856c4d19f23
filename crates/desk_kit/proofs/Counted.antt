-- Pointers, one by one.
use Rattle.std.proofs.Common.{◌≡◌, ℕ, zero, suc, ◌+◌, ◌-◌, ◌<◌, Some, refl, ap, ◌∙◌, arith}
use Rattle.ndr_value.specs.Values.{VFull, Vals, then_val, count_of}
use Rattle.desk_kit.specs.MessageParts.{pointers}

-- the first of those that are left
pub pointers_left : (first count at : ℕ) → at < count → pointers (first + at) (count - at) ≡ then_val (VFull (Some (first + at))) (pointers (first + (at + 1)) (count - (at + 1)))
pointers_left first count at lt =
    let left : count - at ≡ suc (count - (at + 1)) = omega arith in
    let next : suc (first + at) ≡ first + (at + 1) = omega arith in
    ap (pointers (first + at)) left ∙ ap (λ (n : ℕ). then_val (VFull (Some (first + at))) (pointers n (count - (at + 1)))) next

pub count-pointers : (n count : ℕ) → count_of (pointers n count) ≡ count
count-pointers n zero = refl
count-pointers n (suc count) = ap suc (count-pointers (suc n) count)
