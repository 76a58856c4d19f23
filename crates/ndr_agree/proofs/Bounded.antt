-- The test of ranges is exact.
use Rattle.std.proofs.Common.{◌≡◌, ℤ, Bool, true, false, List, [], ◌∷◌, Option, Some, None, refl, sym, ap, ◌∙◌, arith}
use Rattle.std.specs.Prelude.{int_le, ◌&&◌, ◌≤ℤ◌, ◌↔◌}
use Rattle.ndr_value.specs.Values.{Val, Vals, no_val, then_val}
use Rattle.ndr_table.specs.declared.operation.Bounds.{Bounds}
use Rattle.ndr_model.specs.Stub.{Entry}
use Rattle.ndr_model.specs.Named.{number}
use Rattle.ndr_model.specs.Agree.{IsWithin}
use Rattle.ndr_agree.specs.Ranges.{Holds, InRange, in_bounds, holds, all_in_range}

both_true : (a b : Bool) → (a && b) ≡ true → (a ≡ true) × (b ≡ true)
both_true true b e = (refl, e)
both_true false b e = absurd cc

and_so : (a b : Bool) → a ≡ true → b ≡ true → (a && b) ≡ true
and_so a b e f = ap (λ x. x && b) e ∙ f

le_is : (a b : ℤ) → int_le a b ≡ true → a ≤ℤ b
le_is a b e = grind (arith)

le_so : (a b : ℤ) → a ≤ℤ b → int_le a b ≡ true
le_so a b e = grind (arith)

bounds_hold : (b : Bounds) (v : Val) (o : Option ℤ) → number v ≡ o → in_bounds b o ≡ true → IsWithin b v
bounds_hold b v None is e = absurd cc
bounds_hold b v (Some z) is e = let g = both_true (int_le b.low z) (int_le z b.high) e in record { z = z; is = is; low = le_is b.low z g.0; high = le_is z b.high g.1 }

range_holds : (o : Option Bounds) (v : Val) → holds o v ≡ true → Holds o v
range_holds None v e = tt
range_holds (Some b) v e = bounds_hold b v (number v) refl e

range_so : (o : Option Bounds) (v : Val) → Holds o v → holds o v ≡ true
range_so None v h = refl
range_so (Some b) v h = ap (in_bounds b) h.is ∙ and_so (int_le b.low h.z) (int_le h.z b.high) (le_so b.low h.z h.low) (le_so h.z b.high h.high)

all_hold : (es : List Entry) (vs : Vals) → all_in_range es vs ≡ true → InRange es vs
all_hold [] vs e = tt
all_hold (x ∷ es) no_val e = absurd cc
all_hold (x ∷ es) (then_val v vs) e = let g = both_true (holds x.range v) (all_in_range es vs) e in (range_holds x.range v g.0, all_hold es vs g.1)

all_so : (es : List Entry) (vs : Vals) → InRange es vs → all_in_range es vs ≡ true
all_so [] vs h = refl
all_so (x ∷ es) no_val h = absurd h
all_so (x ∷ es) (then_val v vs) h = and_so (holds x.range v) (all_in_range es vs) (range_so x.range v h.0) (all_so es vs h.1)

pub tested : (es : List Entry) (vs : Vals) (r : Bool) → r ≡ all_in_range es vs → (r ≡ true) ↔ InRange es vs
tested es vs r e = (λ t. all_hold es vs (sym e ∙ t), λ h. e ∙ all_so es vs h)
