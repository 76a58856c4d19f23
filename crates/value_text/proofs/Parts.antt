-- One step of reading, and what shapes hold.
use Rattle.std.proofs.Common.{◌≡◌, ℕ, zero, suc, ◌-◌, List, refl, ap, sym, ◌∙◌, arith, Vec, Global}
use Rattle.std.specs.Global.{Box}
use Rattle.ndr_value.specs.declared.shape.Arm.{Arm}
use Rattle.ndr_value.specs.declared.shape.Shape.{Shape}
use Rattle.ndr_value.specs.declared.shape.Shape.TheVariants as shapes
use Rattle.ndr_value.specs.Forms.{Form, OfByte, OfStruct, OfUnion, form, forms, arms_of}
use Rattle.ndr_value.proofs.Mirror.{form_struct, form_union}
use Rattle.value_text.specs.declared.departure.Stop.{Stop}
use Rattle.value_text.specs.declared.departure.Stop.TheVariants as stops
use Rattle.value_text.specs.Reading.{Row, in_array, byte_at, read_at, read}
use Rattle.value_text.specs.Gives.{Fails}

pub struct_is : (s : Shape) (v : Vec Shape Global) (ss : List Shape) → s ≡ shapes.Struct v → ss ≡ v.items → OfStruct (forms ss) ≡ form s
struct_is s v ss s_is ss_is = ap (λ (ts : List Shape). OfStruct (forms ts)) ss_is ∙ sym (ap form s_is ∙ form_struct v)

pub union_is : (s : Shape) (b : Box Shape) (v : Vec Arm Global) (t : Shape) (as' : List Arm) → s ≡ shapes.Union b v → t ≡ b.value → as' ≡ v.items → OfUnion (form t) (arms_of as') ≡ form s
union_is s b v t as' s_is t_is as_is =
    ap (λ (u : Shape). OfUnion (form u) (arms_of as')) t_is ∙ (ap (λ (us : List Arm). OfUnion (form b.value) (arms_of us)) as_is ∙ sym (ap form s_is ∙ form_union b v))

pub read_step : (types : List Form) (n level : ℕ) (s : Form) (t : List ℕ) → (n ≡ 0 → ⊥) → read_at types (read types (n - 1)) level s t ≡ read types n level s t
unfolding read
read_step types zero level s t h = absurd (h refl)
read_step types (suc n) level s t h = let e : suc n - 1 ≡ n = omega arith in rw e refl

pub read_bytes : (types : List Form) (n level : ℕ) → (n ≡ 0 → ⊥) → byte_at ≡ read types n level OfByte
unfolding read
read_bytes types zero level h = absurd (h refl)
read_bytes types (suc n) level h = refl

pub array_fails : (e : Stop) (r : Row) → Fails e r → Fails e (in_array r)
array_fails stops.Memory r h = tt
array_fails (stops.Departs d) r h = ap in_array h
