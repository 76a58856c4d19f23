-- Values by their place.
use Rattle.std.proofs.Common.{◌≡◌, ℕ, zero, suc, List, [], ◌∷◌, Option, Some, None, refl, sym, ap, ◌∙◌, Vec, Global}
use Rattle.std.specs.Global.{Box}
use Rattle.std.specs.Prelude.{slice_get}
use Rattle.ndr_value.specs.declared.value.Value.{Value}
use Rattle.ndr_value.specs.declared.value.Value.TheVariants as values
use Rattle.ndr_value.specs.declared.shape.Arm.{Arm}
use Rattle.ndr_value.specs.declared.shape.Shape.{Shape}
use Rattle.ndr_value.specs.declared.shape.Shape.TheVariants as shapes
use Rattle.ndr_value.specs.Forms.{OfStruct, OfUnion, form, forms, arms_of}
use Rattle.ndr_value.specs.Values.{Val, VStruct, VArray, val, vals}
use Rattle.ndr_value.proofs.Mirror.{form_struct, form_union, val_struct, val_array}
use Rattle.ndr_model.specs.Named.{nth}

abbrev pub seen : Option Value → Option Val
seen None = None
seen (Some v) = Some (val v)

pub nth_val : (vs : List Value) (n : ℕ) → nth (vals vs) n ≡ seen (slice_get vs n)
nth_val [] n = refl
nth_val (v ∷ vs) zero = refl
nth_val (v ∷ vs) (suc n) = nth_val vs n

pub none_at : (vs : List Value) (n : ℕ) → slice_get vs n ≡ None → nth (vals vs) n ≡ None
none_at vs n e = nth_val vs n ∙ ap seen e

pub some_at : (vs : List Value) (n : ℕ) (v : Value) → slice_get vs n ≡ Some v → nth (vals vs) n ≡ Some (val v)
some_at vs n v e = nth_val vs n ∙ ap seen e

pub struct_is : (s : Shape) (v : Vec Shape Global) (ss : List Shape) → s ≡ shapes.Struct v → ss ≡ v.items → form s ≡ OfStruct (forms ss)
struct_is s v ss is e = ap form is ∙ form_struct v ∙ ap (λ (xs : List Shape). OfStruct (forms xs)) (sym e)

pub union_is : (s : Shape) (b : Box Shape) (v : Vec Arm Global) (t : Shape) (xs : List Arm) → s ≡ shapes.Union b v → t ≡ b.value → xs ≡ v.items → form s ≡ OfUnion (form t) (arms_of xs)
union_is s b v t xs is e f = ap form is ∙ form_union b v ∙ ap (λ (y : Shape). OfUnion (form y) (arms_of v.items)) (sym e) ∙ ap (λ (ys : List Arm). OfUnion (form t) (arms_of ys)) (sym f)

pub value_struct : (x : Value) (v : Vec Value Global) (vs : List Value) → x ≡ values.Struct v → vs ≡ v.items → val x ≡ VStruct (vals vs)
value_struct x v vs is e = ap val is ∙ val_struct v ∙ ap (λ (xs : List Value). VStruct (vals xs)) (sym e)

pub value_array : (x : Value) (v : Vec Value Global) (vs : List Value) → x ≡ values.Array v → vs ≡ v.items → val x ≡ VArray (vals vs)
value_array x v vs is e = ap val is ∙ val_array v ∙ ap (λ (xs : List Value). VArray (vals xs)) (sym e)
