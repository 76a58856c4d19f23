-- The equations of forms and values, variant by variant.
use Rattle.std.proofs.Common.{◌≡◌, ℕ, suc, ◌<◌, List, [], ◌∷◌, length, refl, ap, subst, sym, ◌∙◌, Vec, Global, Bool, Option, Some, None, true, false, arith, ℤ, drop, get_or}
use Rattle.std.specs.Global.{Box}
use Rattle.std.specs.Prelude.{◌==◌, ◌&&◌, ◌||◌, map}
use Rattle.std.specs.List.{list_any}
use Rattle.std.specs.Ordering.{int_eq}
use Rattle.std.proofs.lemmas.List.{length-map}
use Rattle.std.proofs.lemmas.Grind.{common_steps}
use Rattle.std.proofs.Math.Seq.{drop-cons}
use mathlib.Core.Former.{Count}
use Rattle.ndr_value.specs.declared.shape.Arm.{Arm}
use Rattle.ndr_value.specs.declared.shape.Shape.{Shape, Row_of-Shape, end_of-Shape, more_of-Shape, items-the_row-Shape, items_hidden-the_row-Shape-0, Row_of-Arm, end_of-Arm, more_of-Arm, items-the_row-Arm, items_hidden-the_row-Arm-1, None', Some'}
use Rattle.ndr_value.specs.declared.shape.Shape.TheVariants as shapes
use Rattle.ndr_value.specs.declared.value.Value.{Value, Row_of-Value, end_of-Value, more_of-Value, items-the_row-Value, items_hidden-the_row-Value-0}
use Rattle.ndr_value.specs.declared.value.Value.TheVariants as values
use Rattle.ndr_value.specs.Forms.{Form, OfStruct, OfUnion, then_form, then_arm, empty, holds, form, forms, row_forms, row_arms, body, arms_of, face, Forms, Body, ArmForms, no_form, no_arm}
use Rattle.ndr_value.specs.Values.{Val, VStruct, VArray, no_val, then_val, val, vals, row_vals, count_of, bytes}
use Rattle.ndr_value.specs.Fits.{arm_of, with_case}
use Rattle.ndr_value.specs.Judged.{typed, each_typed, all_typed, plain, is_struct, holds_items, members, inner, is_empty, is_held, held, is_byte}

row_is : (n : _) (row : Row_of-Shape n) → row_forms row ≡ forms (items-the_row-Shape n row)
row_is n end_of-Shape = refl
row_is n (more_of-Shape s rest) = ap (then_form (form s)) (row_is _ rest)

abbrev row_of : Shape → (n : Count) × Row_of-Shape n
row_of (shapes.Struct' _ row) = (_, row)
row_of _ = (_, end_of-Shape)

pub form_struct : (v : Vec Shape Global) → form (shapes.Struct v) ≡ OfStruct (forms v.items)
form_struct v =
    let row = row_of (shapes.Struct v) in
    ap OfStruct (row_is row.0 row.1 ∙ ap forms (items_hidden-the_row-Shape-0 v))

arms_is : (n : _) (row : Row_of-Arm n) → row_arms row ≡ arms_of (items-the_row-Arm n row)
arms_is n end_of-Arm = refl
arms_is n (more_of-Arm cases default None' rest) = ap (then_arm cases default empty) (arms_is _ rest)
arms_is n (more_of-Arm cases default (Some' s) rest) = ap (then_arm cases default (holds (form s))) (arms_is _ rest)

abbrev arm_row_of : Shape → (n : Count) × Row_of-Arm n
arm_row_of (shapes.Union' _ _ _ row) = (_, row)
arm_row_of _ = (_, end_of-Arm)

pub form_union : (b : Box Shape) (v : Vec Arm Global) → form (shapes.Union b v) ≡ OfUnion (form b.value) (arms_of v.items)
form_union b v =
    let row = arm_row_of (shapes.Union b v) in
    ap (OfUnion (form b.value)) (arms_is row.0 row.1 ∙ ap arms_of (items_hidden-the_row-Arm-1 v))

vrow_is : (n : _) (row : Row_of-Value n) → row_vals row ≡ vals (items-the_row-Value n row)
vrow_is n end_of-Value = refl
vrow_is n (more_of-Value v rest) = ap (then_val (val v)) (vrow_is _ rest)

abbrev vrow_of : Value → (n : Count) × Row_of-Value n
vrow_of (values.Struct' _ row) = (_, row)
vrow_of (values.Array' _ row) = (_, row)
vrow_of _ = (_, end_of-Value)

pub val_struct : (v : Vec Value Global) → val (values.Struct v) ≡ VStruct (vals v.items)
val_struct v =
    let row = vrow_of (values.Struct v) in
    ap VStruct (vrow_is row.0 row.1 ∙ ap vals (items_hidden-the_row-Value-0 v))

pub val_array : (v : Vec Value Global) → val (values.Array v) ≡ VArray (vals v.items)
val_array v =
    let row = vrow_of (values.Array v) in
    ap VArray (vrow_is row.0 row.1 ∙ ap vals (items_hidden-the_row-Value-0 v))

pub count-vals : (vs : List Value) → count_of (vals vs) ≡ length vs
count-vals [] = refl
count-vals (v ∷ vs) = ap suc (count-vals vs)

count-bytes : (ns : List ℕ) → count_of (bytes ns) ≡ length ns
count-bytes [] = refl
count-bytes (n ∷ ns) = ap suc (count-bytes ns)

absorbed : (b z a : Bool) → a ≡ (z || b) → (b && a) ≡ b
absorbed true true a e = e
absorbed true false a e = e
absorbed false z a e = refl

suc_not_zero : (n : ℕ) → (suc n == 0) ≡ false
suc_not_zero n = grind (arith, common_steps)

-- octets are Bytes one and all
bytes_typed : (types : List Form) (heap level : ℕ) (ns : List ℕ) (s : Form) → all_typed types heap level (bytes ns) s ≡ ((length ns == 0) || is_byte (plain types (length types) s))
bytes_typed types heap level [] s = refl
bytes_typed types heap level (n ∷ ns) s =
    let b = is_byte (plain types (length types) s) in
    let e : (suc (length ns) == 0) ≡ false = suc_not_zero (length ns) in
    absorbed b (length ns == 0) (all_typed types heap level (bytes ns) s) (bytes_typed types heap level ns s) ∙ ap (λ z. z || b) (sym e)

-- the forms of a list are those of its items, and so are the arms
abbrev to_forms : List Form → Forms
to_forms [] = no_form
to_forms (s ∷ ss) = then_form s (to_forms ss)

to_forms_is : (ss : List Shape) → forms ss ≡ to_forms (map form ss)
to_forms_is [] = refl
to_forms_is (s ∷ ss) = ap (then_form (form s)) (to_forms_is ss)

pub same_forms : (ss ts : List Shape) → map form ss ≡ map form ts → forms ss ≡ forms ts
same_forms ss ts e = to_forms_is ss ∙ ap to_forms e ∙ sym (to_forms_is ts)

abbrev to_arms : List (List ℤ × Bool × Body) → ArmForms
to_arms [] = no_arm
to_arms (a ∷ rest) = then_arm a.0 a.1 a.2 (to_arms rest)

to_arms_is : (xs : List Arm) → arms_of xs ≡ to_arms (map face xs)
to_arms_is [] = refl
to_arms_is (a ∷ rest) = ap (then_arm a.cases a.default (body a.shape)) (to_arms_is rest)

pub same_arms : (xs ys : List Arm) → map face xs ≡ map face ys → arms_of xs ≡ arms_of ys
same_arms xs ys e = to_arms_is xs ∙ ap to_arms e ∙ sym (to_arms_is ys)

-- the first arm that has the case
pub case_found : (arms : List Arm) (i : ℕ) (a : Arm) (tag : ℤ) → i < length arms → a ≡ get_or arms i a → list_any (λ c. int_eq c tag) a.cases ≡ true
    → with_case (arms_of (drop i arms)) tag ≡ with_case (arms_of arms) tag → with_case (arms_of arms) tag ≡ Some (body a.shape)
case_found arms i a tag within is has same =
    let e : drop i arms ≡ a ∷ drop (suc i) arms = drop-cons arms i a within ∙ ap (λ x. x ∷ drop (suc i) arms) (sym is) in
    let f : with_case (arms_of (a ∷ drop (suc i) arms)) tag ≡ Some (body a.shape) = rw has refl in
    sym same ∙ ap (λ xs. with_case (arms_of xs) tag) e ∙ f

-- what a value that holds others has to be
module _ (types : List Shape) (heap level : ℕ) (x : Value) (s p : Form) (r : Bool) (plain_is : p ≡ plain (map form types) (length types) s) where
  pub struct_arm : (v : Vec Value Global) (vs : List Value) → x ≡ values.Struct v → vs ≡ v.items
      → r ≡ (is_struct p && each_typed (map form types) heap level (vals vs) (members p)) → r ≡ typed (map form types) heap level (val x) s
  struct_arm v vs x_is vs_is r_is =
      subst (λ (y : Value). r ≡ typed (map form types) heap level (val y) s) (sym x_is)
      (subst (λ (y : Val). r ≡ typed (map form types) heap level y s) (sym (val_struct v)) (rw (length-map, ← plain_is, ← vs_is) r_is))

  pub array_arm : (v : Vec Value Global) (vs : List Value) → x ≡ values.Array v → vs ≡ v.items
      → r ≡ (holds_items p (length vs) && all_typed (map form types) heap level (vals vs) (inner p)) → r ≡ typed (map form types) heap level (val x) s
  array_arm v vs x_is vs_is r_is =
      subst (λ (y : Value). r ≡ typed (map form types) heap level (val y) s) (sym x_is)
      (subst (λ (y : Val). r ≡ typed (map form types) heap level y s) (sym (val_array v)) (rw (length-map, ← plain_is, ← vs_is, count-vals vs) r_is))

  pub octets_arm : (octets : List ℕ) (n : ℕ) → x ≡ values.Octets octets → n ≡ length octets
      → r ≡ (holds_items p n && ((n == 0) || is_byte (plain (map form types) (length types) (inner p)))) → r ≡ typed (map form types) heap level (val x) s
  octets_arm octets n x_is n_is r_is =
      subst (λ (y : Value). r ≡ typed (map form types) heap level (val y) s) (sym x_is)
      (rw (count-bytes octets, bytes_typed (map form types) heap level octets (inner (plain (map form types) (length (map form types)) s)), length-map, ← plain_is, ← n_is) r_is)

  pub empty_arm : (tag passed : ℤ) (o : Option (Box Value)) → passed ≡ tag → x ≡ values.Union tag o → o ≡ None → r ≡ is_empty (arm_of p passed) → r ≡ typed (map form types) heap level (val x) s
  empty_arm tag passed o same x_is o_is r_is =
      subst (λ (y : Value). r ≡ typed (map form types) heap level (val y) s) (sym x_is)
      (subst (λ (y : Option (Box Value)). r ≡ typed (map form types) heap level (val (values.Union tag y)) s) (sym o_is) (rw (length-map, ← plain_is, ← same) r_is))

  pub union_arm : (tag passed : ℤ) (o : Option (Box Value)) (b : Box Value) (v : Value) → passed ≡ tag → x ≡ values.Union tag o → o ≡ Some b → v ≡ b.value
      → r ≡ (is_held (arm_of p passed) && typed (map form types) heap level (val v) (held (arm_of p passed))) → r ≡ typed (map form types) heap level (val x) s
  union_arm tag passed o b v same x_is o_is v_is r_is =
      subst (λ (y : Value). r ≡ typed (map form types) heap level (val y) s) (sym x_is)
      (subst (λ (y : Option (Box Value)). r ≡ typed (map form types) heap level (val (values.Union tag y)) s) (sym o_is) (rw (length-map, ← plain_is, ← v_is, ← same) r_is))

pub ended : (types : List Form) (heap level : ℕ) (rest : List Shape) → each_typed types heap level no_val (forms rest) ≡ (length rest == 0)
ended types heap level [] = refl
ended types heap level (s ∷ ss) = grind (arith, common_steps)
