-- Values as they are written.
use Rattle.std.proofs.Common.{◌≡◌, ℕ, ◌+◌, ◌<◌, ◌≤◌, Bool, true, false, List, [], ◌++◌, length, drop, get_or, refl, ap, sym, ◌∙◌, append_assoc, append-nil, Vec, Global}
use Rattle.std.proofs.lemmas.List.{drop_all}
use Rattle.ndr_value.specs.declared.value.Value.{Value}
use Rattle.ndr_value.specs.declared.value.Value.TheVariants as values
use Rattle.ndr_value.specs.Values.{Val, Vals, VStruct, VArray, no_val, then_val, val, vals}
use Rattle.ndr_value.proofs.Mirror.{val_struct, val_array}
use Rattle.value_text.specs.Texts.{value_text, more_text}
use Rattle.value_text.specs.Rows.{item_text, rest_text}
use Rattle.value_text.proofs.Rows.{drop_more}

pub struct_is : (x : Value) (v : Vec Value Global) (vs : List Value) → x ≡ values.Struct v → vs ≡ v.items → VStruct (vals vs) ≡ val x
struct_is x v vs x_is vs_is = ap (λ (ws : List Value). VStruct (vals ws)) vs_is ∙ sym (ap val x_is ∙ val_struct v)

pub array_is : (x : Value) (v : Vec Value Global) (vs : List Value) → x ≡ values.Array v → vs ≡ v.items → VArray (vals vs) ≡ val x
array_is x v vs x_is vs_is = ap (λ (ws : List Value). VArray (vals ws)) vs_is ∙ sym (ap val x_is ∙ val_array v)

one_item : (b : Bool) (v : Val) (vs : Vals) → rest_text b (then_val v vs) ≡ item_text b v ++ more_text vs
unfolding value_text
one_item true v vs = refl
one_item false v vs = refl

nothing_left : (b : Bool) → rest_text b no_val ≡ []
unfolding value_text
nothing_left true = refl
nothing_left false = refl

pub item_more : (b : Bool) (xs : List Value) (i : ℕ) (x : Value) (old into total : List ℕ) → i < length xs → x ≡ get_or xs i x → into ≡ old ++ item_text b (val x) → old ++ rest_text b (vals (drop i xs)) ≡ total
    → into ++ rest_text false (vals (drop (i + 1) xs)) ≡ total
item_more b xs i x old into total lt is e so_far =
    let d = drop_more xs i x lt is in
    ap (λ (u : List ℕ). u ++ more_text (vals (drop (i + 1) xs))) e
    ∙ (append_assoc old (item_text b (val x)) (more_text (vals (drop (i + 1) xs)))
    ∙ (ap (λ (u : List ℕ). old ++ u) (sym (ap (λ (ys : List Value). rest_text b (vals ys)) d ∙ one_item b (val x) (vals (drop (i + 1) xs)))) ∙ so_far))

pub items_done : (b : Bool) (xs : List Value) (i : ℕ) (into total : List ℕ) → length xs ≤ i → into ++ rest_text b (vals (drop i xs)) ≡ total → into ≡ total
items_done b xs i into total le so_far =
    sym (append-nil into) ∙ (ap (λ (u : List ℕ). into ++ u) (sym (ap (λ (ys : List Value). rest_text b (vals ys)) (drop_all i xs le) ∙ nothing_left b)) ∙ so_far)
