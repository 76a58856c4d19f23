-- Lists of values beside others.
use Rattle.std.proofs.Common.{◌≡◌, ℕ, ◌<◌, Bool, false, List, [], ◌∷◌, length, drop, refl, sym, ap, ◌∙◌, Vec, Global, arith}
use Rattle.std.proofs.Math.Seq.{drop-cons}
use Rattle.std.specs.Prelude.{◌==◌, ◌&&◌, bytes_eq}
use Rattle.std.proofs.lemmas.Grind.{common_steps}
use Rattle.rpc_base.specs.declared.identifiers.WireHandle.{WireHandle}
use Rattle.ndr_value.specs.declared.value.Value.{Value}
use Rattle.ndr_value.specs.declared.value.Value.TheVariants as values
use Rattle.ndr_value.specs.Values.{VStruct, VArray, no_val, val, vals, bytes}
use Rattle.ndr_value.proofs.Mirror.{val_struct, val_array}
use Rattle.ndr_agree.specs.Same.{same_each, same_wires}

-- arrays of octets are the same where their octets are
pub bytes_same : (a b : List ℕ) → same_each (bytes a) (bytes b) ≡ bytes_eq a b
bytes_same [] [] = refl
bytes_same [] (y ∷ ys) = refl
bytes_same (x ∷ xs) [] = refl
bytes_same (x ∷ xs) (y ∷ ys) = ap (λ b. (x == y) && b) (bytes_same xs ys)

pub vals_end : (rest : List Value) → same_each no_val (vals rest) ≡ (length rest == 0)
vals_end [] = refl
vals_end (v ∷ vs) = grind (arith, common_steps)

pub bytes_end : (rest : List ℕ) → same_each no_val (bytes rest) ≡ (length rest == 0)
bytes_end [] = refl
bytes_end (n ∷ ns) = grind (arith, common_steps)

pub wires_end : (rest : List WireHandle) → same_wires [] rest ≡ (length rest == 0)
wires_end [] = refl
wires_end (w ∷ ws) = grind (arith, common_steps)

-- something is left on one side alone
pub bytes_left : (octets : List ℕ) (rest : List Value) (i : ℕ) (r : Bool) → i < length octets → length rest ≡ 0 → same_each (bytes (drop i octets)) (vals rest) ≡ r → false ≡ r
bytes_left octets [] i r lt e so_far =
    let f : same_each (bytes (drop i octets)) no_val ≡ false = rw (drop-cons octets i 0 lt) refl in
    sym f ∙ so_far
bytes_left octets (v ∷ vs) i r lt e so_far = absurd (omega (arith, e))

pub wires_left : (wires rest : List WireHandle) (i : ℕ) (r : Bool) → i < length wires → length rest ≡ 0 → same_wires (drop i wires) rest ≡ r → false ≡ r
wires_left wires [] i r lt e so_far =
    let f : same_wires (drop i wires) [] ≡ false = rw (drop-cons wires i (record { attributes = 0; id = 0 }) lt) refl in
    sym f ∙ so_far
wires_left wires (w ∷ ws) i r lt e so_far = absurd (omega (arith, e))

pub struct_is : (x : Value) (v : Vec Value Global) (vs : List Value) → x ≡ values.Struct v → vs ≡ v.items → val x ≡ VStruct (vals vs)
struct_is x v vs is e = ap val is ∙ val_struct v ∙ ap (λ (xs : List Value). VStruct (vals xs)) (sym e)

pub array_is : (x : Value) (v : Vec Value Global) (vs : List Value) → x ≡ values.Array v → vs ≡ v.items → val x ≡ VArray (vals vs)
array_is x v vs is e = ap val is ∙ val_array v ∙ ap (λ (xs : List Value). VArray (vals xs)) (sym e)
