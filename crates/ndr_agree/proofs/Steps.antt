-- Steps of the comparison.
use Rattle.std.proofs.Common.{◌≡◌, ℕ, zero, suc, ◌-◌, ◌≤◌, false, List, [], ◌∷◌, length, drop, Option, refl, sym, ap, ◌∙◌, arith}
use Rattle.std.specs.Prelude.{◌==◌}
use Rattle.std.proofs.lemmas.List.{drop_all}
use Rattle.ndr_value.specs.declared.shape.Count.{Count}
use Rattle.ndr_value.specs.declared.shape.Shape.{Shape}
use Rattle.ndr_value.specs.declared.shape.ArrayKind.{ArrayKind}
use Rattle.ndr_value.specs.declared.value.Value.{Value}
use Rattle.ndr_value.specs.Forms.{Form, Forms, forms}
use Rattle.ndr_value.specs.Values.{Val, VStruct, VArray, Vals, vals}
use Rattle.ndr_model.specs.Named.{Call}
use Rattle.ndr_model.specs.Agree.{Stood}
use Rattle.ndr_model.specs.Compare.{Check, Compared, stray, fronted, compare_counts, compare_each, compare_elements, compare_struct, compare_array, compare_at, compare, compare_entries}

pub compare_step : (types : List Form) (call : Call) (n room : ℕ) (body : Vals) (link : Option Count) (moved : Option Stood) (s : Form) (v : Val) (c : Check) → (n ≡ 0 → ⊥)
    → compare types call n room body link moved s v c ≡ compare_at types call (compare types call (n - 1)) room body link moved s v c
unfolding compare
compare_step types call zero room body link moved s v c e = absurd (e refl)
compare_step types call (suc n) room body link moved s v c e = let k : suc n - 1 ≡ n = omega arith in rw k refl

pub each_left : (go : Compared) (body : Vals) (own : Option Stood) (vs : List Value) (i : ℕ) (rest : List Shape) (c total : Check) → length vs ≤ i → (length rest == 0) ≡ false
    → compare_each go body own (forms rest) (vals (drop i vs)) c ≡ total → stray c ≡ total
each_left go body own vs i [] c total le e so_far = absurd cc
each_left go body own vs i (s ∷ ss) c total le e so_far = sym (ap (λ (xs : List Value). compare_each go body own (forms (s ∷ ss)) (vals xs) c) (drop_all i vs le)) ∙ so_far

pub struct_step : (types : List Form) (go : Compared) (moved own : Option Stood) (ss : Forms) (v : Val) (vs : Vals) (ch c r : Check) → v ≡ VStruct vs → (own, ch) ≡ fronted types ss moved c
    → r ≡ compare_each go vs own ss vs ch → r ≡ compare_struct types go moved ss v c
struct_step types go moved own ss v vs ch c r is f e =
    e ∙ ap (λ (x : Option Stood × Check). compare_each go vs x.0 ss vs x.1) f ∙ sym (ap (λ (y : Val). compare_struct types go moved ss y c) is)

pub array_step : (go : Compared) (call : Call) (body : Vals) (moved : Option Stood) (kind : ArrayKind) (s : Form) (v : Val) (vs : Vals) (ch c r : Check) → v ≡ VArray vs
    → ch ≡ compare_counts call body moved kind c → r ≡ compare_elements go body s vs ch → r ≡ compare_array go call body moved kind s v c
array_step go call body moved kind s v vs ch c r is f e =
    e ∙ ap (λ (x : Check). compare_elements go body s vs x) f ∙ sym (ap (λ (y : Val). compare_array go call body moved kind s y c) is)

pub entries_left : (types : List Form) (call : Call) (n : ℕ) (vs : List Value) (c : Check) → (length vs == 0) ≡ false → stray c ≡ compare_entries types call n [] (vals vs) c
entries_left types call n [] c e = absurd cc
entries_left types call n (v ∷ vs) c e = refl
