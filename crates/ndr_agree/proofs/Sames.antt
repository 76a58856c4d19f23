-- The test tells whether two values are the same.
use Rattle.std.proofs.Common.{◌≡◌, ℕ, Bool, true, false, List, [], ◌∷◌, Option, Some, None, refl, ap, subst, ◌∙◌}
use Rattle.std.specs.Prelude.{◌==◌, ◌&&◌}
use Rattle.std.specs.Ordering.{int_eq}
use Rattle.std.specs.Bool.{Decides}
use Rattle.std.proofs.lemmas.Bool.Decides.{Decides-eqb, Decides-int_eq}
use Rattle.std.proofs.lemmas.Slice.Eq.{bytes_eq-Decides}
use Rattle.rpc_base.specs.declared.identifiers.WireHandle.{WireHandle}
use Rattle.ndr_value.specs.Values.{Val, VBool, VByte, VChar, VInt, VUint, VEnum, VStruct, VEmpty, VUnion, VArray, VText, VNull, VPtr, VFull, VHandle, Vals, no_val, then_val, Msg}
use Rattle.ndr_model.specs.Same.{same_bool, same_size}
use Rattle.ndr_agree.specs.Same.{same, same_each, same_wire, same_wires, same_msg}

and_is : (a b : Bool) → (a && b) ≡ true → (a ≡ true) × (b ≡ true)
and_is true b e = (refl, e)
and_is false b e = absurd cc

and_so : (a b : Bool) → a ≡ true → b ≡ true → (a && b) ≡ true
and_so a b e f = ap (λ x. x && b) e ∙ f

bool_is : (a b : Bool) → same_bool a b ≡ true → a ≡ b
bool_is true true e = refl
bool_is true false e = absurd cc
bool_is false true e = absurd cc
bool_is false false e = refl

bool_self : (b : Bool) → same_bool b b ≡ true
bool_self true = refl
bool_self false = refl

size_is : (a b : Option ℕ) → same_size a b ≡ true → a ≡ b
size_is None None e = refl
size_is (Some a) (Some b) e = ap Some ((Decides-eqb a b).0 e)
size_is _ _ e = absurd cc

size_self : (o : Option ℕ) → same_size o o ≡ true
size_self None = refl
size_self (Some a) = (Decides-eqb a a).1 refl

mutual
  same_is : (v w : Val) → same v w ≡ true → v ≡ w
  same_is (VBool a) (VBool b) e = ap VBool (bool_is a b e)
  same_is (VByte a) (VByte b) e = ap VByte ((Decides-eqb a b).0 e)
  same_is (VChar a) (VChar b) e = ap VChar ((Decides-eqb a b).0 e)
  same_is (VInt a) (VInt b) e = ap VInt ((Decides-int_eq a b).0 e)
  same_is (VUint a) (VUint b) e = ap VUint ((Decides-eqb a b).0 e)
  same_is (VEnum a) (VEnum b) e = ap VEnum ((Decides-eqb a b).0 e)
  same_is (VStruct vs) (VStruct ws) e = ap VStruct (each_is vs ws e)
  same_is (VEmpty a) (VEmpty b) e = ap VEmpty ((Decides-int_eq a b).0 e)
  same_is (VUnion a v) (VUnion b w) e = let x = and_is (int_eq a b) (same v w) e in let f = (Decides-int_eq a b).0 x.0 in let g = same_is v w x.1 in cc
  same_is (VArray vs) (VArray ws) e = ap VArray (each_is vs ws e)
  same_is (VText a) (VText b) e = ap VText ((bytes_eq-Decides a b).0 e)
  same_is VNull VNull e = refl
  same_is (VPtr v) (VPtr w) e = ap VPtr (same_is v w e)
  same_is (VFull a) (VFull b) e = ap VFull (size_is a b e)
  same_is (VHandle a) (VHandle b) e = ap VHandle ((Decides-eqb a b).0 e)
  same_is _ _ e = absurd cc

  each_is : (vs ws : Vals) → same_each vs ws ≡ true → vs ≡ ws
  each_is no_val no_val e = refl
  each_is (then_val v vs) (then_val w ws) e = let x = and_is (same v w) (same_each vs ws) e in let f = same_is v w x.0 in let g = each_is vs ws x.1 in cc
  each_is _ _ e = absurd cc

mutual
  same_self : (v : Val) → same v v ≡ true
  same_self (VBool a) = bool_self a
  same_self (VByte a) = (Decides-eqb a a).1 refl
  same_self (VChar a) = (Decides-eqb a a).1 refl
  same_self (VInt a) = (Decides-int_eq a a).1 refl
  same_self (VUint a) = (Decides-eqb a a).1 refl
  same_self (VEnum a) = (Decides-eqb a a).1 refl
  same_self (VStruct vs) = each_self vs
  same_self (VEmpty a) = (Decides-int_eq a a).1 refl
  same_self (VUnion a v) = and_so (int_eq a a) (same v v) ((Decides-int_eq a a).1 refl) (same_self v)
  same_self (VArray vs) = each_self vs
  same_self (VText a) = (bytes_eq-Decides a a).1 refl
  same_self VNull = refl
  same_self (VPtr v) = same_self v
  same_self (VFull a) = size_self a
  same_self (VHandle a) = (Decides-eqb a a).1 refl

  each_self : (vs : Vals) → same_each vs vs ≡ true
  each_self no_val = refl
  each_self (then_val v vs) = and_so (same v v) (same_each vs vs) (same_self v) (each_self vs)

abbrev wire : ℕ → ℕ → WireHandle
wire n i = record { attributes = n; id = i }

wire_is : (a b : WireHandle) → same_wire a b ≡ true → a ≡ b
wire_is a b e =
    let x = and_is (a.attributes == b.attributes) (a.id == b.id) e in
    let f = (Decides-eqb a.attributes b.attributes).0 x.0 in
    let g = (Decides-eqb a.id b.id).0 x.1 in
    ap (λ (n : ℕ). wire n a.id) f ∙ ap (wire b.attributes) g

wire_self : (a : WireHandle) → same_wire a a ≡ true
wire_self a = and_so (a.attributes == a.attributes) (a.id == a.id) ((Decides-eqb a.attributes a.attributes).1 refl) ((Decides-eqb a.id a.id).1 refl)

wires_are : (xs ys : List WireHandle) → same_wires xs ys ≡ true → xs ≡ ys
wires_are [] [] e = refl
wires_are (a ∷ xs) (b ∷ ys) e = let x = and_is (same_wire a b) (same_wires xs ys) e in let f = wire_is a b x.0 in let g = wires_are xs ys x.1 in cc
wires_are _ _ e = absurd cc

wires_self : (xs : List WireHandle) → same_wires xs xs ≡ true
wires_self [] = refl
wires_self (a ∷ xs) = and_so (same_wire a a) (same_wires xs xs) (wire_self a) (wires_self xs)

abbrev message : Vals → Vals → List WireHandle → Msg
message vs heap ws = record { values = vs; heap = heap; wires = ws }

msg_is : (m n : Msg) → same_msg m n ≡ true → m ≡ n
msg_is m n e =
    let x = and_is (same_each m.values n.values && same_each m.heap n.heap) (same_wires m.wires n.wires) e in
    let y = and_is (same_each m.values n.values) (same_each m.heap n.heap) x.0 in
    let f = each_is m.values n.values y.0 in
    let g = each_is m.heap n.heap y.1 in
    let h = wires_are m.wires n.wires x.1 in
    ap (λ (vs : Vals). message vs m.heap m.wires) f ∙ ap (λ (vs : Vals). message n.values vs m.wires) g ∙ ap (message n.values n.heap) h

msg_self : (m : Msg) → same_msg m m ≡ true
msg_self m = and_so (same_each m.values m.values && same_each m.heap m.heap) (same_wires m.wires m.wires)
    (and_so (same_each m.values m.values) (same_each m.heap m.heap) (each_self m.values) (each_self m.heap)) (wires_self m.wires)

pub msgs_told : (m n : Msg) → Decides (same_msg m n) (m ≡ n)
msgs_told m n = (msg_is m n, λ e. subst (λ (x : Msg). same_msg m x ≡ true) e (msg_self m))
