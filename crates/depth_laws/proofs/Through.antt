-- Where references are counted too, shapes of few levels nest less deep than value texts are read.
use Rattle.std.proofs.Common.{◌≡◌, ℕ, zero, suc, ◌+◌, ◌≤◌, true, List, [], ◌∷◌, length, Option, Some, None, refl, arith}
use Rattle.std.specs.Prelude.{slice_get, ◌&&◌}
use Rattle.ndr_value.specs.Forms.{Form, OfBool, OfByte, OfChar, OfInt, OfUint, OfEnum, OfNamed, OfStruct, OfUnion, OfArray, OfText, OfRef, OfUnique, OfFull, OfHandle, Forms, no_form, then_form, Body, empty, holds, ArmForms, no_arm, then_arm}
use Rattle.ndr_table.specs.declared.operation.HandleUse.{HandleUse}
use Rattle.ndr_table.specs.Ordered.{is_below, is_body, ordered_from}
use Rattle.ndr_table.specs.Tables.{OpForm, IsTable}
use Rattle.value_text.specs.Fuel.{EachForm, HasForm, HasBody, EachArm, Nests, Pointed, EachPointed, ArmsPointed, BodyPointed, IsFew}
use Rattle.value_text.proofs.Shallow.{fuel_suffices}
use Rattle.depth_laws.specs.Laws.{IsRead}
use Rattle.depth_laws.specs.Through.{through, members_through, arms_through, body_through, IsNear, AreNear}
use Rattle.depth_laws.proofs.Nesting.{one_up, both}

body_of : (ss : List Form) (number far c : ℕ) (t : Form) → ordered_from number far ss ≡ true → slice_get ss c ≡ Some t → is_body t ≡ true
body_of [] number far c t ord is = absurd cc
body_of (s ∷ ss) number far zero t ord is = let same : s ≡ t = cc in subst_body s t same (both (is_body s) (is_below number far s && ordered_from (number + 1) far ss) ord).0
  where
    subst_body : (s t : Form) → s ≡ t → is_body s ≡ true → is_body t ≡ true
    subst_body s t same h = cc
body_of (s ∷ ss) number far (suc c) t ord is =
    let a = both (is_body s) (is_below number far s && ordered_from (number + 1) far ss) ord in
    body_of ss (number + 1) far c t (both (is_below number far s) (ordered_from (number + 1) far ss) a.1).1 is

-- ---- what pointers point to

module _ (p q : Form → Type 0) (go : (s : Form) → p s → q s) where
  mutual
    pointed_on : (s : Form) → Pointed p s → Pointed q s
    pointed_on (OfStruct ss) h = each_pointed ss h
    pointed_on (OfUnion t arms) h = arms_pointed arms h
    pointed_on (OfArray kind s) h = pointed_on s h
    pointed_on (OfRef s) h = pointed_on s h
    pointed_on (OfUnique s) h = (go s h.0, pointed_on s h.1)
    pointed_on _ h = tt

    each_pointed : (ss : Forms) → EachPointed p ss → EachPointed q ss
    each_pointed no_form h = tt
    each_pointed (then_form s ss) h = (pointed_on s h.0, each_pointed ss h.1)

    arms_pointed : (arms : ArmForms) → ArmsPointed p arms → ArmsPointed q arms
    arms_pointed no_arm h = tt
    arms_pointed (then_arm cases default b rest) h = (body_pointed b h.0, arms_pointed rest h.1)

    body_pointed : (b : Body) → BodyPointed p b → BodyPointed q b
    body_pointed empty h = tt
    body_pointed (holds s) h = pointed_on s h

-- ---- each level is a construct and a name at most

module _ (types : List Form) (depth : ℕ → ℕ) (counted : (c : ℕ) (t : Form) → slice_get types c ≡ Some t → through depth t ≤ depth c)
    (bodies : (c : ℕ) (t : Form) → slice_get types c ≡ Some t → is_body t ≡ true) where
  named : (d : ℕ) (o : Option Form) → ((t : Form) → o ≡ Some t → Nests types d t) → HasForm (Nests types d) o
  named d None h = tt
  named d (Some t) h = h t refl

  module _ (d : ℕ) (go : (s : Form) → through depth s + through depth s + 2 ≤ d → Nests types d s) where
    each : (ss : Forms) → members_through depth ss + members_through depth ss + 2 ≤ d → EachForm (Nests types d) ss
    each no_form le = tt
    each (then_form s ss) le = (go s (omega (arith, le)), each ss (omega (arith, le)))

    in_body : (b : Body) → body_through depth b + body_through depth b + 2 ≤ d → HasBody (Nests types d) b
    in_body empty le = tt
    in_body (holds s) le = go s le

    in_arms : (arms : ArmForms) → arms_through depth arms + arms_through depth arms + 2 ≤ d → EachArm (Nests types d) arms
    in_arms no_arm le = tt
    in_arms (then_arm cases default b rest) le = (in_body b (omega (arith, le)), in_arms rest (omega (arith, le)))

  mutual
    nests : (d : ℕ) (s : Form) → through depth s + through depth s + 2 ≤ d → Nests types d s
    nests zero s le = absurd (omega (arith, le))
    nests (suc d) OfBool le = one_up types d OfBool tt
    nests (suc d) OfByte le = one_up types d OfByte tt
    nests (suc d) OfChar le = one_up types d OfChar tt
    nests (suc d) (OfInt size) le = one_up types d (OfInt size) tt
    nests (suc d) (OfUint size) le = one_up types d (OfUint size) tt
    nests (suc d) (OfEnum count) le = one_up types d (OfEnum count) tt
    nests (suc d) (OfText most) le = one_up types d (OfText most) tt
    nests (suc d) (OfUnique s) le = one_up types d (OfUnique s) tt
    nests (suc d) (OfFull s) le = one_up types d (OfFull s) tt
    nests (suc d) (OfHandle kind) le = one_up types d (OfHandle kind) tt
    nests (suc d) (OfNamed c switch) le = one_up types d (OfNamed c switch) (named d (slice_get types c) (λ t is. of_body d t (bodies c t is) (let k = counted c t is in omega (arith, le, k))))
    nests (suc d) (OfStruct ss) le = one_up types d (OfStruct ss) (each d (nests d) ss (omega (arith, le)))
    nests (suc d) (OfUnion t arms) le = one_up types d (OfUnion t arms) (in_arms d (nests d) arms (omega (arith, le)))
    nests (suc d) (OfArray kind s) le = one_up types d (OfArray kind s) (nests d s (omega (arith, le)))
    nests (suc d) (OfRef s) le = one_up types d (OfRef s) (nests d s (omega (arith, le)))

    of_body : (d : ℕ) (t : Form) → is_body t ≡ true → through depth t + through depth t + 1 ≤ d → Nests types d t
    of_body zero t is le = absurd (omega (arith, le))
    of_body (suc d) (OfStruct ss) is le = one_up types d (OfStruct ss) (each d (nests d) ss (omega (arith, le)))
    of_body (suc d) (OfUnion t arms) is le = one_up types d (OfUnion t arms) (in_arms d (nests d) arms (omega (arith, le)))
    of_body (suc d) _ is le = absurd cc

  near_few : (s : Form) → IsNear depth s → IsFew types s
  near_few s le = nests 48 s (omega (arith, le))

pub near_shapes_are_read : (types : List Form) (ops : List OpForm) (uses : List (List HandleUse)) (depth : ℕ → ℕ) (s : Form) → IsTable types ops uses → AreNear types depth
    → IsNear depth s → Pointed (IsNear depth) s → IsRead types s
near_shapes_are_read types ops uses depth s table near le h text =
    let few : (u : Form) → IsNear depth u → IsFew types u = near_few types depth near.counted (λ c t is. body_of types 0 (length types) c t table.types_are is) in
    fuel_suffices types s text (record { itself = few s le; pointed = pointed_on (IsNear depth) (IsFew types) few s h; types_are = λ c t is. pointed_on (IsNear depth) (IsFew types) few t (near.pointed c t is) })
