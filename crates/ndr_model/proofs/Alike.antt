-- The test of two shapes tells whether they are the same.
use Rattle.std.proofs.Common.{◌≡◌, ℕ, ℤ, Bool, true, false, List, [], ◌∷◌, Option, Some, None, refl, ap, subst, ◌∙◌, arith}
use Rattle.std.specs.Prelude.{◌==◌, ◌&&◌}
use Rattle.std.specs.Ordering.{int_eq}
use Rattle.ndr_value.specs.declared.shape.Count.{Count}
use Rattle.ndr_value.specs.declared.shape.Count.TheVariants.{Number, Param, Member}
use Rattle.ndr_value.specs.declared.shape.ArrayKind.{ArrayKind}
use Rattle.ndr_value.specs.declared.shape.ArrayKind.TheVariants.{Fixed, Varying, Conformant, ConformantVarying}
use Rattle.ndr_value.specs.Forms.{Form, OfBool, OfByte, OfChar, OfInt, OfUint, OfEnum, OfNamed, OfStruct, OfUnion, OfArray, OfText, OfRef, OfUnique, OfFull, OfHandle, Forms, no_form, then_form, Body, empty, holds, ArmForms, no_arm, then_arm, bare_forms, bare_body, bare_arms}
use Rattle.ndr_model.specs.Same.{IsSame, same_bool, same_count, same_kind, same_size, same_cases, same, same_each, same_body, same_arms}

and_is : (a b : Bool) → (a && b) ≡ true → (a ≡ true) × (b ≡ true)
and_is true b e = (refl, e)
and_is false b e = absurd cc

num_is : (a b : ℕ) → (a == b) ≡ true → a ≡ b
num_is a b e = grind (arith)

bool_is : (a b : Bool) → same_bool a b ≡ true → a ≡ b
bool_is true true e = refl
bool_is true false e = absurd cc
bool_is false true e = absurd cc
bool_is false false e = refl

count_is : (a b : Count) → same_count a b ≡ true → a ≡ b
count_is (Number a) (Number b) e = ap Number (num_is a b e)
count_is (Param i t p) (Param j u q) e =
    let x = and_is ((i == j) && same_bool t u) (p == q) e in
    let y = and_is (i == j) (same_bool t u) x.0 in
    let f = num_is i j y.0 in let g = bool_is t u y.1 in let h = num_is p q x.1 in cc
count_is (Member i p) (Member j q) e = let x = and_is (i == j) (p == q) e in let f = num_is i j x.0 in let g = num_is p q x.1 in cc
count_is _ _ e = absurd cc

kind_is : (a b : ArrayKind) → same_kind a b ≡ true → a ≡ b
kind_is (Fixed a) (Fixed b) e = ap Fixed (num_is a b e)
kind_is (Varying a c) (Varying b d) e = let x = and_is (a == b) (same_count c d) e in let f = num_is a b x.0 in let g = count_is c d x.1 in cc
kind_is (Conformant c) (Conformant d) e = ap Conformant (count_is c d e)
kind_is (ConformantVarying a b) (ConformantVarying c d) e = let x = and_is (same_count a c) (same_count b d) e in let f = count_is a c x.0 in let g = count_is b d x.1 in cc
kind_is _ _ e = absurd cc

size_is : (a b : Option ℕ) → same_size a b ≡ true → a ≡ b
size_is None None e = refl
size_is (Some a) (Some b) e = ap Some (num_is a b e)
size_is _ _ e = absurd cc

int_is : (a b : ℤ) → int_eq a b ≡ true → a ≡ b
int_is a b e = grind (arith)

cases_are : (as' bs : List ℤ) → same_cases as' bs ≡ true → as' ≡ bs
cases_are [] [] e = refl
cases_are (a ∷ as') (b ∷ bs) e = let x = and_is (int_eq a b) (same_cases as' bs) e in let f = int_is a b x.0 in let g = cases_are as' bs x.1 in cc
cases_are _ _ e = absurd cc

mutual
  pub same_is : (s t : Form) → same s t ≡ true → IsSame s t
  same_is OfBool OfBool e = refl
  same_is OfByte OfByte e = refl
  same_is OfChar OfChar e = refl
  same_is (OfInt a) (OfInt b) e = ap OfInt (num_is a b e)
  same_is (OfUint a) (OfUint b) e = ap OfUint (num_is a b e)
  same_is (OfEnum a) (OfEnum b) e = ap OfEnum (num_is a b e)
  same_is (OfNamed a c) (OfNamed b d) e = let f = num_is a b e in cc
  same_is (OfStruct ss) (OfStruct ts) e = ap OfStruct (each_is ss ts e)
  same_is (OfUnion s xs) (OfUnion t ys) e = let x = and_is (same s t) (same_arms xs ys) e in let f = same_is s t x.0 in let g = arms_are xs ys x.1 in cc
  same_is (OfArray a s) (OfArray b t) e = let x = and_is (same_kind a b) (same s t) e in let f = kind_is a b x.0 in let g = same_is s t x.1 in cc
  same_is (OfText a) (OfText b) e = ap OfText (size_is a b e)
  same_is (OfRef s) (OfRef t) e = ap OfRef (same_is s t e)
  same_is (OfUnique s) (OfUnique t) e = ap OfUnique (same_is s t e)
  same_is (OfFull s) (OfFull t) e = ap OfFull (same_is s t e)
  same_is (OfHandle a) (OfHandle b) e = ap OfHandle (num_is a b e)
  same_is _ _ e = absurd cc

  each_is : (ss ts : Forms) → same_each ss ts ≡ true → bare_forms ss ≡ bare_forms ts
  each_is no_form no_form e = refl
  each_is (then_form s ss) (then_form t ts) e = let x = and_is (same s t) (same_each ss ts) e in let f = same_is s t x.0 in let g = each_is ss ts x.1 in cc
  each_is _ _ e = absurd cc

  body_is : (x y : Body) → same_body x y ≡ true → bare_body x ≡ bare_body y
  body_is empty empty e = refl
  body_is (holds s) (holds t) e = ap holds (same_is s t e)
  body_is _ _ e = absurd cc

  arms_are : (xs ys : ArmForms) → same_arms xs ys ≡ true → bare_arms xs ≡ bare_arms ys
  arms_are no_arm no_arm e = refl
  arms_are (then_arm as' a x xs) (then_arm bs b y ys) e =
      let p = and_is ((same_cases as' bs && same_bool a b) && same_body x y) (same_arms xs ys) e in
      let q = and_is (same_cases as' bs && same_bool a b) (same_body x y) p.0 in
      let r = and_is (same_cases as' bs) (same_bool a b) q.0 in
      let f = cases_are as' bs r.0 in let g = bool_is a b r.1 in let h = body_is x y q.1 in let i = arms_are xs ys p.1 in cc
  arms_are _ _ e = absurd cc

-- ---- shapes that are the same pass the test

and_so : (a b : Bool) → a ≡ true → b ≡ true → (a && b) ≡ true
and_so a b e f = ap (λ x. x && b) e ∙ f

num_same : (a b : ℕ) → a ≡ b → (a == b) ≡ true
num_same a b e = grind (arith, e)

bool_self : (b : Bool) → same_bool b b ≡ true
bool_self true = refl
bool_self false = refl

count_self : (c : Count) → same_count c c ≡ true
count_self (Number a) = num_same a a refl
count_self (Param i t p) = and_so ((i == i) && same_bool t t) (p == p) (and_so (i == i) (same_bool t t) (num_same i i refl) (bool_self t)) (num_same p p refl)
count_self (Member i p) = and_so (i == i) (p == p) (num_same i i refl) (num_same p p refl)

kind_self : (k : ArrayKind) → same_kind k k ≡ true
kind_self (Fixed a) = num_same a a refl
kind_self (Varying a c) = and_so (a == a) (same_count c c) (num_same a a refl) (count_self c)
kind_self (Conformant c) = count_self c
kind_self (ConformantVarying c d) = and_so (same_count c c) (same_count d d) (count_self c) (count_self d)

size_self : (o : Option ℕ) → same_size o o ≡ true
size_self None = refl
size_self (Some a) = num_same a a refl

int_self : (z : ℤ) → int_eq z z ≡ true
int_self z = grind (arith)

cases_self : (zs : List ℤ) → same_cases zs zs ≡ true
cases_self [] = refl
cases_self (z ∷ zs) = and_so (int_eq z z) (same_cases zs zs) (int_self z) (cases_self zs)

mutual
  pub same_of : (s t : Form) → IsSame s t → same s t ≡ true
  same_of OfBool OfBool e = refl
  same_of OfByte OfByte e = refl
  same_of OfChar OfChar e = refl
  same_of (OfInt a) (OfInt b) e = num_same a b cc
  same_of (OfUint a) (OfUint b) e = num_same a b cc
  same_of (OfEnum a) (OfEnum b) e = num_same a b cc
  same_of (OfNamed a c) (OfNamed b d) e = num_same a b cc
  same_of (OfStruct ss) (OfStruct ts) e = each_of ss ts cc
  same_of (OfUnion s xs) (OfUnion t ys) e = and_so (same s t) (same_arms xs ys) (same_of s t cc) (arms_of xs ys cc)
  same_of (OfArray a s) (OfArray b t) e = let k : a ≡ b = cc in and_so (same_kind a b) (same s t) (subst (λ (x : ArrayKind). same_kind a x ≡ true) k (kind_self a)) (same_of s t cc)
  same_of (OfText a) (OfText b) e = let k : a ≡ b = cc in subst (λ (x : Option ℕ). same_size a x ≡ true) k (size_self a)
  same_of (OfRef s) (OfRef t) e = same_of s t cc
  same_of (OfUnique s) (OfUnique t) e = same_of s t cc
  same_of (OfFull s) (OfFull t) e = same_of s t cc
  same_of (OfHandle a) (OfHandle b) e = num_same a b cc
  same_of _ _ e = absurd cc

  each_of : (ss ts : Forms) → bare_forms ss ≡ bare_forms ts → same_each ss ts ≡ true
  each_of no_form no_form e = refl
  each_of (then_form s ss) (then_form t ts) e = and_so (same s t) (same_each ss ts) (same_of s t cc) (each_of ss ts cc)
  each_of _ _ e = absurd cc

  body_of : (x y : Body) → bare_body x ≡ bare_body y → same_body x y ≡ true
  body_of empty empty e = refl
  body_of (holds s) (holds t) e = same_of s t cc
  body_of _ _ e = absurd cc

  arms_of : (xs ys : ArmForms) → bare_arms xs ≡ bare_arms ys → same_arms xs ys ≡ true
  arms_of no_arm no_arm e = refl
  arms_of (then_arm as' a x xs) (then_arm bs b y ys) e =
      let k : as' ≡ bs = cc in
      let l : a ≡ b = cc in
      and_so ((same_cases as' bs && same_bool a b) && same_body x y) (same_arms xs ys)
      (and_so (same_cases as' bs && same_bool a b) (same_body x y)
      (and_so (same_cases as' bs) (same_bool a b) (subst (λ (z : List ℤ). same_cases as' z ≡ true) k (cases_self as')) (subst (λ (z : Bool). same_bool a z ≡ true) l (bool_self a)))
      (body_of x y cc))
      (arms_of xs ys cc)
  arms_of _ _ e = absurd cc
