-- How deep constructs stand in one another by value, up to pointers: names count too.
use Rattle.std.proofs.Common.{◌≡◌, ℕ, zero, suc, ℤ, Bool, true, false, List, [], ◌∷◌, Option, Some, None, refl, subst}
use Rattle.std.specs.Prelude.{slice_get, if◌then◌else◌}
use Rattle.std.specs.List.{list_any}
use Rattle.std.specs.Ordering.{int_eq}
use Rattle.ndr_value.specs.Forms.{Form, OfNamed, OfStruct, OfUnion, OfArray, OfRef, OfUnique, OfFull, Forms, no_form, then_form, Body, empty, holds, ArmForms, no_arm, then_arm}
use Rattle.ndr_model.specs.Stub.{Entry}
use Rattle.ndr_value.specs.Fits.{fits_tag, with_case, with_default, or_default, selected, arm_of}

abbrev pub EachForm : (Form → Type 0) → Forms → Type 0
EachForm p no_form = Unit {0}
EachForm p (then_form s ss) = p s × EachForm p ss

abbrev pub HasForm : (Form → Type 0) → Option Form → Type 0
HasForm p None = Unit {0}
HasForm p (Some s) = p s

abbrev pub HasBody : (Form → Type 0) → Body → Type 0
HasBody p empty = Unit {0}
HasBody p (holds s) = p s

abbrev pub EachArm : (Form → Type 0) → ArmForms → Type 0
EachArm p no_arm = Unit {0}
EachArm p (then_arm cases default b rest) = HasBody p b × EachArm p rest

abbrev pub shallow_at : List Form → (Form → Type 0) → Form → Type 0
shallow_at types go (OfNamed c switch) = HasForm go (slice_get types c)
shallow_at types go (OfStruct ss) = EachForm go ss
shallow_at types go (OfUnion t arms) = EachArm go arms
shallow_at types go (OfArray kind s) = go s
shallow_at types go _ = Unit {0}

-- less than d constructs deep by value
abbrev pub Shallow : List Form → ℕ → Form → Type 0
Shallow types zero s = ⊥
Shallow types (suc d) s = shallow_at types (Shallow types d) s

-- what pointers point to is less than d deep
abbrev mutual
  pub Targets : List Form → ℕ → Form → Type 0
  Targets types d (OfStruct ss) = EachTarget types d ss
  Targets types d (OfUnion t arms) = ArmTargets types d arms
  Targets types d (OfArray kind s) = Targets types d s
  Targets types d (OfRef s) = Shallow types d s × Targets types d s
  Targets types d (OfUnique s) = Shallow types d s × Targets types d s
  Targets types d (OfFull s) = Shallow types d s × Targets types d s
  Targets types d _ = Unit {0}

  pub EachTarget : List Form → ℕ → Forms → Type 0
  EachTarget types d no_form = Unit {0}
  EachTarget types d (then_form s ss) = Targets types d s × EachTarget types d ss

  pub ArmTargets : List Form → ℕ → ArmForms → Type 0
  ArmTargets types d no_arm = Unit {0}
  ArmTargets types d (then_arm cases default b rest) = BodyTarget types d b × ArmTargets types d rest

  pub BodyTarget : List Form → ℕ → Body → Type 0
  BodyTarget types d empty = Unit {0}
  BodyTarget types d (holds s) = Targets types d s

abbrev pub Grounded : List Form → ℕ → Type 0
Grounded types d = (c : ℕ) (s : Form) → slice_get types c ≡ Some s → Targets types d s

-- what stands in a stub is so
abbrev pub EachEntry : List Form → ℕ → List Entry → Type 0
EachEntry types d [] = Unit {0}
EachEntry types d (e ∷ es) = (Shallow types d e.shape × Targets types d e.shape) × EachEntry types d es

body_of_target : (types : List Form) (d : ℕ) (b : Body) → BodyTarget types d b → HasBody (Targets types d) b
body_of_target types d empty t = t
body_of_target types d (holds s) t = t

pub each_arm : (types : List Form) (d : ℕ) (arms : ArmForms) → ArmTargets types d arms → EachArm (Targets types d) arms
each_arm types d no_arm t = t
each_arm types d (then_arm cases default b rest) t = (body_of_target types d b t.0, each_arm types d rest t.1)

pub type_has : (types : List Form) (p : Form → Type 0) (c : ℕ) (s : Form) → HasForm p (slice_get types c) → slice_get types c ≡ Some s → p s
type_has types p c s h is = subst (λ (o : Option Form). HasForm p o) is h

module _ (p : Form → Type 0) (s : Form) where
  body_has : (b : Body) → Some b ≡ Some (holds s) → HasBody p b → p s
  body_has b e h = let same : b ≡ holds s = cc in subst (λ (x : Body). HasBody p x) same h

  either : (c : Bool) (b : Body) (o : Option Body) → (if c then Some b else o) ≡ Some (holds s) → HasBody p b → (o ≡ Some (holds s) → p s) → p s
  either true b o e h go = body_has b e h
  either false b o e h go = go e

  case_has : (arms : ArmForms) (tag : ℤ) → with_case arms tag ≡ Some (holds s) → EachArm p arms → p s
  case_has no_arm tag e h = absurd cc
  case_has (then_arm cases default b rest) tag e h = either (list_any (λ c. int_eq c tag) cases) b (with_case rest tag) e h.0 (λ f. case_has rest tag f h.1)

  default_has : (arms : ArmForms) → with_default arms ≡ Some (holds s) → EachArm p arms → p s
  default_has no_arm e h = absurd cc
  default_has (then_arm cases default b rest) e h = either default b (with_default rest) e h.0 (λ f. default_has rest f h.1)

  chosen_has : (arms : ArmForms) (tag : ℤ) (o : Option Body) → with_case arms tag ≡ o → or_default o arms ≡ Some (holds s) → EachArm p arms → p s
  chosen_has arms tag None is e h = default_has arms e h
  chosen_has arms tag (Some b) is e h = case_has arms tag (let same : Some b ≡ Some (holds s) = e in subst (λ (x : Option Body). with_case arms tag ≡ x) same is) h

  fitting_has : (b : Bool) (arms : ArmForms) (tag : ℤ) → (if b then selected arms tag else None) ≡ Some (holds s) → EachArm p arms → p s
  fitting_has true arms tag e h = chosen_has arms tag (with_case arms tag) refl e h
  fitting_has false arms tag e h = absurd cc

  -- what the arm holds that a tag selects
  pub arm_has : (t : Form) (arms : ArmForms) (tag : ℤ) → arm_of (OfUnion t arms) tag ≡ Some (holds s) → EachArm p arms → p s
  arm_has t arms tag e h = fitting_has (fits_tag t tag) arms tag e h
