-- Walks over shapes and values.
use Rattle.std.proofs.Common.{◌≡◌, ℕ, zero, suc, ◌-◌, List, [], ◌∷◌, ◌++◌, map, Result, Ok, Err, refl, ap, sym, Vec, Global, arith}
use Rattle.std.specs.Prelude.{OnOk}
use Rattle.std.proofs.lemmas.List.{map-append}
use Rattle.std.proofs.lemmas.Grind.{common_steps}
use Rattle.std.specs.Global.{Box}
use Rattle.ndr_value.specs.declared.shape.Arm.{Arm}
use Rattle.ndr_value.specs.declared.shape.Shape.{Shape}
use Rattle.ndr_value.specs.declared.shape.Shape.TheVariants as shapes
use Rattle.ndr_value.specs.declared.value.Value.{Value}
use Rattle.ndr_value.specs.declared.value.Value.TheVariants as values
use Rattle.ndr_value.specs.Forms.{Form, form}
use Rattle.ndr_value.specs.Values.{Val, Vals, val}
use Rattle.ndr_value.proofs.Mirror.{form_struct, form_union, val_struct, val_array}
use Rattle.echo_manager.specs.declared.lead.Lead.{Lead}
use Rattle.echo_manager.specs.Met as met
use Rattle.echo_manager.specs.Views.{lead_of}

pub one_lead : (ls : List Lead) (l : Lead) → map lead_of (ls ++ l ∷ []) ≡ map lead_of ls ++ lead_of l ∷ []
one_lead ls l = map-append lead_of ls (l ∷ [])

pub ruleset leads = (one_lead, common_steps)

pub ruleset flats = (form_struct, form_union, val_struct, val_array, common_steps)

pub then_so : {A E : Type 0} {P Q : Type 0} (r : Result A E) → (P → Q) → OnOk r P → OnOk r Q
then_so (Ok x) f h = f h
then_so (Err e) f h = tt

module _ (types : List Form) where
  pub flat_step : (n : ℕ) (s : Form) (v : Val) (f : met.Flat) → (n ≡ 0 → ⊥) → met.flat types n s v f ≡ met.flat_at types (met.flat types (n - 1)) s v f
  unfolding met.flat
  flat_step zero s v f h = absurd (h refl)
  flat_step (suc n) s v f h = let e : suc n - 1 ≡ n = omega arith in rw e refl

  pub flat_none : (n : ℕ) (s : Form) (v : Val) (f : met.Flat) → n ≡ 0 → met.flat types n s v f ≡ f
  unfolding met.flat
  flat_none zero s v f e = refl
  flat_none (suc n) s v f e = absurd (omega (arith, e))

  pub whole_step : (heap : Vals) (n : ℕ) (l : met.Lead) (ms : List ℕ) → (n ≡ 0 → ⊥) → met.whole types heap n l ms ≡ met.whole_lead types heap (met.whole types heap (n - 1)) l ms
  unfolding met.whole
  whole_step heap zero l ms h = absurd (h refl)
  whole_step heap (suc n) l ms h = let e : suc n - 1 ≡ n = omega arith in rw e refl

  pub whole_none : (heap : Vals) (n : ℕ) (l : met.Lead) (ms : List ℕ) → n ≡ 0 → met.whole types heap n l ms ≡ ms
  unfolding met.whole
  whole_none heap zero l ms e = refl
  whole_none heap (suc n) l ms e = absurd (omega (arith, e))

pub ruleset wholes = (whole_none, common_steps)
