-- On grounded types one more level compares the same, whatever the values and marks.
use Rattle.std.proofs.Common.{◌≡◌, ℕ, zero, suc, ◌+◌, ◌*◌, ◌≤◌, ℤ, true, List, ◌∷◌, Option, Some, None, refl, ap, ◌∙◌, arith, suc-mul}
use Rattle.std.specs.Prelude.{slice_get, if◌then◌else◌}
use Rattle.ndr_value.specs.declared.shape.Count.{Count}
use Rattle.ndr_value.specs.declared.shape.ArrayKind.{ArrayKind}
use Rattle.ndr_value.specs.Forms.{Form, OfNamed, OfStruct, OfUnion, OfArray, OfRef, OfUnique, OfFull, Forms, no_form, then_form, Body, empty, holds}
use Rattle.ndr_value.specs.Fits.{arm_of}
use Rattle.ndr_value.specs.Values.{Val, VStruct, VUnion, VArray, VPtr, VFull, Vals, no_val, then_val}
use Rattle.ndr_model.specs.declared.mark.Mark.{Mark}
use Rattle.ndr_model.specs.declared.mark.Mark.TheVariants.{Referent}
use Rattle.ndr_model.specs.Named.{Call, nth}
use Rattle.ndr_model.specs.Agree.{Stood, is_plain, stood_last}
use Rattle.ndr_model.specs.Compare.{Check, fronted, compare_counts, compare_tag, compare_each, compare_all, compare_arm, compare_referent, full_in, compare_struct, compare_union, compare_array, compare_unique, compare_full, compare_type, compare}
use Rattle.ndr_laws.proofs.Grounded.{EachForm, HasForm, Shallow, Targets, EachTarget, Grounded, each_arm, arm_has}

module _ (types : List Form) (call : Call) (deep : ℕ) (grounded : Grounded types deep) where
  abbrev Same : ℕ → ℕ → Form → Type 0
  Same n room s = (body : Vals) (link : Option Count) (moved : Option Stood) (v : Val) (c : Check) → compare types call (suc n) room body link moved s v c ≡ compare types call n room body link moved s v c

  abbrev AllSame : ℕ → Type 0
  AllSame n = (room d : ℕ) (s : Form) → Shallow types d s → Targets types deep s → room * (deep + 1) + d ≤ n → Same n room s

  each_same : (n room d : ℕ) → AllSame n → room * (deep + 1) + d ≤ n → (ss : Forms) → EachForm (Shallow types d) ss → EachTarget types deep ss
      → (body : Vals) (moved : Option Stood) (vs : Vals) (c : Check) → compare_each (compare types call (suc n) room) body moved ss vs c ≡ compare_each (compare types call n room) body moved ss vs c
  each_same n room d so le no_form sh tg body moved no_val c = refl
  each_same n room d so le no_form sh tg body moved (then_val v vs) c = refl
  each_same n room d so le (then_form s ss) sh tg body moved no_val c = refl
  each_same n room d so le (then_form s ss) sh tg body moved (then_val v vs) c =
      ap (λ (x : Check). compare_each (compare types call (suc n) room) body moved ss vs x) (so room d s sh.0 tg.0 le body None (stood_last ss moved) v c)
      ∙ each_same n room d so le ss sh.1 tg.1 body moved vs (compare types call n room body None (stood_last ss moved) s v c)

  struct_same : (n room d : ℕ) → AllSame n → room * (deep + 1) + d ≤ n → (ss : Forms) → EachForm (Shallow types d) ss → EachTarget types deep ss
      → (moved : Option Stood) (v : Val) (c : Check) → compare_struct types (compare types call (suc n) room) moved ss v c ≡ compare_struct types (compare types call n room) moved ss v c
  struct_same n room d so le ss sh tg moved (VStruct vs) c = each_same n room d so le ss sh tg vs (fronted types ss moved c).0 vs (fronted types ss moved c).1
  struct_same n room d so le ss sh tg moved _ c = refl

  all_same : (n room : ℕ) (s : Form) → Same n room s → (body : Vals) (vs : Vals) (c : Check) → compare_all (compare types call (suc n) room) body s vs c ≡ compare_all (compare types call n room) body s vs c
  all_same n room s h body no_val c = refl
  all_same n room s h body (then_val v vs) c =
      ap (λ (x : Check). compare_all (compare types call (suc n) room) body s vs x) (h body None None v c) ∙ all_same n room s h body vs (compare types call n room body None None s v c)

  array_same : (n room : ℕ) (s : Form) → Same n room s → (body : Vals) (moved : Option Stood) (kind : ArrayKind) (v : Val) (c : Check)
      → compare_array (compare types call (suc n) room) call body moved kind s v c ≡ compare_array (compare types call n room) call body moved kind s v c
  array_same n room s h body moved kind (VArray vs) c =
      let d = compare_counts call body moved kind c in ap (λ (x : Check). if is_plain s then d else x) (all_same n room s h body vs d)
  array_same n room s h body moved kind _ c = refl

  arm_same : (n room : ℕ) (b : Option Body) → ((s : Form) → b ≡ Some (holds s) → Same n room s) → (v : Val) (c : Check) → compare_arm (compare types call (suc n) room) b v c ≡ compare_arm (compare types call n room) b v c
  arm_same n room None h v c = refl
  arm_same n room (Some empty) h v c = refl
  arm_same n room (Some (holds s)) h v c = h s refl no_val None None v c

  union_same : (n room : ℕ) (u : Form) → ((tag : ℤ) (s : Form) → arm_of u tag ≡ Some (holds s) → Same n room s) → (body : Vals) (link : Option Count) (v : Val) (c : Check)
      → compare_union (compare types call (suc n) room) call body link u v c ≡ compare_union (compare types call n room) call body link u v c
  union_same n room u h body link (VUnion tag v) c = arm_same n room (arm_of u tag) (h tag) v (compare_tag call body link tag c)
  union_same n room u h body link _ c = refl

  type_same : (n room d : ℕ) → AllSame n → room * (deep + 1) + d ≤ n → (o : Option Form) → HasForm (Shallow types d) o → ((s : Form) → o ≡ Some s → Targets types deep s)
      → (body : Vals) (link : Option Count) (moved : Option Stood) (v : Val) (c : Check) → compare_type (compare types call (suc n) room) body link moved o v c ≡ compare_type (compare types call n room) body link moved o v c
  type_same n room d so le None sh tg body link moved v c = refl
  type_same n room d so le (Some s) sh tg body link moved v c = so room d s sh (tg s refl) le body link moved v c

  referent_same : (n room d : ℕ) (s : Form) → AllSame n → room * (deep + 1) + suc d ≤ suc n → Shallow types deep s → Targets types deep s
      → (body : Vals) (o : Option Val) (c : Check) → compare_referent (compare types call (suc n)) room body s o c ≡ compare_referent (compare types call n) room body s o c
  referent_same n zero d s so le sh tg body None c = refl
  referent_same n zero d s so le sh tg body (Some v) c = refl
  referent_same n (suc room) d s so le sh tg body None c = refl
  referent_same n (suc room) d s so le sh tg body (Some v) c = so room deep s sh tg (omega (arith, le, suc-mul room (deep + 1))) body None None v c

  full_same : (n room d : ℕ) (s : Form) → AllSame n → room * (deep + 1) + suc d ≤ suc n → Shallow types deep s → Targets types deep s
      → (body : Vals) (i : ℕ) (ms : List Mark) (c : Check) → full_in (compare types call (suc n)) room call body s i ms c ≡ full_in (compare types call n) room call body s i ms c
  full_same n room d s so le sh tg body i (Referent true ∷ ms) c = referent_same n room d s so le sh tg body (nth call.said.heap i) (record { off = c.off; left = ms })
  full_same n room d s so le sh tg body i _ c = refl

  pointer_same : (n room d : ℕ) (s : Form) → AllSame n → room * (deep + 1) + suc d ≤ suc n → Shallow types deep s → Targets types deep s
      → (body : Vals) (v : Val) (c : Check) → compare_unique (compare types call (suc n)) room body s v c ≡ compare_unique (compare types call n) room body s v c
  pointer_same n room d s so le sh tg body (VPtr v) c = referent_same n room d s so le sh tg body (Some v) c
  pointer_same n room d s so le sh tg body _ c = refl

  alias_same : (n room d : ℕ) (s : Form) → AllSame n → room * (deep + 1) + suc d ≤ suc n → Shallow types deep s → Targets types deep s
      → (body : Vals) (v : Val) (c : Check) → compare_full (compare types call (suc n)) room call body s v c ≡ compare_full (compare types call n) room call body s v c
  alias_same n room d s so le sh tg body (VFull (Some i)) c = full_same n room d s so le sh tg body i c.left c
  alias_same n room d s so le sh tg body _ c = refl

  one_same : (n room d : ℕ) → AllSame n → (s : Form) → Shallow types (suc d) s → Targets types deep s → room * (deep + 1) + suc d ≤ suc n → Same (suc n) room s
  unfolding compare
  one_same n room d so (OfNamed k switch) sh tg le = λ body link moved v c. type_same n room d so (omega (arith, le)) (slice_get types k) sh (grounded k) body switch moved v c
  one_same n room d so (OfStruct ss) sh tg le = λ body link moved v c. struct_same n room d so (omega (arith, le)) ss sh tg moved v c
  one_same n room d so (OfUnion t arms) sh tg le =
      λ body link moved v c. union_same n room (OfUnion t arms)
      (λ tag s e. so room d s (arm_has (Shallow types d) s t arms tag e sh) (arm_has (Targets types deep) s t arms tag e (each_arm types deep arms tg)) (omega (arith, le))) body link v c
  one_same n room d so (OfArray kind s) sh tg le = λ body link moved v c. array_same n room s (so room d s sh tg (omega (arith, le))) body moved kind v c
  one_same n room d so (OfRef s) sh tg le = λ body link moved v c. referent_same n room d s so le tg.0 tg.1 body (Some v) c
  one_same n room d so (OfUnique s) sh tg le = λ body link moved v c. pointer_same n room d s so le tg.0 tg.1 body v c
  one_same n room d so (OfFull s) sh tg le = λ body link moved v c. alias_same n room d s so le tg.0 tg.1 body v c
  one_same n room d so _ sh tg le = λ body link moved v c. refl

  pub same : (n room d : ℕ) (s : Form) → Shallow types d s → Targets types deep s → room * (deep + 1) + d ≤ n → Same n room s
  same n room zero s sh tg le = absurd sh
  same zero room (suc d) s sh tg le = absurd (omega (arith, le))
  same (suc n) room (suc d) s sh tg le = one_same n room d (same n) s sh tg le
