-- Full pointers in values, and the first to each item.
use Rattle.std.proofs.Common.{◌≡◌, ℕ, suc, Bool, true, false, List, [], ◌∷◌, ◌++◌, length, map, Option, Some, None, refl, ap, sym, subst, ◌∙◌, cond, append_assoc, append-nil, arith, ◌+◌, ◌<◌, ◌≤◌, drop, get_or, add-one, Result, Ok, Err, Vec, Global, ℤ}
use Rattle.std.specs.Prelude.{◌==◌, is_some, if◌then◌else◌}
use Rattle.std.specs.Ordering.{nat_cmp}
use Rattle.std.specs.Map.{lookup}
use Rattle.std.specs.BTreeMap.{BTreeMap, get, is_at, Updates}
use Rattle.std.proofs.lemmas.Grind.{common_steps}
use Rattle.std.specs.Global.{Box}
use Rattle.std.specs.Prelude.{OnOk}
use Rattle.std.proofs.Math.Seq.{drop-cons}
use Rattle.std.proofs.lemmas.List.{drop_all, length-map}
use Rattle.ndr_value.specs.declared.shape.Shape.{Shape}
use Rattle.ndr_value.specs.declared.value.Value.{Value}
use Rattle.ndr_value.specs.declared.value.Value.TheVariants as values
use Rattle.ndr_value.specs.Forms.{Form, Forms, form, forms}
use Rattle.ndr_value.specs.Values.{Val, VStruct, VUnion, VArray, val, vals, bytes}
use Rattle.ndr_value.specs.Fits.{arm_of}
use Rattle.ndr_value.specs.Judged as judged
use Rattle.ndr_value.proofs.Mirror.{val_struct, val_array}
use Rattle.client_texts.specs.declared.aims.Aim.{Aim}
use Rattle.client_texts.specs.Heaps.{Aims, aims, each_aims, all_aims, named, first_aim}
use Rattle.client_texts.specs.Pointers.{aim_of, pointed, HasFirsts}

pub no_aims : (types : List Form) (s : Form) (octets : List ℕ) → all_aims types s (bytes octets) ≡ []
no_aims types s [] = refl
no_aims types s (c ∷ octets) = no_aims types s octets

abbrev or_first : Option Form → Option Form → Option Form
or_first None o = o
or_first (Some s) o = Some s

or_none : (o : Option Form) → or_first o None ≡ o
or_none None = refl
or_none (Some s) = refl

abbrev aimed : ℕ × Form → ℕ → Option Form
aimed a n = if a.0 == n then Some a.1 else None

first_by : (b : Bool) (s : Form) (rest front o : Option Form) → rest ≡ or_first front o → (if b then Some s else rest) ≡ or_first (if b then Some s else front) o
first_by true s rest front o e = refl
first_by false s rest front o e = e

first_with : (before : Aims) (a : ℕ × Form) (n : ℕ) → first_aim (before ++ a ∷ []) n ≡ or_first (first_aim before n) (aimed a n)
first_with [] a n = refl
first_with (b ∷ before) a n = first_by (b.0 == n) b.1 (first_aim (before ++ a ∷ []) n) (first_aim before n) (aimed a n) (first_with before a n)

is_at_is : (id q : ℕ) → is_at (nat_cmp id) q ≡ (id == q)
is_at_is id q = grind (arith, common_steps)

same_number : (a b : ℕ) → (a == b) ≡ true → a ≡ b
same_number a b e = grind (arith)

no_some : (o : Option Aim) → is_some o ≡ false → o ≡ None
no_some None e = refl
no_some (Some a) e = absurd cc

-- where it is the first to its item
noted_by : (b : Bool) (a : Aim) (o : Option Aim) (f : Option Form) → pointed o ≡ f → (b ≡ true → o ≡ None) → pointed (cond b (Some a) o) ≡ or_first f (if b then Some (form a.shape.now) else None)
noted_by true a o f e none =
    let g : f ≡ None = sym e ∙ ap pointed (none refl) in ap (λ (x : Option Form). or_first x (Some (form a.shape.now))) (sym g)
noted_by false a o f e none = e ∙ sym (or_none f)

pub noted : (old new : BTreeMap ℕ Aim) (before : Aims) (a : Aim) (number : ℕ) → number ≡ a.number → is_some (get nat_cmp old number) ≡ false → Updates nat_cmp old new number (Some a) → HasFirsts old before
    → HasFirsts new (before ++ aim_of a ∷ [])
noted old new before a number is none up has = λ n.
    ap pointed (up.0 n ∙ ap (λ (b : Bool). cond b (Some a) (get nat_cmp old n)) (is_at_is number n))
    ∙ (noted_by (number == n) a (get nat_cmp old n) (first_aim before n) (has n) (λ e. ap (get nat_cmp old) (sym (same_number number n e)) ∙ no_some (get nat_cmp old number) none)
    ∙ (ap (λ (k : ℕ). or_first (first_aim before n) (aimed (k, form a.shape.now) n)) is ∙ sym (first_with before (aim_of a) n)))

-- where it isn't
had_by : (b : Bool) (s : Form) (o : Option Aim) (f : Option Form) → pointed o ≡ f → (b ≡ true → is_some o ≡ true) → pointed o ≡ or_first f (if b then Some s else None)
had_by true s None f e has = let h = has refl in absurd cc
had_by true s (Some a) f e has = ap (λ (x : Option Form). or_first x (Some s)) e
had_by false s o f e has = e ∙ sym (or_none f)

pub had : (old : BTreeMap ℕ Aim) (before : Aims) (a : Aim) (number : ℕ) → number ≡ a.number → is_some (get nat_cmp old number) ≡ true → HasFirsts old before → HasFirsts old (before ++ aim_of a ∷ [])
had old before a number is some has = λ n.
    had_by (number == n) (form a.shape.now) (get nat_cmp old n) (first_aim before n) (has n) (λ e. ap (λ (k : ℕ). is_some (get nat_cmp old k)) (sym (same_number number n e)) ∙ some)
    ∙ (ap (λ (k : ℕ). or_first (first_aim before n) (aimed (k, form a.shape.now) n)) is ∙ sym (first_with before (aim_of a) n))

-- ---- many

pub none_noted : (firsts : BTreeMap ℕ Aim) → firsts.entries ≡ [] → HasFirsts firsts []
none_noted firsts none = λ n. ap (λ es. pointed (lookup (is_at (nat_cmp n)) es)) none

pub note_more : (before seen : Aims) (all : List Aim) (at : ℕ) (aim : Aim) → at < length all → aim ≡ get_or all at aim → seen ++ map aim_of (drop at all) ≡ before ++ map aim_of all
    → (seen ++ aim_of aim ∷ []) ++ map aim_of (drop (at + 1) all) ≡ before ++ map aim_of all
note_more before seen all at aim within is e =
    let left : drop at all ≡ aim ∷ drop (at + 1) all = drop-cons all at aim within ∙ (ap (λ (x : Aim). x ∷ drop (suc at) all) (sym is) ∙ ap (λ (n : ℕ). aim ∷ drop n all) (sym (add-one at))) in
    append_assoc seen (aim_of aim ∷ []) (map aim_of (drop (at + 1) all)) ∙ (ap (λ (l : List Aim). seen ++ map aim_of l) (sym left) ∙ e)

pub note_all : (firsts : BTreeMap ℕ Aim) (before seen : Aims) (all : List Aim) (at : ℕ) → length all ≤ at → HasFirsts firsts seen → seen ++ map aim_of (drop at all) ≡ before ++ map aim_of all → HasFirsts firsts (before ++ map aim_of all)
note_all firsts before seen all at past has e =
    let is : seen ≡ before ++ map aim_of all = sym (append-nil seen) ∙ (ap (λ (l : List Aim). seen ++ map aim_of l) (sym (drop_all at all past)) ∙ e) in subst (λ (x : Aims). HasFirsts firsts x) is has

-- ---- those of a value with parts

pub more : {A E : Type 0} (r : Result A E) (new old x y : Aims) → x ≡ y → OnOk r (new ≡ old ++ x) → OnOk r (new ≡ old ++ y)
more (Ok a) new old x y e h = h ∙ ap (λ (l : Aims). old ++ l) e
more (Err f) new old x y e h = tt

module _ (ts : List Shape) (x : Value) (s p : Form) (plain_is : p ≡ judged.plain (map form ts) (length ts) s) where
  named_is : p ≡ named (map form ts) s
  named_is = plain_is ∙ ap (λ (n : ℕ). judged.plain (map form ts) n s) (sym (length-map ts form))

  pub struct_aims : (v : Vec Value Global) (vs : List Value) (ss : List Shape) → x ≡ values.Struct v → vs ≡ v.items → forms ss ≡ judged.members p → each_aims (map form ts) (forms ss) (vals vs) ≡ aims (map form ts) s (val x)
  struct_aims v vs ss x_is vs_is ss_is =
      let val_is : val x ≡ VStruct (vals vs) = ap val x_is ∙ (val_struct v ∙ ap (λ (l : List Value). VStruct (vals l)) (sym vs_is)) in
      ap (λ (f : Forms). each_aims (map form ts) f (vals vs)) (ss_is ∙ ap judged.members named_is) ∙ ap (aims (map form ts) s) (sym val_is)

  pub array_aims : (v : Vec Value Global) (vs : List Value) (t : Form) → x ≡ values.Array v → vs ≡ v.items → t ≡ judged.inner p → all_aims (map form ts) t (vals vs) ≡ aims (map form ts) s (val x)
  array_aims v vs t x_is vs_is t_is =
      let val_is : val x ≡ VArray (vals vs) = ap val x_is ∙ (val_array v ∙ ap (λ (l : List Value). VArray (vals l)) (sym vs_is)) in
      ap (λ (f : Form). all_aims (map form ts) f (vals vs)) (t_is ∙ ap judged.inner named_is) ∙ ap (aims (map form ts) s) (sym val_is)

  pub octets_aims : (octets : List ℕ) (old : Aims) → x ≡ values.Octets octets → old ≡ old ++ aims (map form ts) s (val x)
  octets_aims octets old x_is =
      let none : [] ≡ aims (map form ts) s (val x) = sym (no_aims (map form ts) (judged.inner (named (map form ts) s)) octets) ∙ ap (λ (y : Value). aims (map form ts) s (val y)) (sym x_is) in
      sym (append-nil old) ∙ ap (λ (l : Aims). old ++ l) none

  abbrev in_arm : Form → ℤ → Val → Aims
  in_arm f tag v = if judged.is_held (arm_of f tag) then aims (map form ts) (judged.held (arm_of f tag)) v else []

  pub union_aims : (tag passed : ℤ) (o : Option (Box Value)) (b : Box Value) (v : Value) → passed ≡ tag → x ≡ values.Union tag o → o ≡ Some b → v ≡ b.value → in_arm p passed (val v) ≡ aims (map form ts) s (val x)
  union_aims tag passed o b v same x_is o_is v_is =
      let val_is : val x ≡ VUnion tag (val v) = ap val x_is ∙ (ap (λ (y : Option (Box Value)). val (values.Union tag y)) o_is ∙ ap (λ (y : Value). VUnion tag (val y)) (sym v_is)) in
      ap (λ (f : Form). in_arm f passed (val v)) named_is ∙ (ap (λ (z : ℤ). in_arm (named (map form ts) s) z (val v)) same ∙ ap (aims (map form ts) s) (sym val_is))
