-- Shapes that are the same but for what names the tags of unions in them: they have the same values, and their values the same full pointers.
use Rattle.std.proofs.Common.{◌≡◌, ℕ, zero, suc, Bool, true, false, List, [], ◌∷◌, ◌++◌, length, Option, Some, None, ℤ, refl, sym, ap, subst, ◌∙◌}
use Rattle.std.specs.Prelude.{slice_get, if◌then◌else◌}
use Rattle.std.specs.List.{list_any}
use Rattle.std.specs.Ordering.{int_eq}
use Rattle.ndr_value.specs.declared.shape.Count.{Count}
use Rattle.ndr_value.specs.Forms.{Form, OfBool, OfByte, OfChar, OfInt, OfUint, OfEnum, OfNamed, OfStruct, OfUnion, OfArray, OfText, OfRef, OfUnique, OfFull, OfHandle, Forms, no_form, then_form, Body, empty, holds, ArmForms, no_arm, then_arm, bare, bare_forms, bare_body, bare_arms}
use Rattle.ndr_value.specs.Values.{Val, VBool, VByte, VChar, VInt, VUint, VEnum, VStruct, VEmpty, VUnion, VArray, VText, VNull, VPtr, VFull, VHandle, Vals, no_val, then_val}
use Rattle.ndr_value.specs.Fits.{fits_tag, with_case, with_default, or_default, selected, arm_of}
use Rattle.ndr_value.specs.Judged.{behind_refs, or_else, plain, members, inner, is_held, held}
use Rattle.ndr_value.specs.Judged as judged
use Rattle.ndr_value.specs.Typed.{Typed, EachTyped, AllTyped, a_bool, a_byte, a_char, an_int, a_uint, an_enum, a_name, a_struct, an_empty_arm, an_arm, an_array, a_text, a_ref, a_null, a_pointer, a_null_full, a_full, a_handle, no_more, one_more, none_left, one_of}
use Rattle.client_texts.specs.Heaps.{Aims, named, aims, each_aims, all_aims}

-- ---- bare shapes

mutual
  twice : (s : Form) → bare (bare s) ≡ bare s
  twice (OfNamed c switch) = refl
  twice (OfStruct ss) = ap OfStruct (twice_each ss)
  twice (OfUnion t arms) = ap (λ (x : Form). OfUnion x (bare_arms (bare_arms arms))) (twice t) ∙ ap (λ (x : ArmForms). OfUnion (bare t) x) (twice_arms arms)
  twice (OfArray kind s) = ap (λ (x : Form). OfArray kind x) (twice s)
  twice (OfRef s) = ap OfRef (twice s)
  twice (OfUnique s) = ap OfUnique (twice s)
  twice (OfFull s) = ap OfFull (twice s)
  twice _ = refl

  twice_each : (ss : Forms) → bare_forms (bare_forms ss) ≡ bare_forms ss
  twice_each no_form = refl
  twice_each (then_form s ss) = ap (λ (x : Form). then_form x (bare_forms (bare_forms ss))) (twice s) ∙ ap (λ (x : Forms). then_form (bare s) x) (twice_each ss)

  twice_body : (b : Body) → bare_body (bare_body b) ≡ bare_body b
  twice_body empty = refl
  twice_body (holds s) = ap holds (twice s)

  twice_arms : (arms : ArmForms) → bare_arms (bare_arms arms) ≡ bare_arms arms
  twice_arms no_arm = refl
  twice_arms (then_arm cases default b rest) = ap (λ (x : Body). then_arm cases default x (bare_arms (bare_arms rest))) (twice_body b) ∙ ap (λ (x : ArmForms). then_arm cases default (bare_body b) x) (twice_arms rest)

abbrev bare_of : Option Body → Option Body
bare_of None = None
bare_of (Some b) = Some (bare_body b)

tag_bare : (t : Form) (z : ℤ) → fits_tag (bare t) z ≡ fits_tag t z
tag_bare OfBool z = refl
tag_bare OfChar z = refl
tag_bare (OfInt size) z = refl
tag_bare (OfUint size) z = refl
tag_bare (OfEnum count) z = refl
tag_bare _ z = refl

some_bare : (c : Bool) (b : Body) (x y : Option Body) → x ≡ bare_of y → (if c then Some (bare_body b) else x) ≡ bare_of (if c then Some b else y)
some_bare true b x y e = refl
some_bare false b x y e = e

case_bare : (arms : ArmForms) (z : ℤ) → with_case (bare_arms arms) z ≡ bare_of (with_case arms z)
case_bare no_arm z = refl
case_bare (then_arm cases default b rest) z = some_bare (list_any (λ c. int_eq c z) cases) b (with_case (bare_arms rest) z) (with_case rest z) (case_bare rest z)

default_bare : (arms : ArmForms) → with_default (bare_arms arms) ≡ bare_of (with_default arms)
default_bare no_arm = refl
default_bare (then_arm cases default b rest) = some_bare default b (with_default (bare_arms rest)) (with_default rest) (default_bare rest)

or_bare : (o : Option Body) (arms : ArmForms) → or_default (bare_of o) (bare_arms arms) ≡ bare_of (or_default o arms)
or_bare None arms = default_bare arms
or_bare (Some b) arms = refl

selected_bare : (arms : ArmForms) (z : ℤ) → selected (bare_arms arms) z ≡ bare_of (selected arms z)
selected_bare arms z = ap (λ (o : Option Body). or_default o (bare_arms arms)) (case_bare arms z) ∙ or_bare (with_case arms z) arms

if_bare : (c : Bool) (x y : Option Body) → x ≡ bare_of y → (if c then x else None) ≡ bare_of (if c then y else None)
if_bare true x y e = e
if_bare false x y e = refl

union_bare : (t : Form) (arms : ArmForms) (z : ℤ) → arm_of (OfUnion (bare t) (bare_arms arms)) z ≡ bare_of (arm_of (OfUnion t arms) z)
union_bare t arms z = ap (λ (b : Bool). if b then selected (bare_arms arms) z else None) (tag_bare t z) ∙ if_bare (fits_tag t z) (selected (bare_arms arms) z) (selected arms z) (selected_bare arms z)

arm_bare : (p : Form) (z : ℤ) → arm_of (bare p) z ≡ bare_of (arm_of p z)
arm_bare (OfUnion t arms) z = union_bare t arms z
arm_bare _ z = refl

-- ---- values

module _ (types : List Form) (heap : ℕ) where
  mutual
    to_bare : {level : ℕ} {s : Form} {v : Val} → Typed types heap level s v → Typed types heap level (bare s) v
    to_bare a_bool = a_bool
    to_bare a_byte = a_byte
    to_bare a_char = a_char
    to_bare (an_int e) = an_int e
    to_bare (a_uint e) = a_uint e
    to_bare (an_enum e) = an_enum e
    to_bare (a_name e t) = a_name e t
    to_bare (a_struct ts) = a_struct (to_each ts)
    to_bare (an_empty_arm {t = t} {arms = arms} {tag = tag} e) = an_empty_arm (union_bare t arms tag ∙ ap bare_of e)
    to_bare (an_arm {t = t} {arms = arms} {tag = tag} e x) = an_arm (union_bare t arms tag ∙ ap bare_of e) (to_bare x)
    to_bare (an_array e ts) = an_array e (to_all ts)
    to_bare (a_text e f) = a_text e f
    to_bare (a_ref t) = a_ref (to_bare t)
    to_bare a_null = a_null
    to_bare (a_pointer e t) = a_pointer e (to_bare t)
    to_bare a_null_full = a_null_full
    to_bare (a_full e) = a_full e
    to_bare a_handle = a_handle

    to_each : {level : ℕ} {ss : Forms} {vs : Vals} → EachTyped types heap level ss vs → EachTyped types heap level (bare_forms ss) vs
    to_each no_more = no_more
    to_each (one_more t ts) = one_more (to_bare t) (to_each ts)

    to_all : {level : ℕ} {s : Form} {vs : Vals} → AllTyped types heap level s vs → AllTyped types heap level (bare s) vs
    to_all none_left = none_left
    to_all (one_of t ts) = one_of (to_bare t) (to_all ts)

  abbrev Back : Form → Type 0
  Back s = (level : ℕ) (v : Val) → Typed types heap level (bare s) v → Typed types heap level s v

  abbrev BackBody : Body → Type 0
  BackBody empty = Unit {0}
  BackBody (holds s) = Back s

  empty_is : (o : Option Body) → Some empty ≡ bare_of o → o ≡ Some empty
  empty_is None e = absurd cc
  empty_is (Some empty) e = refl
  empty_is (Some (holds s)) e = absurd cc

  all_from : (s : Form) → Back s → (level : ℕ) (vs : Vals) → AllTyped types heap level (bare s) vs → AllTyped types heap level s vs
  all_from s go level no_val none_left = none_left
  all_from s go level (then_val v vs) (one_of t ts) = one_of (go level v t) (all_from s go level vs ts)

  abbrev BackArm : Option Body → Type 0
  BackArm None = Unit {0}
  BackArm (Some b) = BackBody b

  arm_back : (t : Form) (arms : ArmForms) (tag : ℤ) (level : ℕ) (s : Form) (v : Val) (o : Option Body) → arm_of (OfUnion t arms) tag ≡ o → Some (holds s) ≡ bare_of o → BackArm o → Typed types heap level s v → Typed types heap level (OfUnion t arms) (VUnion tag v)
  arm_back t arms tag level s v None is e go x = absurd cc
  arm_back t arms tag level s v (Some empty) is e go x = absurd cc
  arm_back t arms tag level s v (Some (holds u)) is e go x = let same : s ≡ bare u = cc in an_arm is (go level v (subst (λ (y : Form). Typed types heap level y v) same x))

  if_arm : (c : Bool) (b : Body) (o : Option Body) → BackBody b → BackArm o → BackArm (if c then Some b else o)
  if_arm true b o x y = x
  if_arm false b o x y = y

  or_arm : (o : Option Body) (arms : ArmForms) → BackArm o → BackArm (with_default arms) → BackArm (or_default o arms)
  or_arm None arms x y = y
  or_arm (Some b) arms x y = x

  none_arm : (c : Bool) (o : Option Body) → BackArm o → BackArm (if c then o else None)
  none_arm true o x = x
  none_arm false o x = tt

  mutual
    from_bare : (s : Form) → Back s
    from_bare (OfNamed c switch) level v (a_name e t) = a_name e t
    from_bare (OfStruct ss) level _ (a_struct {vs = vs} ts) = a_struct (from_each ss level vs ts)
    from_bare (OfUnion t arms) level _ (an_empty_arm {tag = tag} e) = an_empty_arm (empty_is (arm_of (OfUnion t arms) tag) (sym e ∙ union_bare t arms tag))
    from_bare (OfUnion t arms) level _ (an_arm {s = s} {tag = tag} {v = v} e x) =
        arm_back t arms tag level s v (arm_of (OfUnion t arms) tag) refl (sym e ∙ union_bare t arms tag)
        (none_arm (fits_tag t tag) (selected arms tag) (or_arm (with_case arms tag) arms (from_cases arms tag) (from_default arms))) x
    from_bare (OfArray kind s) level _ (an_array {vs = vs} e ts) = an_array e (all_from s (from_bare s) level vs ts)
    from_bare (OfRef s) level v (a_ref t) = a_ref (from_bare s level v t)
    from_bare (OfUnique s) level _ a_null = a_null
    from_bare (OfUnique s) level _ (a_pointer {v = v} e t) = a_pointer e (from_bare s (suc level) v t)
    from_bare (OfFull s) level _ a_null_full = a_null_full
    from_bare (OfFull s) level _ (a_full e) = a_full e
    from_bare OfBool level v t = t
    from_bare OfByte level v t = t
    from_bare OfChar level v t = t
    from_bare (OfInt size) level v t = t
    from_bare (OfUint size) level v t = t
    from_bare (OfEnum count) level v t = t
    from_bare (OfText most) level v t = t
    from_bare (OfHandle kind) level v t = t

    from_each : (ss : Forms) (level : ℕ) (vs : Vals) → EachTyped types heap level (bare_forms ss) vs → EachTyped types heap level ss vs
    from_each no_form level no_val no_more = no_more
    from_each no_form level (then_val v vs) x = elim x [ ]
    from_each (then_form s ss) level no_val x = elim x [ ]
    from_each (then_form s ss) level (then_val v vs) (one_more t ts) = one_more (from_bare s level v t) (from_each ss level vs ts)

    from_body : (b : Body) → BackBody b
    from_body empty = tt
    from_body (holds s) = from_bare s

    from_cases : (arms : ArmForms) (tag : ℤ) → BackArm (with_case arms tag)
    from_cases no_arm tag = tt
    from_cases (then_arm cases default b rest) tag = if_arm (list_any (λ c. int_eq c tag) cases) b (with_case rest tag) (from_body b) (from_cases rest tag)

    from_default : (arms : ArmForms) → BackArm (with_default arms)
    from_default no_arm = tt
    from_default (then_arm cases default b rest) = if_arm default b (with_default rest) (from_body b) (from_default rest)

  pub same_typed : (s t : Form) (level : ℕ) (v : Val) → bare s ≡ bare t → Typed types heap level s v → Typed types heap level t v
  same_typed s t level v e x = from_bare t level v (subst (λ (y : Form). Typed types heap level y v) e (to_bare x))

-- ---- full pointers

refs_bare : (s : Form) → behind_refs (bare s) ≡ bare (behind_refs s)
refs_bare (OfRef s) = refs_bare s
refs_bare _ = refl

members_bare : (p : Form) → members (bare p) ≡ bare_forms (members p)
members_bare (OfStruct ss) = refl
members_bare _ = refl

inner_bare : (p : Form) → inner (bare p) ≡ bare (inner p)
inner_bare (OfArray kind s) = refl
inner_bare (OfUnique s) = refl
inner_bare (OfFull s) = refl
inner_bare _ = refl

abbrev pub bare_aims : Aims → Aims
bare_aims [] = []
bare_aims (a ∷ more) = (a.0, bare a.1) ∷ bare_aims more

joined : (a b : Aims) → bare_aims (a ++ b) ≡ bare_aims a ++ bare_aims b
joined [] b = refl
joined (x ∷ a) b = ap (λ (y : Aims). (x.0, bare x.1) ∷ y) (joined a b)

both : (a b c d : Aims) → bare_aims a ≡ bare_aims b → bare_aims c ≡ bare_aims d → bare_aims (a ++ c) ≡ bare_aims (b ++ d)
both a b c d e f = joined a c ∙ (ap (λ (x : Aims). x ++ bare_aims c) e ∙ (ap (λ (x : Aims). bare_aims b ++ x) f ∙ sym (joined b d)))

module _ (types : List Form) where
  found_bare : (c : ℕ) (switch : Option Count) (o : Option Form) (go : Form → Form) → bare (or_else o (OfNamed c None) go) ≡ bare (or_else o (OfNamed c switch) go)
  found_bare c switch None go = refl
  found_bare c switch (Some u) go = refl

  name_bare : (r : Form) (go : Form → Form) → bare (or_else (judged.named types (bare r)) (bare r) go) ≡ bare (or_else (judged.named types r) r go)
  name_bare (OfNamed c switch) go = found_bare c switch (slice_get types c) go
  name_bare (OfStruct ss) go = twice (OfStruct ss)
  name_bare (OfUnion t arms) go = twice (OfUnion t arms)
  name_bare (OfArray kind s) go = twice (OfArray kind s)
  name_bare (OfRef s) go = twice (OfRef s)
  name_bare (OfUnique s) go = twice (OfUnique s)
  name_bare (OfFull s) go = twice (OfFull s)
  name_bare _ go = refl

  plain_bare : (n : ℕ) (s : Form) → bare (plain types n (bare s)) ≡ bare (plain types n s)
  plain_bare zero s = ap bare (refs_bare s) ∙ twice (behind_refs s)
  plain_bare (suc n) s = ap (λ (r : Form). bare (or_else (judged.named types r) r (λ t. plain types n t))) (refs_bare s) ∙ name_bare (behind_refs s) (λ t. plain types n t)

  named_same : (s t : Form) → bare s ≡ bare t → bare (named types s) ≡ bare (named types t)
  named_same s t e = sym (plain_bare (length types) s) ∙ (ap (λ (x : Form). bare (plain types (length types) x)) e ∙ plain_bare (length types) t)

  abbrev SameAims : Val → Type 0
  SameAims v = (s t : Form) → bare s ≡ bare t → bare_aims (aims types s v) ≡ bare_aims (aims types t v)

  arm_same : (v : Val) → SameAims v → (o u : Option Body) → bare_of o ≡ bare_of u → bare_aims (if is_held o then aims types (held o) v else []) ≡ bare_aims (if is_held u then aims types (held u) v else [])
  arm_same v go None None e = refl
  arm_same v go None (Some b) e = absurd cc
  arm_same v go (Some b) None e = absurd cc
  arm_same v go (Some empty) (Some empty) e = refl
  arm_same v go (Some empty) (Some (holds t)) e = absurd cc
  arm_same v go (Some (holds s)) (Some empty) e = absurd cc
  arm_same v go (Some (holds s)) (Some (holds t)) e = let same : bare s ≡ bare t = cc in go s t same

  inner_same : (s t : Form) → bare s ≡ bare t → bare (inner (named types s)) ≡ bare (inner (named types t))
  inner_same s t e = sym (inner_bare (named types s)) ∙ (ap inner (named_same s t e) ∙ inner_bare (named types t))

  mutual
    pub aims_same : (v : Val) → SameAims v
    aims_same (VStruct vs) s t e = each_same vs (members (named types s)) (members (named types t)) (sym (members_bare (named types s)) ∙ (ap members (named_same s t e) ∙ members_bare (named types t)))
    aims_same (VUnion tag v) s t e =
        arm_same v (aims_same v) (arm_of (named types s) tag) (arm_of (named types t) tag)
        (sym (arm_bare (named types s) tag) ∙ (ap (λ (p : Form). arm_of p tag) (named_same s t e) ∙ arm_bare (named types t) tag))
    aims_same (VArray vs) s t e = all_same vs (inner (named types s)) (inner (named types t)) (inner_same s t e)
    aims_same (VPtr v) s t e = aims_same v (inner (named types s)) (inner (named types t)) (inner_same s t e)
    aims_same (VFull None) s t e = refl
    aims_same (VFull (Some n)) s t e = ap (λ (x : Form). (n, x) ∷ []) (inner_same s t e)
    aims_same (VBool b) s t e = refl
    aims_same (VByte n) s t e = refl
    aims_same (VChar n) s t e = refl
    aims_same (VInt z) s t e = refl
    aims_same (VUint n) s t e = refl
    aims_same (VEnum n) s t e = refl
    aims_same (VEmpty tag) s t e = refl
    aims_same (VText text) s t e = refl
    aims_same VNull s t e = refl
    aims_same (VHandle k) s t e = refl

    each_same : (vs : Vals) (ss ts : Forms) → bare_forms ss ≡ bare_forms ts → bare_aims (each_aims types ss vs) ≡ bare_aims (each_aims types ts vs)
    each_same vs no_form no_form e = refl
    each_same vs no_form (then_form t ts) e = absurd cc
    each_same vs (then_form s ss) no_form e = absurd cc
    each_same no_val (then_form s ss) (then_form t ts) e = refl
    each_same (then_val v vs) (then_form s ss) (then_form t ts) e =
        let h : bare s ≡ bare t = cc in
        let l : bare_forms ss ≡ bare_forms ts = cc in
        both (aims types s v) (aims types t v) (each_aims types ss vs) (each_aims types ts vs) (aims_same v s t h) (each_same vs ss ts l)

    all_same : (vs : Vals) (s t : Form) → bare s ≡ bare t → bare_aims (all_aims types s vs) ≡ bare_aims (all_aims types t vs)
    all_same no_val s t e = refl
    all_same (then_val v vs) s t e = both (aims types s v) (aims types t v) (all_aims types s vs) (all_aims types t vs) (aims_same v s t e) (all_same vs s t e)
