-- In the types and operations of every table names are those of types, and unions have a tag that can be one.
use Rattle.std.proofs.Common.{◌≡◌, ℕ, zero, suc, ℤ, ◌+◌, ◌<◌, ◌≤◌, Bool, true, false, List, [], ◌∷◌, length, Option, Some, None, refl, subst, arith}
use Rattle.std.specs.Prelude.{slice_get, is_some, ◌&&◌, ◌||◌, if◌then◌else◌}
use Rattle.std.specs.List.{list_all}
use Rattle.std.proofs.lemmas.Bool.{ltb-true}
use Rattle.ndr_value.specs.Forms.{Form, OfNamed, OfStruct, OfUnion, OfArray, OfRef, OfUnique, OfFull, OfHandle, Forms, no_form, then_form, Body, empty, holds, ArmForms, no_arm, then_arm}
use Rattle.ndr_value.specs.Fits.{arm_of}
use Rattle.ndr_table.specs.Ordered.{is_below, each_below, arms_below, body_below, is_body, ordered_from}
use Rattle.ndr_table.specs.Sound.{is_tag, has_element, has_member, is_sound, each_sound, arms_sound, body_sound, handle_kind, range_sound, param_sound, result_sound, op_sound}
use Rattle.ndr_table.specs.Tables.{ParamForm, OpForm, param_below, result_below, op_below}
use Rattle.ndr_model.specs.declared.way.Way.{Way}
use Rattle.ndr_model.specs.declared.way.Way.TheVariants.{Request, Response}
use Rattle.ndr_laws.proofs.Grounded.{EachArm, HasBody, arm_has}
use Rattle.ndr_model.specs.Stub.{Entry, of_param, param_entry, goes, last_entry, entries_of, entries}

abbrev pub HasType : List Form → ℕ → Type 0
HasType types c = (s : Form) × (slice_get types c ≡ Some s)

abbrev mutual
  pub Clear : List Form → Form → Type 0
  Clear types (OfNamed c switch) = HasType types c
  Clear types (OfStruct ss) = EachClear types ss
  Clear types (OfUnion t arms) = (is_tag t ≡ true) × ArmsClear types arms
  Clear types (OfArray kind s) = Clear types s
  Clear types (OfRef s) = Clear types s
  Clear types (OfUnique s) = Clear types s
  Clear types (OfFull s) = Clear types s
  Clear types _ = Unit {0}

  pub EachClear : List Form → Forms → Type 0
  EachClear types no_form = Unit {0}
  EachClear types (then_form s ss) = Clear types s × EachClear types ss

  pub ArmsClear : List Form → ArmForms → Type 0
  ArmsClear types no_arm = Unit {0}
  ArmsClear types (then_arm cases default b rest) = BodyClear types b × ArmsClear types rest

  pub BodyClear : List Form → Body → Type 0
  BodyClear types empty = Unit {0}
  BodyClear types (holds s) = Clear types s

abbrev pub AllClear : List Form → Type 0
AllClear types = (c : ℕ) (s : Form) → slice_get types c ≡ Some s → Clear types s

abbrev pub EntriesClear : List Form → List Entry → Type 0
EntriesClear types [] = Unit {0}
EntriesClear types (e ∷ es) = Clear types e.shape × EntriesClear types es

both : (a b : Bool) → (a && b) ≡ true → (a ≡ true) × (b ≡ true)
both true b e = (refl, e)
both false b e = absurd cc

-- what the arm holds that a tag selects
each_clear_arm : (types : List Form) (arms : ArmForms) → ArmsClear types arms → EachArm (Clear types) arms
each_clear_arm types no_arm c = tt
each_clear_arm types (then_arm cases default b rest) c = (held types b c.0, each_clear_arm types rest c.1)
  where
    held : (types : List Form) (b : Body) → BodyClear types b → HasBody (Clear types) b
    held types empty c = tt
    held types (holds s) c = c

pub arm_clear : (types : List Form) (s t : Form) (arms : ArmForms) (tag : ℤ) → arm_of (OfUnion t arms) tag ≡ Some (holds s) → ArmsClear types arms → Clear types s
arm_clear types s t arms tag e c = arm_has (Clear types) s t arms tag e (each_clear_arm types arms c)

get_within : (types : List Form) (c : ℕ) → c < length types → HasType types c
get_within [] c lt = absurd (omega (arith, lt))
get_within (s ∷ ss) zero lt = (s, refl)
get_within (s ∷ ss) (suc c) lt = get_within ss c (omega (arith, lt))

module _ (types : List Form) (far : ℕ) (is_far : far ≡ length types) where
  mutual
    clear : (near : ℕ) (s : Form) → near ≤ far → is_below near far s ≡ true → is_sound s ≡ true → Clear types s
    clear near (OfNamed c switch) le b sd = let lt = ltb-true _ _ b in get_within types c (omega (arith, lt, le, is_far))
    clear near (OfStruct ss) le b sd = each_clear near ss le b (both (has_member ss) (each_sound ss) sd).1
    clear near (OfUnion t arms) le b sd =
        let x = both (is_tag t && is_sound t) (arms_sound arms) sd in
        ((both (is_tag t) (is_sound t) x.0).0, arms_clear near arms le (both (is_below near far t) (arms_below near far arms) b).1 x.1)
    clear near (OfArray kind s) le b sd = clear near s le b (both (has_element kind) (is_sound s) sd).1
    clear near (OfRef s) le b sd = clear far s (omega arith) b sd
    clear near (OfUnique s) le b sd = clear far s (omega arith) b sd
    clear near (OfFull s) le b sd = clear far s (omega arith) b sd
    clear near _ le b sd = tt

    each_clear : (near : ℕ) (ss : Forms) → near ≤ far → each_below near far ss ≡ true → each_sound ss ≡ true → EachClear types ss
    each_clear near no_form le b sd = tt
    each_clear near (then_form s ss) le b sd =
        let x = both (is_below near far s) (each_below near far ss) b in
        let y = both (is_sound s) (each_sound ss) sd in (clear near s le x.0 y.0, each_clear near ss le x.1 y.1)

    arms_clear : (near : ℕ) (arms : ArmForms) → near ≤ far → arms_below near far arms ≡ true → arms_sound arms ≡ true → ArmsClear types arms
    arms_clear near no_arm le b sd = tt
    arms_clear near (then_arm cases default x rest) le b sd =
        let y = both (body_below near far x) (arms_below near far rest) b in
        let z = both (body_sound x) (arms_sound rest) sd in (body_clear near x le y.0 z.0, arms_clear near rest le y.1 z.1)

    body_clear : (near : ℕ) (x : Body) → near ≤ far → body_below near far x ≡ true → body_sound x ≡ true → BodyClear types x
    body_clear near empty le b sd = tt
    body_clear near (holds s) le b sd = clear near s le b sd

  list_clear : (ss : List Form) (near : ℕ) → near + length ss ≤ far → ordered_from near far ss ≡ true → list_all is_sound ss ≡ true → (c : ℕ) (s : Form) → slice_get ss c ≡ Some s → Clear types s
  list_clear [] near le ord sd c s is = absurd cc
  list_clear (u ∷ us) near le ord sd zero s is =
      let a = both (is_body u) (is_below near far u && ordered_from (near + 1) far us) ord in
      let x = both (is_below near far u) (ordered_from (near + 1) far us) a.1 in
      let same : u ≡ s = cc in
      subst (λ (t : Form). Clear types t) same (clear near u (omega (arith, le)) x.0 (both (is_sound u) (list_all is_sound us) sd).0)
  list_clear (u ∷ us) near le ord sd (suc c) s is =
      let a = both (is_body u) (is_below near far u && ordered_from (near + 1) far us) ord in
      let x = both (is_below near far u) (ordered_from (near + 1) far us) a.1 in
      list_clear us (near + 1) (omega (arith, le)) x.1 (both (is_sound u) (list_all is_sound us) sd).1 c s is

  pub types_clear : ordered_from 0 far types ≡ true → list_all is_sound types ≡ true → AllClear types
  types_clear ord sd c s is = list_clear types 0 (omega (arith, is_far)) ord sd c s is

  handle_or : (o : Option ℕ) (s : Form) → handle_kind s ≡ o → (is_some o || is_sound s) ≡ true → is_below far far s ≡ true → Clear types s
  handle_or None s is e b = clear far s (omega arith) b e
  handle_or (Some kind) s is e b = handle s is
    where
      behind : (s : Form) → handle_kind (OfRef s) ≡ Some kind → Clear types s
      behind (OfHandle k) is = tt
      behind _ is = absurd cc

      handle : (s : Form) → handle_kind s ≡ Some kind → Clear types s
      handle (OfHandle k) is = tt
      handle (OfRef s) is = behind s is
      handle _ is = absurd cc

  of_param_clear : (s : Form) → Clear types s → Clear types (of_param s)
  of_param_clear (OfRef s) c = c
  of_param_clear s c = c

  param_clear : (p : ParamForm) → param_below far p ≡ true → param_sound p ≡ true → Clear types (of_param p.shape)
  param_clear p b sd =
      of_param_clear p.shape (handle_or (handle_kind p.shape) p.shape refl (both (is_some (handle_kind p.shape) || is_sound p.shape) (range_sound p.shape p.range) sd).0 b)

  result_clear : (way : Way) (o : Option Form) → result_below far o ≡ true → result_sound o ≡ true → EntriesClear types (last_entry way o)
  result_clear Request o b sd = tt
  result_clear Response None b sd = tt
  result_clear Response (Some s) b sd = (clear far s (omega arith) b sd, tt)

  if_goes : (b : Bool) (e : Entry) (es : List Entry) → Clear types e.shape → EntriesClear types es → EntriesClear types (if b then e ∷ es else es)
  if_goes true e es h hs = (h, hs)
  if_goes false e es h hs = hs

  params_clear : (way : Way) (ps : List ParamForm) (o : Option Form) → list_all (param_below far) ps ≡ true → list_all param_sound ps ≡ true → result_below far o ≡ true → result_sound o ≡ true
      → EntriesClear types (entries_of way ps o)
  params_clear way [] o b sd ob os = result_clear way o ob os
  params_clear way (p ∷ ps) o b sd ob os =
      let x = both (param_below far p) (list_all (param_below far) ps) b in
      let y = both (param_sound p) (list_all param_sound ps) sd in
      if_goes (goes way p) (param_entry p) (entries_of way ps o) (param_clear p x.0 y.0) (params_clear way ps o x.1 y.1 ob os)

  all_get : {A : Type 0} (p : A → Bool) (xs : List A) (k : ℕ) (x : A) → list_all p xs ≡ true → slice_get xs k ≡ Some x → p x ≡ true
  all_get p [] k x e is = absurd cc
  all_get p (y ∷ xs) zero x e is = let same : y ≡ x = cc in subst (λ z. p z ≡ true) same (both (p y) (list_all p xs) e).0
  all_get p (y ∷ xs) (suc k) x e is = all_get p xs k x (both (p y) (list_all p xs) e).1 is

  pub op_clear : (ops : List OpForm) (way : Way) (number : ℕ) (op : OpForm) → list_all (op_below far) ops ≡ true → list_all op_sound ops ≡ true → slice_get ops number ≡ Some op → EntriesClear types (entries way op)
  op_clear ops way number op b sd is =
      let x = both (list_all (param_below far) op.params) (result_below far op.result) (all_get (op_below far) ops number op b is) in
      let y = both (list_all param_sound op.params) (result_sound op.result) (all_get op_sound ops number op sd is) in
      params_clear way op.params op.result x.0 y.0 x.1 y.1
