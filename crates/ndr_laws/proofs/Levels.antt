-- The types and operations of every table are grounded: between a pointer and the next stand less than 1024 constructs and names.
use Rattle.std.proofs.Common.{◌≡◌, ℕ, zero, suc, ◌+◌, ◌-◌, ◌<◌, ◌≤◌, Bool, true, false, List, [], ◌∷◌, ◌++◌, length, length-append, Option, Some, None, refl, sym, ap, subst, ◌∙◌, arith, inl, inr, ◌⊎◌}
use Rattle.std.specs.Prelude.{slice_get, unwrap_or, ◌&&◌, if◌then◌else◌}
use Rattle.std.specs.List.{list_all}
use Rattle.std.proofs.lemmas.Bool.{ltb-true, leb-true, cases_lt}
use Rattle.std.proofs.lemmas.Option.{slice_get_within}
use Rattle.ndr_value.specs.declared.shape.Count.{Count}
use Rattle.ndr_value.specs.Forms.{Form, OfBool, OfByte, OfChar, OfInt, OfUint, OfEnum, OfNamed, OfStruct, OfUnion, OfArray, OfText, OfRef, OfUnique, OfFull, OfHandle, Forms, no_form, then_form, Body, empty, holds, ArmForms, no_arm, then_arm}
use Rattle.ndr_table.specs.Ordered.{is_below, each_below, arms_below, body_below, is_body, ordered_from}
use Rattle.ndr_table.specs.Nested.{levels, members_levels, arms_levels, body_levels, depths_past, depths_of, is_few, reaches_few, param_few, result_few, op_few}
use Rattle.ndr_table.specs.Tables.{ParamForm, OpForm, param_below, result_below, op_below}
use Rattle.ndr_model.specs.declared.way.Way.{Way}
use Rattle.ndr_model.specs.declared.way.Way.TheVariants.{Request, Response}
use Rattle.ndr_model.specs.Stub.{Entry, of_param, param_entry, goes, last_entry, entries_of, entries}
use Rattle.ndr_laws.proofs.Grounded.{EachForm, EachArm, HasForm, HasBody, Shallow, shallow_at, Targets, EachTarget, ArmTargets, BodyTarget, Grounded, EachEntry}

-- ---- deeper is weaker

module _ (p q : Form → Type 0) (go : (s : Form) → p s → q s) where
  each_on : (ss : Forms) → EachForm p ss → EachForm q ss
  each_on no_form h = tt
  each_on (then_form s ss) h = (go s h.0, each_on ss h.1)

  body_on : (b : Body) → HasBody p b → HasBody q b
  body_on empty h = tt
  body_on (holds s) h = go s h

  arms_on : (arms : ArmForms) → EachArm p arms → EachArm q arms
  arms_on no_arm h = tt
  arms_on (then_arm cases default b rest) h = (body_on b h.0, arms_on rest h.1)

  type_on : (o : Option Form) → HasForm p o → HasForm q o
  type_on None h = tt
  type_on (Some s) h = go s h

  shape_on : (types : List Form) (s : Form) → shallow_at types p s → shallow_at types q s
  shape_on types (OfNamed c switch) h = type_on (slice_get types c) h
  shape_on types (OfStruct ss) h = each_on ss h
  shape_on types (OfUnion t arms) h = arms_on arms h
  shape_on types (OfArray kind s) h = go s h
  shape_on types _ h = tt

deeper : (types : List Form) (d : ℕ) (s : Form) → Shallow types d s → Shallow types (suc d) s
deeper types zero s h = absurd h
deeper types (suc d) s h = shape_on (Shallow types d) (Shallow types (suc d)) (deeper types d) types s h

abbrev pub plus : ℕ → ℕ → ℕ
plus d zero = d
plus d (suc k) = suc (plus d k)

pub plus_is : (d k : ℕ) → plus d k ≡ d + k
plus_is d zero = omega arith
plus_is d (suc k) = omega (arith, plus_is d k)

much_deeper : (types : List Form) (d k : ℕ) (s : Form) → Shallow types d s → Shallow types (plus d k) s
much_deeper types d zero s h = h
much_deeper types d (suc k) s h = deeper types (plus d k) s (much_deeper types d k s h)

pub weaker : (types : List Form) (d e : ℕ) (s : Form) → d ≤ e → Shallow types d s → Shallow types e s
weaker types d e s le h =
    let same : plus d (e - d) ≡ e = omega (arith, plus_is d (e - d), le) in
    subst (λ (x : ℕ). Shallow types x s) same (much_deeper types d (e - d) s h)

-- ---- shapes by their levels

both : (a b : Bool) → (a && b) ≡ true → (a ≡ true) × (b ≡ true)
both true b e = (refl, e)
both false b e = absurd cc

-- names cost what g says, and each level one more at least
module _ (types : List Form) (near far : ℕ) (ds : List ℕ) (g : ℕ → ℕ)
    (names : (c n : ℕ) (switch : Option Count) → c < near → unwrap_or (slice_get ds c) 0 ≤ n → Shallow types (g n) (OfNamed c switch))
    (level : (m : ℕ) (s : Form) → Shallow types (suc (g m)) s → Shallow types (g (suc m)) s)
    (some : (n : ℕ) → (k : ℕ) × (g n ≡ suc k)) where
  leaf : (s : Form) (n : ℕ) → ((k : ℕ) → Shallow types (suc k) s) → Shallow types (g n) s
  leaf s n h = let k = some n in subst (λ (x : ℕ). Shallow types x s) (sym k.1) (h k.0)

  mutual
    pub shape : (s : Form) (n : ℕ) → is_below near far s ≡ true → levels ds s ≤ n → Shallow types (g n) s
    shape OfBool n b le = leaf OfBool n (λ k. tt)
    shape OfByte n b le = leaf OfByte n (λ k. tt)
    shape OfChar n b le = leaf OfChar n (λ k. tt)
    shape (OfInt size) n b le = leaf (OfInt size) n (λ k. tt)
    shape (OfUint size) n b le = leaf (OfUint size) n (λ k. tt)
    shape (OfEnum count) n b le = leaf (OfEnum count) n (λ k. tt)
    shape (OfNamed c switch) n b le = names c n switch (ltb-true _ _ b) le
    shape (OfStruct ss) zero b le = absurd (omega (arith, le))
    shape (OfStruct ss) (suc m) b le = level m (OfStruct ss) (members ss m b (omega (arith, le)))
    shape (OfUnion t arms) zero b le = absurd (omega (arith, le))
    shape (OfUnion t arms) (suc m) b le = level m (OfUnion t arms) (in_arms arms m (both (is_below near far t) (arms_below near far arms) b).1 (omega (arith, le)))
    shape (OfArray kind s) zero b le = absurd (omega (arith, le))
    shape (OfArray kind s) (suc m) b le = level m (OfArray kind s) (shape s m b (omega (arith, le)))
    shape (OfText size) n b le = leaf (OfText size) n (λ k. tt)
    shape (OfRef s) n b le = leaf (OfRef s) n (λ k. tt)
    shape (OfUnique s) n b le = leaf (OfUnique s) n (λ k. tt)
    shape (OfFull s) n b le = leaf (OfFull s) n (λ k. tt)
    shape (OfHandle kind) n b le = leaf (OfHandle kind) n (λ k. tt)

    members : (ss : Forms) (m : ℕ) → each_below near far ss ≡ true → members_levels ds ss ≤ m → EachForm (Shallow types (g m)) ss
    members no_form m b le = tt
    members (then_form s ss) m b le =
        let h = both (is_below near far s) (each_below near far ss) b in (shape s m h.0 (omega (arith, le)), members ss m h.1 (omega (arith, le)))

    in_arms : (arms : ArmForms) (m : ℕ) → arms_below near far arms ≡ true → arms_levels ds arms ≤ m → EachArm (Shallow types (g m)) arms
    in_arms no_arm m b le = tt
    in_arms (then_arm cases default x rest) m b le =
        let h = both (body_below near far x) (arms_below near far rest) b in (in_body x m h.0 (omega (arith, le)), in_arms rest m h.1 (omega (arith, le)))

    in_body : (x : Body) (m : ℕ) → body_below near far x ≡ true → body_levels ds x ≤ m → HasBody (Shallow types (g m)) x
    in_body empty m b le = tt
    in_body (holds s) m b le = shape s m b le

  pub whole_body : (s : Form) (m : ℕ) → is_body s ≡ true → is_below near far s ≡ true → levels ds s ≤ suc m → Shallow types (suc (g m)) s
  whole_body (OfStruct ss) m is b le = members ss m b (omega (arith, le))
  whole_body (OfUnion t arms) m is b le = in_arms arms m (both (is_below near far t) (arms_below near far arms) b).1 (omega (arith, le))
  whole_body _ m is b le = absurd cc

-- a structure or union has a level at least
body_level : (ds : List ℕ) (s : Form) → is_body s ≡ true → levels ds s ≤ 0 → ⊥
body_level ds (OfStruct ss) is le = omega (arith, le)
body_level ds (OfUnion t arms) is le = omega (arith, le)
body_level ds _ is le = absurd cc

-- ---- types, each behind those of lesser numbers

abbrev pub tight : ℕ → ℕ
tight zero = 1
tight (suc m) = suc (suc (tight m))

pub tight_is : (n : ℕ) → tight n ≡ n + n + 1
tight_is zero = refl
tight_is (suc n) = omega (arith, tight_is n)

look_left : (ds : List ℕ) (x k : ℕ) → k < length ds → unwrap_or (slice_get (ds ++ x ∷ []) k) 0 ≡ unwrap_or (slice_get ds k) 0
look_left [] x k lt = absurd (omega (arith, lt))
look_left (d ∷ ds) x zero lt = refl
look_left (d ∷ ds) x (suc k) lt = look_left ds x k (omega (arith, lt))

look_last : (ds : List ℕ) (x : ℕ) → unwrap_or (slice_get (ds ++ x ∷ []) (length ds)) 0 ≡ x
look_last [] x = refl
look_last (d ∷ ds) x = look_last ds x

look_few : (ds : List ℕ) (k : ℕ) → list_all (is_few 256) ds ≡ true → unwrap_or (slice_get ds k) 0 ≤ 256
look_few [] k e = omega arith
look_few (d ∷ ds) zero e = leb-true _ _ (both (is_few 256 d) (list_all (is_few 256) ds) e).0
look_few (d ∷ ds) (suc k) e = look_few ds k (both (is_few 256 d) (list_all (is_few 256) ds) e).1

module _ (types : List Form) (far : ℕ) where
  -- a type of that many levels
  pub record Fact (l : ℕ) (u : Form) : Type 0 where
    pub shallow : (n : ℕ) → l ≤ n → Shallow types (tight n) u
    pub near : ℕ
    pub ds : List ℕ
    pub below : is_below near far u ≡ true
    pub level : levels ds u ≡ l

  abbrev Known : ℕ → List ℕ → Type 0
  Known near ds = (k : ℕ) (u : Form) → k < near → slice_get types k ≡ Some u → Fact (unwrap_or (slice_get ds k) 0) u

  abbrev named_cost : ℕ → ℕ
  named_cost n = suc (tight n)

  has_type : (c n : ℕ) (o : Option Form) → ((u : Form) → o ≡ Some u → Shallow types n u) → HasForm (Shallow types n) o
  has_type c n None h = tt
  has_type c n (Some u) h = h u refl

  names_cost : (near : ℕ) (ds : List ℕ) → Known near ds → (c n : ℕ) (switch : Option Count) → c < near → unwrap_or (slice_get ds c) 0 ≤ n → Shallow types (named_cost n) (OfNamed c switch)
  names_cost near ds kn c n switch lt le = has_type c (tight n) (slice_get types c) (λ u is. (kn c u lt is).shallow n le)

  body_shallow : (near : ℕ) (ds : List ℕ) → Known near ds → (s : Form) → is_body s ≡ true → is_below near far s ≡ true → (n : ℕ) → levels ds s ≤ n → Shallow types (tight n) s
  body_shallow near ds kn s is b zero le = absurd (body_level ds s is le)
  body_shallow near ds kn s is b (suc m) le =
      whole_body types near far ds named_cost (names_cost near ds kn) (λ m s h. deeper types (suc (named_cost m)) s h) (λ n. (tight n, refl)) s m is b le

  one_known : (near : ℕ) (ds : List ℕ) → length ds ≡ near → Known near ds → (s : Form) → slice_get types near ≡ Some s → is_body s ≡ true → is_below near far s ≡ true → Known (near + 1) (ds ++ levels ds s ∷ [])
  one_known near ds len kn s at is b k u lt found = which (cases_lt k near)
    where
      new : k ≡ near → Fact (unwrap_or (slice_get (ds ++ levels ds s ∷ []) k) 0) u
      new same =
          let own : s ≡ u = let e : Some s ≡ Some u = sym at ∙ ap (slice_get types) (sym same) ∙ found in cc in
          let l : levels ds s ≡ unwrap_or (slice_get (ds ++ levels ds s ∷ []) k) 0 =
          sym (ap (λ (j : ℕ). unwrap_or (slice_get (ds ++ levels ds s ∷ []) j) 0) (same ∙ sym len) ∙ look_last ds (levels ds s)) in
          subst (λ (x : ℕ). Fact x u) l (subst (λ (x : Form). Fact (levels ds s) x) own (record { shallow = body_shallow near ds kn s is b; near = near; ds = ds; below = b; level = refl }))

      which : (k < near) ⊎ (near ≤ k) → Fact (unwrap_or (slice_get (ds ++ levels ds s ∷ []) k) 0) u
      which (inl less) = subst (λ (x : ℕ). Fact x u) (sym (look_left ds (levels ds s) k (omega (arith, less, len)))) (kn k u less found)
      which (inr more) = new (omega (arith, lt, more))

  types_known : (ss : List Form) (near : ℕ) (ds : List ℕ) → length ds ≡ near → ((j : ℕ) → slice_get types (near + j) ≡ slice_get ss j) → ordered_from near far ss ≡ true → Known near ds → Known (near + length ss) (depths_past ds ss)
  types_known [] near ds len rel ord kn = λ k u lt is. kn k u (omega (arith, lt)) is
  types_known (s ∷ ss) near ds len rel ord kn =
      let a = both (is_body s) (is_below near far s && ordered_from (near + 1) far ss) ord in
      let b = both (is_below near far s) (ordered_from (near + 1) far ss) a.1 in
      let at : slice_get types near ≡ Some s = ap (slice_get types) (let z : near ≡ near + 0 = omega arith in z) ∙ rel 0 in
      let more : length (ds ++ levels ds s ∷ []) ≡ near + 1 = omega (arith, length-append ds (levels ds s ∷ []), len) in
      let ih = types_known ss (near + 1) (ds ++ levels ds s ∷ []) more (λ j. ap (slice_get types) (let z : near + 1 + j ≡ near + suc j = omega arith in z) ∙ rel (suc j)) b.1 (one_known near ds len kn s at a.0 b.0) in
      λ k u lt is. ih k u (omega (arith, lt)) is

-- ---- what pointers point to

module _ (types : List Form) (far a deep : ℕ) (all : (c : ℕ) (u : Form) → slice_get types c ≡ Some u → Shallow types a u) (most : plus (suc a) 255 ≤ deep) where
  pointed : (s : Form) → is_below far far s ≡ true → levels [] s ≤ 255 → Shallow types deep s
  pointed s b le =
      weaker types (plus (suc a) 255) deep s most
      (shape types far far [] (plus (suc a)) (λ c n switch lt few. much_deeper types (suc a) n (OfNamed c switch) (has_type types far c a (slice_get types c) (λ u is. all c u is)))
      (λ m s h. h) (λ n. (plus a n, suc_plus a n)) s 255 b le)
    where
      suc_plus : (a n : ℕ) → plus (suc a) n ≡ suc (plus a n)
      suc_plus a zero = refl
      suc_plus a (suc n) = ap suc (suc_plus a n)

  mutual
    pub target : (near : ℕ) (ds : List ℕ) (s : Form) → is_below near far s ≡ true → levels ds s ≤ 256 → Targets types deep s
    target near ds (OfStruct ss) b le = member_targets near ds ss b (omega (arith, le))
    target near ds (OfUnion t arms) b le = arm_targets near ds arms (both (is_below near far t) (arms_below near far arms) b).1 (omega (arith, le))
    target near ds (OfArray kind s) b le = target near ds s b (omega (arith, le))
    target near ds (OfRef s) b le = (pointed s b (omega (arith, le)), target far [] s b (omega (arith, le)))
    target near ds (OfUnique s) b le = (pointed s b (omega (arith, le)), target far [] s b (omega (arith, le)))
    target near ds (OfFull s) b le = (pointed s b (omega (arith, le)), target far [] s b (omega (arith, le)))
    target near ds _ b le = tt

    member_targets : (near : ℕ) (ds : List ℕ) (ss : Forms) → each_below near far ss ≡ true → members_levels ds ss ≤ 256 → EachTarget types deep ss
    member_targets near ds no_form b le = tt
    member_targets near ds (then_form s ss) b le =
        let h = both (is_below near far s) (each_below near far ss) b in (target near ds s h.0 (omega (arith, le)), member_targets near ds ss h.1 (omega (arith, le)))

    arm_targets : (near : ℕ) (ds : List ℕ) (arms : ArmForms) → arms_below near far arms ≡ true → arms_levels ds arms ≤ 256 → ArmTargets types deep arms
    arm_targets near ds no_arm b le = tt
    arm_targets near ds (then_arm cases default x rest) b le =
        let h = both (body_below near far x) (arms_below near far rest) b in (body_target near ds x h.0 (omega (arith, le)), arm_targets near ds rest h.1 (omega (arith, le)))

    body_target : (near : ℕ) (ds : List ℕ) (x : Body) → body_below near far x ≡ true → body_levels ds x ≤ 256 → BodyTarget types deep x
    body_target near ds empty b le = tt
    body_target near ds (holds s) b le = target near ds s b le

-- ---- tables

all_get : {A : Type 0} (p : A → Bool) (xs : List A) (k : ℕ) (x : A) → list_all p xs ≡ true → slice_get xs k ≡ Some x → p x ≡ true
all_get p [] k x e is = absurd cc
all_get p (y ∷ xs) zero x e is = let same : y ≡ x = cc in subst (λ z. p z ≡ true) same (both (p y) (list_all p xs) e).0
all_get p (y ∷ xs) (suc k) x e is = all_get p xs k x (both (p y) (list_all p xs) e).1 is

module _ (types : List Form) (ops : List OpForm) (far : ℕ) (is_far : far ≡ length types) (ord : ordered_from 0 far types ≡ true) (few : list_all (is_few 256) (depths_of types) ≡ true) where
  fact : (c : ℕ) (u : Form) → slice_get types c ≡ Some u → Fact types far (unwrap_or (slice_get (depths_of types) c) 0) u
  fact c u is =
      types_known types far types 0 [] refl (λ j. ap (slice_get types) (let z : 0 + j ≡ j = omega arith in z)) ord (λ k u lt is. absurd (omega (arith, lt))) c u (let w = slice_get_within types c u is in omega (arith, w)) is

  type_shallow : (c : ℕ) (u : Form) → slice_get types c ≡ Some u → Shallow types (tight 256) u
  type_shallow c u is = (fact c u is).shallow 256 (look_few (depths_of types) c few)

  module _ (deep : ℕ) (most : plus (suc (tight 256)) 255 ≤ deep) where
    pub types_grounded : Grounded types deep
    types_grounded c u is =
        let f = fact c u is in
        target types far (tight 256) deep type_shallow most f.near f.ds u f.below (let l = look_few (depths_of types) c few in omega (arith, f.level, l))

    shape_is : (s : Form) → is_below far far s ≡ true → levels (depths_of types) s ≤ 256 → Shallow types deep s × Targets types deep s
    shape_is s b le =
        let kn : Known types far far (depths_of types) = λ k u lt is. fact k u is in (
          weaker types (suc (tight 256)) deep s (omega (arith, most, plus_is (suc (tight 256)) 255))
              (shape types far far (depths_of types) (named_cost types far) (names_cost types far far (depths_of types) kn) (λ m s h. deeper types (suc (named_cost types far m)) s h) (λ n. (tight n, refl)) s 256 b le),
          target types far (tight 256) deep type_shallow most far (depths_of types) s b le,
        )

    param_is : (s : Form) → is_below far far s ≡ true → levels (depths_of types) s ≤ 256 → Shallow types deep (of_param s) × Targets types deep (of_param s)
    param_is (OfRef s) b le = (pointed types far (tight 256) deep type_shallow most s b (omega (arith, le)), target types far (tight 256) deep type_shallow most far [] s b (omega (arith, le)))
    param_is s b le = shape_is s b le

    result_entry : (way : Way) (o : Option Form) → result_below far o ≡ true → result_few 256 (depths_of types) o ≡ true → EachEntry types deep (last_entry way o)
    result_entry Request o b f = tt
    result_entry Response None b f = tt
    result_entry Response (Some s) b f = (shape_is s b (leb-true _ _ (both (is_few 256 (levels (depths_of types) s)) (reaches_few 256 (depths_of types) s) f).0), tt)

    if_goes : (b : Bool) (e : Entry) (es : List Entry) → Shallow types deep e.shape × Targets types deep e.shape → EachEntry types deep es → EachEntry types deep (if b then e ∷ es else es)
    if_goes true e es h hs = (h, hs)
    if_goes false e es h hs = hs

    params_entries : (way : Way) (ps : List ParamForm) (o : Option Form) → list_all (param_below far) ps ≡ true → list_all (param_few 256 (depths_of types)) ps ≡ true
        → result_below far o ≡ true → result_few 256 (depths_of types) o ≡ true → EachEntry types deep (entries_of way ps o)
    params_entries way [] o b f ob of_ = result_entry way o ob of_
    params_entries way (p ∷ ps) o b f ob of_ =
        let x = both (param_below far p) (list_all (param_below far) ps) b in
        let y = both (param_few 256 (depths_of types) p) (list_all (param_few 256 (depths_of types)) ps) f in
        if_goes (goes way p) (param_entry p) (entries_of way ps o) (param_is p.shape x.0 (leb-true _ _ (both (is_few 256 (levels (depths_of types) p.shape)) (reaches_few 256 (depths_of types) p.shape) y.0).0)) (params_entries way ps o x.1 y.1 ob of_)

    pub op_entries : (way : Way) (number : ℕ) (op : OpForm) → list_all (op_below far) ops ≡ true → list_all (op_few 256 (depths_of types)) ops ≡ true → slice_get ops number ≡ Some op → EachEntry types deep (entries way op)
    op_entries way number op b f is =
        let x = both (list_all (param_below far) op.params) (result_below far op.result) (all_get (op_below far) ops number op b is) in
        let y = both (list_all (param_few 256 (depths_of types)) op.params) (result_few 256 (depths_of types) op.result) (all_get (op_few 256 (depths_of types)) ops number op f is) in
        params_entries way op.params op.result x.0 y.0 x.1 y.1
