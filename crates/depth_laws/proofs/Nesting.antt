-- Between two pointers the shapes of a table nest less deep than value texts are read, where no reference leads to a type.
use Rattle.std.proofs.Common.{◌≡◌, ℕ, zero, suc, ◌+◌, ◌-◌, ◌<◌, ◌≤◌, Bool, true, false, List, [], ◌∷◌, ◌++◌, length, length-append, Option, Some, None, refl, sym, ap, subst, ◌∙◌, arith, inl, inr, ◌⊎◌}
use Rattle.std.specs.Prelude.{slice_get, unwrap_or, ◌&&◌, ◌||◌}
use Rattle.std.specs.List.{list_all}
use Rattle.std.proofs.lemmas.Bool.{ltb-true, leb-true, cases_lt}
use Rattle.std.proofs.lemmas.Option.{slice_get_within}
use Rattle.ndr_value.specs.declared.shape.Count.{Count}
use Rattle.ndr_value.specs.Forms.{Form, OfBool, OfByte, OfChar, OfInt, OfUint, OfEnum, OfNamed, OfStruct, OfUnion, OfArray, OfText, OfRef, OfUnique, OfFull, OfHandle, Forms, no_form, then_form, Body, empty, holds, ArmForms, no_arm, then_arm}
use Rattle.ndr_table.specs.declared.operation.HandleUse.{HandleUse}
use Rattle.ndr_table.specs.Ordered.{is_below, each_below, arms_below, body_below, is_body, ordered_from}
use Rattle.ndr_table.specs.Nested.{levels, members_levels, arms_levels, body_levels, depths_past, depths_of, is_few, is_pointer, reaches_few, each_reaches, arms_reach, body_reaches, is_shallow, param_few, result_few, op_few, NestAtMost}
use Rattle.ndr_table.specs.Tables.{ParamForm, OpForm, param_below, result_below, op_below, IsTable}
use Rattle.value_text.specs.Fuel.{EachForm, HasForm, HasBody, EachArm, nests_at, Nests, Pointed, EachPointed, ArmsPointed, BodyPointed, IsFew, IsFlat}
use Rattle.value_text.proofs.Shallow.{fuel_suffices}
use Rattle.depth_laws.specs.Laws.{is_own, each_own, arms_own, body_own, refs_end, each_ends, arms_end, body_ends, refs_within, IsRead}

-- ---- deeper is weaker

pub one_up : (types : List Form) (d : ℕ) (s : Form) → nests_at types (Nests types d) s → Nests types (suc d) s
unfolding Nests
one_up types d s h = h

one_down : (types : List Form) (d : ℕ) (s : Form) → Nests types (suc d) s → nests_at types (Nests types d) s
unfolding Nests
one_down types d s h = h

never : (types : List Form) (s : Form) → Nests types zero s → ⊥
unfolding Nests
never types s h = h

module _ (p q : Form → Type 0) (go : (s : Form) → p s → q s) where
  each_on : (ss : Forms) → EachForm p ss → EachForm q ss
  each_on no_form h = tt
  each_on (then_form s ss) h = (go s h.0, each_on ss h.1)

  body_on : (b : Body) → HasBody p b → HasBody q b
  body_on empty h = tt
  body_on (holds s) h = go s h

  arms_on : (arms : ArmForms) → EachArm p arms → EachArm q arms
  arms_on no_arm h = tt
  arms_on (then_arm cases default b rest) h = (body_on b h.0, arms_on rest h.1)

  type_on : (o : Option Form) → HasForm p o → HasForm q o
  type_on None h = tt
  type_on (Some s) h = go s h

  shape_on : (types : List Form) (s : Form) → nests_at types p s → nests_at types q s
  shape_on types (OfNamed c switch) h = type_on (slice_get types c) h
  shape_on types (OfStruct ss) h = each_on ss h
  shape_on types (OfUnion t arms) h = arms_on arms h
  shape_on types (OfArray kind s) h = go s h
  shape_on types (OfRef s) h = go s h
  shape_on types _ h = tt

deeper : (types : List Form) (d : ℕ) (s : Form) → Nests types d s → Nests types (suc d) s
deeper types zero s h = absurd (never types s h)
deeper types (suc d) s h = one_up types (suc d) s (shape_on (Nests types d) (Nests types (suc d)) (deeper types d) types s (one_down types d s h))

abbrev pub plus : ℕ → ℕ → ℕ
plus d zero = d
plus d (suc k) = suc (plus d k)

pub plus_is : (d k : ℕ) → plus d k ≡ d + k
plus_is d zero = omega arith
plus_is d (suc k) = omega (arith, plus_is d k)

much_deeper : (types : List Form) (d k : ℕ) (s : Form) → Nests types d s → Nests types (plus d k) s
much_deeper types d zero s h = h
much_deeper types d (suc k) s h = deeper types (plus d k) s (much_deeper types d k s h)

pub weaker : (types : List Form) (d e : ℕ) (s : Form) → d ≤ e → Nests types d s → Nests types e s
weaker types d e s le h =
    let same : plus d (e - d) ≡ e = omega (arith, plus_is d (e - d), le) in
    subst (λ (x : ℕ). Nests types x s) same (much_deeper types d (e - d) s h)

pub both : (a b : Bool) → (a && b) ≡ true → (a ≡ true) × (b ≡ true)
both true b e = (refl, e)
both false b e = absurd cc

-- ---- shapes that name no type

module _ (types : List Form) where
  mutual
    own : (s : Form) (n : ℕ) → is_own s ≡ true → levels [] s ≤ n → Nests types (suc n) s
    own OfBool n o le = one_up types n OfBool tt
    own OfByte n o le = one_up types n OfByte tt
    own OfChar n o le = one_up types n OfChar tt
    own (OfInt size) n o le = one_up types n (OfInt size) tt
    own (OfUint size) n o le = one_up types n (OfUint size) tt
    own (OfEnum count) n o le = one_up types n (OfEnum count) tt
    own (OfText most) n o le = one_up types n (OfText most) tt
    own (OfUnique s) n o le = one_up types n (OfUnique s) tt
    own (OfFull s) n o le = one_up types n (OfFull s) tt
    own (OfHandle kind) n o le = one_up types n (OfHandle kind) tt
    own (OfNamed c switch) n o le = absurd cc
    own (OfStruct ss) zero o le = absurd (omega (arith, le))
    own (OfStruct ss) (suc m) o le = one_up types (suc m) (OfStruct ss) (own_members ss m o (omega (arith, le)))
    own (OfUnion t arms) zero o le = absurd (omega (arith, le))
    own (OfUnion t arms) (suc m) o le = one_up types (suc m) (OfUnion t arms) (own_arms arms m o (omega (arith, le)))
    own (OfArray kind s) zero o le = absurd (omega (arith, le))
    own (OfArray kind s) (suc m) o le = one_up types (suc m) (OfArray kind s) (own s m o (omega (arith, le)))
    own (OfRef s) zero o le = absurd (omega (arith, le))
    own (OfRef s) (suc m) o le = one_up types (suc m) (OfRef s) (own s m o (omega (arith, le)))

    own_members : (ss : Forms) (m : ℕ) → each_own ss ≡ true → members_levels [] ss ≤ m → EachForm (Nests types (suc m)) ss
    own_members no_form m o le = tt
    own_members (then_form s ss) m o le = let h = both (is_own s) (each_own ss) o in (own s m h.0 (omega (arith, le)), own_members ss m h.1 (omega (arith, le)))

    own_arms : (arms : ArmForms) (m : ℕ) → arms_own arms ≡ true → arms_levels [] arms ≤ m → EachArm (Nests types (suc m)) arms
    own_arms no_arm m o le = tt
    own_arms (then_arm cases default x rest) m o le = let h = both (body_own x) (arms_own rest) o in (own_body x m h.0 (omega (arith, le)), own_arms rest m h.1 (omega (arith, le)))

    own_body : (x : Body) (m : ℕ) → body_own x ≡ true → body_levels [] x ≤ m → HasBody (Nests types (suc m)) x
    own_body empty m o le = tt
    own_body (holds s) m o le = own s m o le

-- ---- costs

abbrev pub tight : ℕ → ℕ
tight zero = 1
tight (suc m) = suc (suc (tight m))

tight_is : (n : ℕ) → tight n ≡ n + n + 1
tight_is zero = refl
tight_is (suc n) = omega (arith, tight_is n)

look_left : (ds : List ℕ) (x k : ℕ) → k < length ds → unwrap_or (slice_get (ds ++ x ∷ []) k) 0 ≡ unwrap_or (slice_get ds k) 0
look_left [] x k lt = absurd (omega (arith, lt))
look_left (d ∷ ds) x zero lt = refl
look_left (d ∷ ds) x (suc k) lt = look_left ds x k (omega (arith, lt))

look_last : (ds : List ℕ) (x : ℕ) → unwrap_or (slice_get (ds ++ x ∷ []) (length ds)) 0 ≡ x
look_last [] x = refl
look_last (d ∷ ds) x = look_last ds x

look_few : (ds : List ℕ) (k : ℕ) → list_all (is_few 22) ds ≡ true → unwrap_or (slice_get ds k) 0 ≤ 22
look_few [] k e = omega arith
look_few (d ∷ ds) zero e = leb-true _ _ (both (is_few 22 d) (list_all (is_few 22) ds) e).0
look_few (d ∷ ds) (suc k) e = look_few ds k (both (is_few 22 d) (list_all (is_few 22) ds) e).1

-- ---- shapes by their levels: each is a construct and a name at most

abbrev named_cost : ℕ → ℕ
named_cost n = suc (tight n)

module _ (types : List Form) (near far : ℕ) (ds : List ℕ)
    (names : (c n : ℕ) (switch : Option Count) → c < near → unwrap_or (slice_get ds c) 0 ≤ n → Nests types (named_cost n) (OfNamed c switch)) where
  mutual
    shape : (s : Form) (n : ℕ) → is_below near far s ≡ true → refs_end s ≡ true → levels ds s ≤ n → Nests types (named_cost n) s
    shape OfBool n b r le = one_up types (tight n) OfBool tt
    shape OfByte n b r le = one_up types (tight n) OfByte tt
    shape OfChar n b r le = one_up types (tight n) OfChar tt
    shape (OfInt size) n b r le = one_up types (tight n) (OfInt size) tt
    shape (OfUint size) n b r le = one_up types (tight n) (OfUint size) tt
    shape (OfEnum count) n b r le = one_up types (tight n) (OfEnum count) tt
    shape (OfText most) n b r le = one_up types (tight n) (OfText most) tt
    shape (OfUnique s) n b r le = one_up types (tight n) (OfUnique s) tt
    shape (OfFull s) n b r le = one_up types (tight n) (OfFull s) tt
    shape (OfHandle kind) n b r le = one_up types (tight n) (OfHandle kind) tt
    shape (OfNamed c switch) n b r le = names c n switch (ltb-true _ _ b) le
    shape (OfStruct ss) zero b r le = absurd (omega (arith, le))
    shape (OfStruct ss) (suc m) b r le = deeper types (suc (named_cost m)) (OfStruct ss) (one_up types (named_cost m) (OfStruct ss) (members ss m b r (omega (arith, le))))
    shape (OfUnion t arms) zero b r le = absurd (omega (arith, le))
    shape (OfUnion t arms) (suc m) b r le =
        deeper types (suc (named_cost m)) (OfUnion t arms) (one_up types (named_cost m) (OfUnion t arms) (in_arms arms m (both (is_below near far t) (arms_below near far arms) b).1 r (omega (arith, le))))
    shape (OfArray kind s) zero b r le = absurd (omega (arith, le))
    shape (OfArray kind s) (suc m) b r le = deeper types (suc (named_cost m)) (OfArray kind s) (one_up types (named_cost m) (OfArray kind s) (shape s m b r (omega (arith, le))))
    shape (OfRef s) n b r le =
        weaker types (suc n) (named_cost n) (OfRef s) (omega (arith, tight_is n)) (own types (OfRef s) n (both (is_own s) (refs_end s) r).0 le)

    members : (ss : Forms) (m : ℕ) → each_below near far ss ≡ true → each_ends ss ≡ true → members_levels ds ss ≤ m → EachForm (Nests types (named_cost m)) ss
    members no_form m b r le = tt
    members (then_form s ss) m b r le =
        let h = both (is_below near far s) (each_below near far ss) b in
        let k = both (refs_end s) (each_ends ss) r in
        (shape s m h.0 k.0 (omega (arith, le)), members ss m h.1 k.1 (omega (arith, le)))

    in_arms : (arms : ArmForms) (m : ℕ) → arms_below near far arms ≡ true → arms_end arms ≡ true → arms_levels ds arms ≤ m → EachArm (Nests types (named_cost m)) arms
    in_arms no_arm m b r le = tt
    in_arms (then_arm cases default x rest) m b r le =
        let h = both (body_below near far x) (arms_below near far rest) b in
        let k = both (body_ends x) (arms_end rest) r in
        (in_body x m h.0 k.0 (omega (arith, le)), in_arms rest m h.1 k.1 (omega (arith, le)))

    in_body : (x : Body) (m : ℕ) → body_below near far x ≡ true → body_ends x ≡ true → body_levels ds x ≤ m → HasBody (Nests types (named_cost m)) x
    in_body empty m b r le = tt
    in_body (holds s) m b r le = shape s m b r le

  whole_body : (s : Form) (m : ℕ) → is_body s ≡ true → is_below near far s ≡ true → refs_end s ≡ true → levels ds s ≤ suc m → Nests types (suc (named_cost m)) s
  whole_body (OfStruct ss) m is b r le = one_up types (named_cost m) (OfStruct ss) (members ss m b r (omega (arith, le)))
  whole_body (OfUnion t arms) m is b r le = one_up types (named_cost m) (OfUnion t arms) (in_arms arms m (both (is_below near far t) (arms_below near far arms) b).1 r (omega (arith, le)))
  whole_body _ m is b r le = absurd cc

-- a structure or union has a level at least
body_level : (ds : List ℕ) (s : Form) → is_body s ≡ true → levels ds s ≤ 0 → ⊥
body_level ds (OfStruct ss) is le = omega (arith, le)
body_level ds (OfUnion t arms) is le = omega (arith, le)
body_level ds _ is le = absurd cc

-- ---- types, each behind those of lesser numbers

module _ (types : List Form) (far : ℕ) (ends : (c : ℕ) (u : Form) → slice_get types c ≡ Some u → refs_end u ≡ true) where
  -- a type of that many levels
  record Fact (l : ℕ) (u : Form) : Type 0 where
    pub shallow : (n : ℕ) → l ≤ n → Nests types (tight n) u
    pub near : ℕ
    pub ds : List ℕ
    pub below : is_below near far u ≡ true
    pub level : levels ds u ≡ l

  abbrev Known : ℕ → List ℕ → Type 0
  Known near ds = (k : ℕ) (u : Form) → k < near → slice_get types k ≡ Some u → Fact (unwrap_or (slice_get ds k) 0) u

  has_type : (c n : ℕ) (o : Option Form) → ((u : Form) → o ≡ Some u → Nests types n u) → HasForm (Nests types n) o
  has_type c n None h = tt
  has_type c n (Some u) h = h u refl

  names_cost : (near : ℕ) (ds : List ℕ) → Known near ds → (c n : ℕ) (switch : Option Count) → c < near → unwrap_or (slice_get ds c) 0 ≤ n → Nests types (named_cost n) (OfNamed c switch)
  names_cost near ds kn c n switch lt le = one_up types (tight n) (OfNamed c switch) (has_type c (tight n) (slice_get types c) (λ u is. (kn c u lt is).shallow n le))

  body_shallow : (near : ℕ) (ds : List ℕ) → Known near ds → (s : Form) → is_body s ≡ true → is_below near far s ≡ true → refs_end s ≡ true → (n : ℕ) → levels ds s ≤ n → Nests types (tight n) s
  body_shallow near ds kn s is b r zero le = absurd (body_level ds s is le)
  body_shallow near ds kn s is b r (suc m) le = whole_body types near far ds (names_cost near ds kn) s m is b r le

  one_known : (near : ℕ) (ds : List ℕ) → length ds ≡ near → Known near ds → (s : Form) → slice_get types near ≡ Some s → is_body s ≡ true → is_below near far s ≡ true → Known (near + 1) (ds ++ levels ds s ∷ [])
  one_known near ds len kn s at is b k u lt found = which (cases_lt k near)
    where
      new : k ≡ near → Fact (unwrap_or (slice_get (ds ++ levels ds s ∷ []) k) 0) u
      new same =
          let own : s ≡ u = let e : Some s ≡ Some u = sym at ∙ ap (slice_get types) (sym same) ∙ found in cc in
          let l : levels ds s ≡ unwrap_or (slice_get (ds ++ levels ds s ∷ []) k) 0 =
          sym (ap (λ (j : ℕ). unwrap_or (slice_get (ds ++ levels ds s ∷ []) j) 0) (same ∙ sym len) ∙ look_last ds (levels ds s)) in
          subst (λ (x : ℕ). Fact x u) l (subst (λ (x : Form). Fact (levels ds s) x) own (record { shallow = body_shallow near ds kn s is b (ends near s at); near = near; ds = ds; below = b; level = refl }))

      which : (k < near) ⊎ (near ≤ k) → Fact (unwrap_or (slice_get (ds ++ levels ds s ∷ []) k) 0) u
      which (inl less) = subst (λ (x : ℕ). Fact x u) (sym (look_left ds (levels ds s) k (omega (arith, less, len)))) (kn k u less found)
      which (inr more) = new (omega (arith, lt, more))

  types_known : (ss : List Form) (near : ℕ) (ds : List ℕ) → length ds ≡ near → ((j : ℕ) → slice_get types (near + j) ≡ slice_get ss j) → ordered_from near far ss ≡ true → Known near ds → Known (near + length ss) (depths_past ds ss)
  types_known [] near ds len rel ord kn = λ k u lt is. kn k u (omega (arith, lt)) is
  types_known (s ∷ ss) near ds len rel ord kn =
      let a = both (is_body s) (is_below near far s && ordered_from (near + 1) far ss) ord in
      let b = both (is_below near far s) (ordered_from (near + 1) far ss) a.1 in
      let at : slice_get types near ≡ Some s = ap (slice_get types) (let z : near ≡ near + 0 = omega arith in z) ∙ rel 0 in
      let more : length (ds ++ levels ds s ∷ []) ≡ near + 1 = omega (arith, length-append ds (levels ds s ∷ []), len) in
      let ih = types_known ss (near + 1) (ds ++ levels ds s ∷ []) more (λ j. ap (slice_get types) (let z : near + 1 + j ≡ near + suc j = omega arith in z) ∙ rel (suc j)) b.1 (one_known near ds len kn s at a.0 b.0) in
      λ k u lt is. ih k u (omega (arith, lt)) is

all_get : {A : Type 0} (p : A → Bool) (xs : List A) (k : ℕ) (x : A) → list_all p xs ≡ true → slice_get xs k ≡ Some x → p x ≡ true
all_get p [] k x e is = absurd cc
all_get p (y ∷ xs) zero x e is = let same : y ≡ x = cc in subst (λ z. p z ≡ true) same (both (p y) (list_all p xs) e).0
all_get p (y ∷ xs) (suc k) x e is = all_get p xs k x (both (p y) (list_all p xs) e).1 is

-- ---- what pointers point to

module _ (types : List Form) (ends : (c : ℕ) (u : Form) → slice_get types c ≡ Some u → refs_end u ≡ true)
    (ord : ordered_from 0 (length types) types ≡ true) (few : list_all (is_few 22) (depths_of types) ≡ true) where
  fact : (c : ℕ) (u : Form) → slice_get types c ≡ Some u → Fact types (length types) ends (unwrap_or (slice_get (depths_of types) c) 0) u
  fact c u is =
      types_known types (length types) ends types 0 [] refl (λ j. ap (slice_get types) (let z : 0 + j ≡ j = omega arith in z)) ord (λ k u lt is. absurd (omega (arith, lt))) c u (let w = slice_get_within types c u is in omega (arith, w)) is

  by_levels : (s : Form) → is_below (length types) (length types) s ≡ true → refs_end s ≡ true → levels (depths_of types) s ≤ 22 → Nests types 46 s
  by_levels s b r le =
      shape types (length types) (length types) (depths_of types) (names_cost types (length types) ends (length types) (depths_of types) (λ k u lt is. fact k u is)) s 22 b r le

  pointer : (s : Form) → is_pointer s ≡ true → refs_end s ≡ true → levels [] s ≤ 22 → Nests types 46 s
  pointer (OfRef s) is r le = weaker types 23 46 (OfRef s) (omega arith) (own types (OfRef s) 22 (both (is_own s) (refs_end s) r).0 le)
  pointer (OfUnique s) is r le = one_up types 45 (OfUnique s) tt
  pointer (OfFull s) is r le = one_up types 45 (OfFull s) tt
  pointer _ is r le = absurd cc

  either : (s : Form) (p : Bool) → is_pointer s ≡ p → (p || is_few 22 (levels (depths_of types) s)) ≡ true → is_below (length types) (length types) s ≡ true → refs_end s ≡ true → levels [] s ≤ 22 → Nests types 46 s
  either s true is h b r le = pointer s is r le
  either s false is h b r le = by_levels s b r (leb-true _ _ h)

  mutual
    target : (near : ℕ) (ds : List ℕ) (s : Form) → is_below near (length types) s ≡ true → refs_end s ≡ true → reaches_few 22 (depths_of types) s ≡ true → levels ds s ≤ 22 → Pointed (IsFew types) s
    target near ds (OfStruct ss) b r f le = member_targets near ds ss b r f (omega (arith, le))
    target near ds (OfUnion t arms) b r f le = arm_targets near ds arms (both (is_below near (length types) t) (arms_below near (length types) arms) b).1 r f (omega (arith, le))
    target near ds (OfArray kind s) b r f le = target near ds s b r f (omega (arith, le))
    target near ds (OfRef s) b r f le =
        let h = both (is_pointer s || is_few 22 (levels (depths_of types) s)) (reaches_few 22 (depths_of types) s) f in
        target (length types) [] s b (both (is_own s) (refs_end s) r).1 h.1 (omega (arith, le))
    target near ds (OfUnique s) b r f le =
        let h = both (is_pointer s || is_few 22 (levels (depths_of types) s)) (reaches_few 22 (depths_of types) s) f in
        (weaker types 46 48 s (omega arith) (either s (is_pointer s) refl h.0 b r (omega (arith, le))), target (length types) [] s b r h.1 (omega (arith, le)))
    target near ds _ b r f le = tt

    member_targets : (near : ℕ) (ds : List ℕ) (ss : Forms) → each_below near (length types) ss ≡ true → each_ends ss ≡ true → each_reaches 22 (depths_of types) ss ≡ true → members_levels ds ss ≤ 22 → EachPointed (IsFew types) ss
    member_targets near ds no_form b r f le = tt
    member_targets near ds (then_form s ss) b r f le =
        let h = both (is_below near (length types) s) (each_below near (length types) ss) b in
        let k = both (refs_end s) (each_ends ss) r in
        let g = both (reaches_few 22 (depths_of types) s) (each_reaches 22 (depths_of types) ss) f in
        (target near ds s h.0 k.0 g.0 (omega (arith, le)), member_targets near ds ss h.1 k.1 g.1 (omega (arith, le)))

    arm_targets : (near : ℕ) (ds : List ℕ) (arms : ArmForms) → arms_below near (length types) arms ≡ true → arms_end arms ≡ true → arms_reach 22 (depths_of types) arms ≡ true → arms_levels ds arms ≤ 22 → ArmsPointed (IsFew types) arms
    arm_targets near ds no_arm b r f le = tt
    arm_targets near ds (then_arm cases default x rest) b r f le =
        let h = both (body_below near (length types) x) (arms_below near (length types) rest) b in
        let k = both (body_ends x) (arms_end rest) r in
        let g = both (body_reaches 22 (depths_of types) x) (arms_reach 22 (depths_of types) rest) f in
        (body_target near ds x h.0 k.0 g.0 (omega (arith, le)), arm_targets near ds rest h.1 k.1 g.1 (omega (arith, le)))

    body_target : (near : ℕ) (ds : List ℕ) (x : Body) → body_below near (length types) x ≡ true → body_ends x ≡ true → body_reaches 22 (depths_of types) x ≡ true → body_levels ds x ≤ 22 → BodyPointed (IsFew types) x
    body_target near ds empty b r f le = tt
    body_target near ds (holds s) b r f le = target near ds s b r f le

  type_target : list_all (reaches_few 22 (depths_of types)) types ≡ true → (c : ℕ) (u : Form) → slice_get types c ≡ Some u → Pointed (IsFew types) u
  type_target reach c u is =
      let f = fact c u is in
      target f.near f.ds u f.below (ends c u is) (all_get (reaches_few 22 (depths_of types)) types c u reach is) (let l = look_few (depths_of types) c few in omega (arith, f.level, l))

  flat : list_all (reaches_few 22 (depths_of types)) types ≡ true → (s : Form) → is_below (length types) (length types) s ≡ true → is_shallow 22 (depths_of types) s ≡ true → refs_end s ≡ true → IsFlat types s
  flat reach s b sh r =
      let h = both (is_few 22 (levels (depths_of types) s)) (reaches_few 22 (depths_of types) s) sh in
      let le = leb-true _ _ h.0 in
      record { itself = weaker types 46 48 s (omega arith) (by_levels s b r le); pointed = target (length types) (depths_of types) s b r h.1 le; types_are = type_target reach }

  behind : list_all (reaches_few 22 (depths_of types)) types ≡ true → (s : Form) → is_below (length types) (length types) s ≡ true → is_shallow 22 (depths_of types) (OfRef s) ≡ true → refs_end s ≡ true → IsFlat types (OfRef s)
  behind reach s b sh r =
      let h = both (is_few 22 (levels (depths_of types) (OfRef s))) (reaches_few 22 (depths_of types) (OfRef s)) sh in
      let k = both (is_pointer s || is_few 22 (levels (depths_of types) s)) (reaches_few 22 (depths_of types) s) h.1 in
      let le : suc (levels [] s) ≤ 22 = leb-true _ _ h.0 in
      let own_le : levels [] s ≤ 22 = omega (arith, le) in
      let deep : Nests types 47 s = weaker types 46 47 s (omega arith) (either s (is_pointer s) refl k.0 b r own_le) in
      record { itself = one_up types 47 (OfRef s) deep; pointed = target (length types) [] s b r k.1 own_le; types_are = type_target reach }

  within : list_all (reaches_few 22 (depths_of types)) types ≡ true → (s : Form) → is_below (length types) (length types) s ≡ true → is_shallow 22 (depths_of types) s ≡ true → refs_within s ≡ true → IsFlat types s
  within reach (OfRef s) b sh r = behind reach s b sh r
  within reach s b sh r = flat reach s b sh r

-- ---- tables

pub shapes_are_read : (types : List Form) (ops : List OpForm) (uses : List (List HandleUse)) (s : Form) → IsTable types ops uses → NestAtMost 22 types ops → list_all refs_end types ≡ true
    → is_below (length types) (length types) s ≡ true → is_shallow 22 (depths_of types) s ≡ true → refs_within s ≡ true → IsRead types s
shapes_are_read types ops uses s table shallow r b sh w text =
    fuel_suffices types s text (within types (λ c u is. all_get refs_end types c u r is) table.types_are shallow.types_are shallow.types_reach s b sh w)

pub params_are_read : (types : List Form) (ops : List OpForm) (uses : List (List HandleUse)) (number k : ℕ) (op : OpForm) (p : ParamForm) → IsTable types ops uses → NestAtMost 22 types ops
    → list_all refs_end types ≡ true → slice_get ops number ≡ Some op → slice_get op.params k ≡ Some p → refs_within p.shape ≡ true → IsRead types p.shape
params_are_read types ops uses number k op p table shallow r at is w =
    let x = both (list_all (param_below (length types)) op.params) (result_below (length types) op.result) (all_get (op_below (length types)) ops number op table.ops_are at) in
    let y = both (list_all (param_few 22 (depths_of types)) op.params) (result_few 22 (depths_of types) op.result) (all_get (op_few 22 (depths_of types)) ops number op shallow.ops_are at) in
    shapes_are_read types ops uses p.shape table shallow r (all_get (param_below (length types)) op.params k p x.0 is) (all_get (param_few 22 (depths_of types)) op.params k p y.0 is) w

pub results_are_read : (types : List Form) (ops : List OpForm) (uses : List (List HandleUse)) (number : ℕ) (op : OpForm) (s : Form) → IsTable types ops uses → NestAtMost 22 types ops
    → list_all refs_end types ≡ true → slice_get ops number ≡ Some op → op.result ≡ Some s → refs_within s ≡ true → IsRead types s
results_are_read types ops uses number op s table shallow r at is w =
    let x = both (list_all (param_below (length types)) op.params) (result_below (length types) op.result) (all_get (op_below (length types)) ops number op table.ops_are at) in
    let y = both (list_all (param_few 22 (depths_of types)) op.params) (result_few 22 (depths_of types) op.result) (all_get (op_few 22 (depths_of types)) ops number op shallow.ops_are at) in
    shapes_are_read types ops uses s table shallow r (subst (λ (o : Option Form). result_below (length types) o ≡ true) is x.1) (subst (λ (o : Option Form). result_few 22 (depths_of types) o ≡ true) is y.1) w
