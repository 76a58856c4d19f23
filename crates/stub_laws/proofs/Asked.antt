-- What a message asks of its marks: one list, with as many numbers of an index as there are marks of it at most.
use Rattle.std.proofs.Common.{◌≡◌, ℕ, ◌+◌, ◌≤◌, ℤ, true, false, List, [], ◌∷◌, ◌++◌, Option, Some, None, refl, sym, ap, subst, ◌∙◌, arith}
use Rattle.ndr_value.specs.declared.shape.Count.{Count}
use Rattle.ndr_value.specs.declared.shape.ArrayKind.{ArrayKind}
use Rattle.ndr_value.specs.Forms.{Form, OfUnion, Forms, no_form, then_form, ArmForms, holds}
use Rattle.ndr_value.specs.Fits.{arm_of}
use Rattle.ndr_value.specs.Values.{Val, VEmpty, VUnion, Vals, no_val}
use Rattle.ndr_table.specs.declared.operation.Bounds.{Bounds}
use Rattle.ndr_model.specs.declared.mark.Mark.{Mark}
use Rattle.ndr_model.specs.declared.mark.Mark.TheVariants.{Number}
use Rattle.ndr_model.specs.Stub.{Entry}
use Rattle.ndr_model.specs.Named.{Call, named}
use Rattle.ndr_model.specs.Agree.{Stood, Fronts, fronts_greater, fronts, fronts_none}
use Rattle.ndr_faults.specs.Asked.{Demand, a_count, tag_demands, AsksMost, asks_most_in_front, asks_most_here, AsksCounts, asks_fixed, asks_varying, asks_conformant, asks_both, Asks, asks_plain, asks_name, asks_members, asks_empty_arm, asks_arm, asks_array, asks_ref, asks_null, asks_unique, asks_null_full, asks_new, asks_repeat, AsksEach, no_member_asks, member_asks, AsksAll, none_asks, no_element_asks, element_asks, AsksRange, asks_no_range, asks_range, AskTogether, no_entry_asks, entry_asks}
use Rattle.stub_laws.specs.One.{one_at, asked_at}
use Rattle.stub_laws.proofs.Apart.{marks_at}

-- ---- as many as there are marks

asked_append : (i : ℕ) (ds es : List Demand) → asked_at i (ds ++ es) ≡ asked_at i ds + asked_at i es
asked_append i [] es = omega arith
asked_append i (d ∷ ds) es = let h = asked_append i ds es in omega (arith, h)

-- a max_count that stood in front
abbrev stood_at : ℕ → Option Stood → ℕ
stood_at i None = 0
stood_at i (Some m) = one_at i m.0

abbrev Spends : ℕ → Option Stood → List Mark → List Mark → List Demand → Type 0
Spends i moved ms ns ds = asked_at i ds + marks_at i ns ≤ marks_at i ms + stood_at i moved

module _ (types : List Form) (call : Call) (i : ℕ) where
  tag_once : (body : Vals) (link : Option Count) (k : ℕ) (tag : ℤ) → asked_at i (tag_demands call body link k tag) ≤ one_at i k
  tag_once body None k tag = omega arith
  tag_once body (Some c) k tag = omega arith

  most_spends : {body : Vals} {c : Count} {moved : Option Stood} {ms ns : List Mark} {ds : List Demand} → AsksMost call body c moved ms ns ds → Spends i moved ms ns ds
  most_spends asks_most_in_front = omega arith
  most_spends asks_most_here = omega arith

  counts_spend : {body : Vals} {kind : ArrayKind} {moved : Option Stood} {ms ns : List Mark} {ds : List Demand} → AsksCounts call body moved kind ms ns ds → Spends i moved ms ns ds
  counts_spend asks_fixed = omega arith
  counts_spend asks_varying = omega arith
  counts_spend (asks_conformant a) = most_spends a
  counts_spend {body} (asks_both {i = k} {d = d} {z = z} {ds = ds} a) = let h = most_spends a in let m = asked_append i ds (a_count k z (named call body d) ∷ []) in omega (arith, h, m)

  fronts_spend : {ss : Forms} {moved own : Option Stood} {ms ns : List Mark} → Fronts types ss moved own ms ns → marks_at i ns + stood_at i own ≤ marks_at i ms + stood_at i moved
  fronts_spend fronts_greater = omega arith
  fronts_spend (fronts is) = omega arith
  fronts_spend (fronts_none is) = omega arith

  mutual
    asks_spends : {room : ℕ} {body : Vals} {link : Option Count} {moved : Option Stood} {s : Form} {v : Val} {ms ns : List Mark} {ds : List Demand}
        → Asks types call room body link moved s v ms ns ds → Spends i moved ms ns ds
    asks_spends (asks_plain is) = omega arith
    asks_spends (asks_name is a) = asks_spends a
    asks_spends (asks_members f a) = let x = fronts_spend f in let y = each_spends a in omega (arith, x, y)
    asks_spends (asks_empty_arm {i = k} {body = body} {link = link} {tag = tag}) = let x = tag_once body link k tag in omega (arith, x)
    asks_spends (asks_arm {i = k} {body = body} {link = link} {tag = tag} {ds = ds} is a) =
        let x = tag_once body link k tag in
        let y = asks_spends a in
        let m = asked_append i (tag_demands call body link k tag) ds in
        omega (arith, x, y, m)
    asks_spends (asks_array {ds = ds} {es = es} c a) = let x = counts_spend c in let y = all_spend a in let m = asked_append i ds es in omega (arith, x, y, m)
    asks_spends (asks_ref a) = let x = asks_spends a in omega (arith, x)
    asks_spends asks_null = omega arith
    asks_spends (asks_unique a) = let x = asks_spends a in omega (arith, x)
    asks_spends asks_null_full = omega arith
    asks_spends (asks_new is a) = let x = asks_spends a in omega (arith, x)
    asks_spends asks_repeat = omega arith

    each_spends : {room : ℕ} {body : Vals} {moved : Option Stood} {ss : Forms} {vs : Vals} {ms ns : List Mark} {ds : List Demand}
        → AsksEach types call room body moved ss vs ms ns ds → Spends i moved ms ns ds
    each_spends no_member_asks = omega arith
    -- the last member alone has the max_count that moved
    each_spends (member_asks {ss = no_form} {ds = ds} a no_member_asks) = let x = asks_spends a in let m = asked_append i ds [] in omega (arith, x, m)
    each_spends (member_asks {ss = then_form t ts} {ds = ds} {es = es} a b) = let x = asks_spends a in let y = each_spends b in let m = asked_append i ds es in omega (arith, x, y, m)

    all_spend : {room : ℕ} {body : Vals} {s : Form} {vs : Vals} {ms ns : List Mark} {ds : List Demand} → AsksAll types call room body s vs ms ns ds → Spends i None ms ns ds
    all_spend (none_asks is) = omega arith
    all_spend no_element_asks = omega arith
    all_spend (element_asks {ds = ds} {es = es} is a b) = let x = asks_spends a in let y = all_spend b in let m = asked_append i ds es in omega (arith, x, y, m)

  range_spends : {r : Option Bounds} {v : Val} {ms ns : List Mark} {ds : List Demand} → AsksRange r v ms ns ds → Spends i None ms ns ds
  range_spends asks_no_range = omega arith
  range_spends asks_range = omega arith

  pub together_spend : {es : List Entry} {vs : Vals} {ms ns : List Mark} {ds : List Demand} → AskTogether types call es vs ms ns ds → Spends i None ms ns ds
  together_spend no_entry_asks = omega arith
  together_spend (entry_asks {ds = ds} {rs = rs} {more = more} a r b) =
      let x = asks_spends a in
      let y = range_spends r in
      let z = together_spend b in
      let m = asked_append i ds (rs ++ more) in
      let n = asked_append i rs more in
      omega (arith, x, y, z, m, n)

-- ---- one list

abbrev Alike : List Mark → List Mark → List Demand → List Demand → Type 0
Alike ns ls ds es = (ns ≡ ls) × (ds ≡ es)

joined : {ns ls : List Mark} {ds es ds' es' : List Demand} → ds ≡ es → Alike ns ls ds' es' → Alike ns ls (ds ++ ds') (es ++ es')
joined {es = es} {ds' = ds'} e a = (a.0, ap (λ (x : List Demand). x ++ ds') e ∙ ap (λ (x : List Demand). es ++ x) a.1)

same_some : {A : Type 0} (x y : A) → Some x ≡ Some y → x ≡ y
same_some x y e = cc

same_held : (s t : Form) → Some (holds s) ≡ Some (holds t) → s ≡ t
same_held s t e = cc

module _ (types : List Form) (call : Call) where
  shape_same : {room : ℕ} {body : Vals} {link : Option Count} {moved : Option Stood} {s t : Form} {v : Val} {ms ns : List Mark} {ds : List Demand} → s ≡ t
      → Asks types call room body link moved t v ms ns ds → Asks types call room body link moved s v ms ns ds
  shape_same {room} {body} {link} {moved} {v = v} {ms = ms} {ns = ns} {ds = ds} e a = subst (λ (z : Form). Asks types call room body link moved z v ms ns ds) (sym e) a

  value_same : {room : ℕ} {body : Vals} {link : Option Count} {moved : Option Stood} {s : Form} {v w : Val} {ms ns : List Mark} {ds : List Demand} → v ≡ w
      → Asks types call room body link moved s w ms ns ds → Asks types call room body link moved s v ms ns ds
  value_same {room} {body} {link} {moved} {s} {ms = ms} {ns = ns} {ds = ds} e a = subst (λ (z : Val). Asks types call room body link moved s z ms ns ds) (sym e) a

  asks_from : {room : ℕ} {body : Vals} {link : Option Count} {moved : Option Stood} {s : Form} {v : Val} {ms ls ns : List Mark} {ds : List Demand} → ms ≡ ls
      → Asks types call room body link moved s v ls ns ds → Asks types call room body link moved s v ms ns ds
  asks_from {room} {body} {link} {moved} {s} {v} {ns = ns} {ds = ds} e a = subst (λ (z : List Mark). Asks types call room body link moved s v z ns ds) (sym e) a

  each_same : {room : ℕ} {body : Vals} {a b : Option Stood} {ss : Forms} {vs : Vals} {ms ls ns : List Mark} {ds : List Demand} → a ≡ b → ms ≡ ls
      → AsksEach types call room body b ss vs ls ns ds → AsksEach types call room body a ss vs ms ns ds
  each_same {room} {body} {a} {b} {ss} {vs} {ms} {ls} {ns} {ds} e f x =
      subst (λ (z : Option Stood). AsksEach types call room body z ss vs ms ns ds) (sym e) (subst (λ (z : List Mark). AsksEach types call room body b ss vs z ns ds) (sym f) x)

  all_same : {room : ℕ} {body : Vals} {s : Form} {vs : Vals} {ms ls ns : List Mark} {ds : List Demand} → ms ≡ ls → AsksAll types call room body s vs ls ns ds → AsksAll types call room body s vs ms ns ds
  all_same {room} {body} {s} {vs} {ns = ns} {ds = ds} f x = subst (λ (z : List Mark). AsksAll types call room body s vs z ns ds) (sym f) x

  range_same : {r : Option Bounds} {v : Val} {ms ls ns : List Mark} {ds : List Demand} → ms ≡ ls → AsksRange r v ls ns ds → AsksRange r v ms ns ds
  range_same {r} {v} {ns = ns} {ds = ds} f x = subst (λ (z : List Mark). AsksRange r v z ns ds) (sym f) x

  together_same : {es : List Entry} {vs : Vals} {ms ls ns : List Mark} {ds : List Demand} → ms ≡ ls → AskTogether types call es vs ls ns ds → AskTogether types call es vs ms ns ds
  together_same {es} {vs} {ns = ns} {ds = ds} f x = subst (λ (z : List Mark). AskTogether types call es vs z ns ds) (sym f) x

  most_one : {body : Vals} {c : Count} {moved : Option Stood} {ms ns ls : List Mark} {ds es : List Demand} → AsksMost call body c moved ms ns ds → AsksMost call body c moved ms ls es → Alike ns ls ds es
  most_one asks_most_in_front asks_most_in_front = (refl, refl)
  most_one asks_most_here asks_most_here = (refl, refl)

  next_number : (i j : ℕ) (y z : ℤ) (ms ns : List Mark) → Number i y ∷ ms ≡ Number j z ∷ ns → (i ≡ j) × (y ≡ z) × (ms ≡ ns)
  next_number i j y z ms ns e = (cc, cc, cc)

  counts_one : {body : Vals} {kind : ArrayKind} {moved : Option Stood} {ms ns ls : List Mark} {ds es : List Demand} → AsksCounts call body moved kind ms ns ds → AsksCounts call body moved kind ms ls es
      → Alike ns ls ds es
  counts_one asks_fixed asks_fixed = (refl, refl)
  counts_one asks_varying asks_varying = (refl, refl)
  counts_one (asks_conformant a) (asks_conformant b) = most_one a b
  counts_one {body} (asks_both {i = i} {d = d} {z = y} {ms' = ns} {ds = ds} a) (asks_both {i = j} {z = z} {ms' = ls} {ds = es} b) =
      let x = most_one a b in
      let n = next_number i j y z ns ls x.0 in
      let count : a_count i y (named call body d) ≡ a_count j z (named call body d) = ap (λ (k : ℕ). a_count k y (named call body d)) n.0 ∙ ap (λ (u : ℤ). a_count j u (named call body d)) n.1 in
      joined x.1 (n.2, ap (λ (m : Demand). m ∷ []) count)

  record SameFront (own other : Option Stood) (ns ls : List Mark) : Type 0 where
    own_is : own ≡ other
    left_is : ns ≡ ls

  fronts_one : {ss : Forms} {moved own other : Option Stood} {ms ns ls : List Mark} → Fronts types ss moved own ms ns → Fronts types ss moved other ms ls → SameFront own other ns ls
  fronts_one fronts_greater fronts_greater = record { own_is = refl; left_is = refl }
  fronts_one (fronts is) (fronts e) = record { own_is = refl; left_is = refl }
  fronts_one (fronts is) (fronts_none e) = absurd (let f : true ≡ false = sym is ∙ e in cc)
  fronts_one (fronts_none is) (fronts e) = absurd (let f : true ≡ false = sym e ∙ is in cc)
  fronts_one (fronts_none is) (fronts_none e) = record { own_is = refl; left_is = refl }

  -- the tag of a union stands in the value and in its mark
  next_tag : (y z : ℤ) → VEmpty y ≡ VEmpty z → y ≡ z
  next_tag y z e = cc

  next_arm : (y z : ℤ) (v w : Val) → VUnion y v ≡ VUnion z w → (y ≡ z) × (v ≡ w)
  next_arm y z v w e = (cc, cc)

  empty_union : (y z : ℤ) (v : Val) → VUnion y v ≡ VEmpty z → ⊥
  empty_union y z v e = absurd cc

  union_empty : (y z : ℤ) (v : Val) → VEmpty y ≡ VUnion z v → ⊥
  union_empty y z v e = absurd cc

  tags_same : (body : Vals) (link : Option Count) {i j : ℕ} {y z : ℤ} → i ≡ j → y ≡ z → tag_demands call body link i y ≡ tag_demands call body link j z
  tags_same body link {i} {j} {y} {z} e f = ap (λ (k : ℕ). tag_demands call body link k y) e ∙ ap (λ (u : ℤ). tag_demands call body link j u) f

  empty_one : {room i : ℕ} {body : Vals} {link : Option Count} {moved : Option Stood} {t : Form} {arms : ArmForms} {tag : ℤ} {v : Val} {all ms ls : List Mark} {es : List Demand}
      → v ≡ VEmpty tag → all ≡ Number i tag ∷ ms → Asks types call room body link moved (OfUnion t arms) v all ls es → Alike ms ls (tag_demands call body link i tag) es
  empty_one e f (asks_plain x) = absurd cc
  empty_one {i = i} {body} {link} {tag = tag} {ms = ms} e f (asks_empty_arm {i = j} {tag = z} {ms = ns}) =
      let n = next_number j i z tag ns ms f in
      (sym n.2, tags_same body link (sym n.0) (sym n.1))
  empty_one {tag = tag} e f (asks_arm {tag = z} {v = w} x b) = absurd (empty_union z tag w e)

  arm_one : {room i : ℕ} {body : Vals} {link : Option Count} {moved : Option Stood} {t s : Form} {arms : ArmForms} {tag : ℤ} {v w : Val} {all ms ns ls : List Mark} {ds es : List Demand}
      → arm_of (OfUnion t arms) tag ≡ Some (holds s) → w ≡ VUnion tag v → all ≡ Number i tag ∷ ms
      → ((ls : List Mark) (es : List Demand) → Asks types call room no_val None None s v ms ls es → Alike ns ls ds es)
      → Asks types call room body link moved (OfUnion t arms) w all ls es → Alike ns ls (tag_demands call body link i tag ++ ds) es
  arm_one is e f go (asks_plain x) = absurd cc
  arm_one {tag = tag} {v = v} is e f go (asks_empty_arm {tag = z}) = absurd (union_empty z tag v e)
  arm_one {i = i} {body} {link} {t = t} {s = s} {arms = arms} {tag = tag} {v = v} {ms = ms} {ls = ls} is e f go (asks_arm {i = j} {s = u} {tag = z} {v = w} {ms = ns} {ds = es} x b) =
      let n = next_number j i z tag ns ms f in
      let same = next_arm z tag w v e in
      let shape = same_held s u (sym is ∙ ap (arm_of (OfUnion t arms)) (sym n.1) ∙ x) in
      joined (tags_same body link (sym n.0) (sym n.1)) (go ls es (shape_same shape (value_same (sym same.1) (asks_from (sym n.2) b))))

  mutual
    asks_one : {room : ℕ} {body : Vals} {link : Option Count} {moved : Option Stood} {s : Form} {v : Val} {ms ns ls : List Mark} {ds es : List Demand}
        → Asks types call room body link moved s v ms ns ds → Asks types call room body link moved s v ms ls es → Alike ns ls ds es
    asks_one (asks_plain is) (asks_plain e) = (refl, refl)
    asks_one (asks_plain is) (asks_name e b) = absurd cc
    asks_one (asks_plain is) (asks_members f b) = absurd cc
    asks_one (asks_plain is) asks_empty_arm = absurd cc
    asks_one (asks_plain is) (asks_arm e b) = absurd cc
    asks_one (asks_plain is) (asks_array c b) = absurd cc
    asks_one (asks_plain is) (asks_ref b) = absurd cc
    asks_one (asks_plain is) asks_null = absurd cc
    asks_one (asks_plain is) (asks_unique b) = absurd cc
    asks_one (asks_plain is) asks_null_full = absurd cc
    asks_one (asks_plain is) (asks_new e b) = absurd cc
    asks_one (asks_plain is) asks_repeat = absurd cc
    asks_one (asks_name is a) (asks_plain e) = absurd cc
    asks_one (asks_name {s = s} is a) (asks_name {s = t} e b) = asks_one a (shape_same (same_some s t (sym is ∙ e)) b)
    asks_one (asks_members f a) (asks_plain e) = absurd cc
    asks_one (asks_members f a) (asks_members g b) = let x = fronts_one f g in each_one a (each_same x.own_is x.left_is b)
    asks_one asks_empty_arm b = empty_one refl refl b
    asks_one (asks_arm is a) b = arm_one is refl refl (λ ls es x. asks_one a x) b
    asks_one (asks_array c a) (asks_plain e) = absurd cc
    asks_one (asks_array c a) (asks_array d b) = let x = counts_one c d in joined x.1 (all_one a (all_same x.0 b))
    asks_one (asks_ref a) (asks_plain e) = absurd cc
    asks_one (asks_ref a) (asks_ref b) = asks_one a b
    asks_one asks_null (asks_plain e) = absurd cc
    asks_one asks_null asks_null = (refl, refl)
    asks_one (asks_unique a) (asks_plain e) = absurd cc
    asks_one (asks_unique a) (asks_unique b) = asks_one a b
    asks_one asks_null_full (asks_plain e) = absurd cc
    asks_one asks_null_full asks_null_full = (refl, refl)
    asks_one (asks_new is a) (asks_plain e) = absurd cc
    asks_one (asks_new {v = v} is a) (asks_new {v = w} e b) = asks_one a (value_same (same_some v w (sym is ∙ e)) b)
    asks_one asks_repeat (asks_plain e) = absurd cc
    asks_one asks_repeat asks_repeat = (refl, refl)

    each_one : {room : ℕ} {body : Vals} {moved : Option Stood} {ss : Forms} {vs : Vals} {ms ns ls : List Mark} {ds es : List Demand}
        → AsksEach types call room body moved ss vs ms ns ds → AsksEach types call room body moved ss vs ms ls es → Alike ns ls ds es
    each_one no_member_asks no_member_asks = (refl, refl)
    each_one (member_asks a more) (member_asks b bs) = let x = asks_one a b in joined x.1 (each_one more (each_same refl x.0 bs))

    all_one : {room : ℕ} {body : Vals} {s : Form} {vs : Vals} {ms ns ls : List Mark} {ds es : List Demand}
        → AsksAll types call room body s vs ms ns ds → AsksAll types call room body s vs ms ls es → Alike ns ls ds es
    all_one (none_asks is) (none_asks e) = (refl, refl)
    all_one (none_asks is) no_element_asks = (refl, refl)
    all_one (none_asks is) (element_asks e b bs) = absurd (let f : true ≡ false = sym is ∙ e in cc)
    all_one no_element_asks (none_asks e) = (refl, refl)
    all_one no_element_asks no_element_asks = (refl, refl)
    all_one (element_asks is a more) (none_asks e) = absurd (let f : true ≡ false = sym e ∙ is in cc)
    all_one (element_asks is a more) (element_asks e b bs) = let x = asks_one a b in joined x.1 (all_one more (all_same x.0 bs))

  range_one : {r : Option Bounds} {v : Val} {ms ns ls : List Mark} {ds es : List Demand} → AsksRange r v ms ns ds → AsksRange r v ms ls es → Alike ns ls ds es
  range_one asks_no_range asks_no_range = (refl, refl)
  range_one asks_range asks_range = (refl, refl)

  pub together_one : {es : List Entry} {vs : Vals} {ms ns ls : List Mark} {ds rs : List Demand} → AskTogether types call es vs ms ns ds → AskTogether types call es vs ms ls rs → Alike ns ls ds rs
  together_one no_entry_asks no_entry_asks = (refl, refl)
  together_one (entry_asks a r more) (entry_asks b u bs) =
      let x = asks_one a b in
      let y = range_one r (range_same x.0 u) in
      joined x.1 (joined y.1 (together_one more (together_same y.0 bs)))
