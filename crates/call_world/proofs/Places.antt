-- Connections are found among others.
use Rattle.std.proofs.Common.{◌≡◌, ◌≢◌, ℕ, ◌+◌, ◌<◌, ◌≤◌, ◌⊎◌, inl, inr, Bool, true, false, eqb, Option, Some, None, List, [], ◌∷◌, length, get_or, refl, sym, ap, subst, ◌∙◌, arith}
use Rattle.std.specs.Prelude.{slice_get, nat_lt, position, if◌then◌else◌}
use Rattle.std.specs.List.{position_or_len}
use Rattle.std.proofs.lemmas.Bool.{and_parts, and_cases, and_from, both_ways, ltb-true, ltb-false, eqb-true, eq-eqb}
use Rattle.std.proofs.lemmas.List.Quantifiers.{position-Some}
use Rattle.std.proofs.lemmas.List.Sums.{fails_before_first}
use Rattle.std.proofs.lemmas.Option.{get_or_from_slice_get}
use Rattle.world_laws.proofs.Lists.{some_is, within, there}
use Rattle.call_world.specs.declared.line.Line.{Line as Wire}
use Rattle.call_world.specs.declared.world.World.{World as Machine}
use Rattle.call_world.specs.Rows.{FindsLeast, is_named, stands_as, is_lesser}
use Rattle.call_world.proofs.Lining.{decided}

-- the connection that was read stands at its place
pub read_is : (ts : List Wire) (i : ℕ) (t : Wire) → i < length ts → t ≡ get_or ts i t → slice_get ts i ≡ Some t
read_is ts i t lt read =
    let f = there ts i lt in
    f.1 ∙ ap (λ (z : Wire). Some z) (sym (read ∙ get_or_from_slice_get ts i f.0 t f.1))

-- ---- the first of which something holds

no_less : (b : Bool) (n : ℕ) → None ≡ (if b then Some n else None) → b ≡ false
no_less false n e = refl
no_less true n e = absurd (cc (e))

-- it holds of the connection at the place that was found
pub found_at : (p : Wire → Bool) (ts : List Wire) (i : ℕ) → Some i ≡ position p ts → (t : Wire) × (slice_get ts i ≡ Some t) × (p t ≡ true)
found_at p [] i e = absurd (cc (e))
found_at p (s ∷ ts) i e =
    let q = position-Some p (s ∷ ts) i s (sym e) in
    let f = there (s ∷ ts) i q.0 in
    (f.0, f.1, ap p (sym (get_or_from_slice_get (s ∷ ts) i f.0 s f.1)) ∙ q.1)

-- where there is no such place it holds of none
pub missed_at : (p : Wire → Bool) (ts : List Wire) → None ≡ position p ts → (i : ℕ) (t : Wire) → slice_get ts i ≡ Some t → p t ≡ false
missed_at p ts e i t at =
    let all : length ts ≤ position_or_len p ts = ltb-false (position_or_len p ts) (length ts) (no_less (nat_lt (position_or_len p ts) (length ts)) (position_or_len p ts) e) in
    ap p (sym (get_or_from_slice_get ts i t t at)) ∙ fails_before_first p ts i t (omega (arith, within ts i t at, all))

-- ---- the one of the least name that stands

abbrev pub LeastBefore : List Wire → Option (ℕ × ℕ) → ℕ → Type 0
LeastBefore ts None n = (j : ℕ) (s : Wire) → slice_get ts j ≡ Some s → j < n → s.standing ≡ true → ⊥
LeastBefore ts (Some (name, i)) n =
    (t : Wire) × (slice_get ts i ≡ Some t) × (t.standing ≡ true) × (t.name ≡ name)
    × ((j : ℕ) (s : Wire) → slice_get ts j ≡ Some s → j < n → s.standing ≡ true → name ≤ s.name)

module _ (ts : List Wire) (i : ℕ) (t : Wire) (lt : i < length ts) (read : t ≡ get_or ts i t) where
  same_here : (j : ℕ) (s : Wire) → slice_get ts j ≡ Some s → j ≡ i → s ≡ t
  same_here j s at same = some_is s t (sym at ∙ ap (slice_get ts) same ∙ read_is ts i t lt read)

  pub least_new : (o : Option (ℕ × ℕ)) → LeastBefore ts o i → is_lesser o t ≡ true → LeastBefore ts (Some (t.name, i)) (i + 1)
  least_new None least lesser = (t, read_is ts i t lt read, lesser, refl, λ j s at less stands. at_place j s at less stands (decided i j (eqb j i) refl))
    where
      at_place : (j : ℕ) (s : Wire) → slice_get ts j ≡ Some s → j < i + 1 → s.standing ≡ true → (j ≡ i) ⊎ (j ≢ i) → t.name ≤ s.name
      at_place j s at less stands (inl same) = omega (arith, ap (λ (z : Wire). z.name) (same_here j s at same))
      at_place j s at less stands (inr other) = absurd (least j s at (omega (arith, less, other)) stands)
  least_new (Some (name, k)) (l, l_at, l_stands, l_name, l_least) lesser =
      let parts = and_parts t.standing (nat_lt t.name name) lesser in
      (t, read_is ts i t lt read, parts.0, refl, λ j s at less stands. at_place (ltb-true t.name name parts.1) j s at less stands (decided i j (eqb j i) refl))
    where
      at_place : t.name < name → (j : ℕ) (s : Wire) → slice_get ts j ≡ Some s → j < i + 1 → s.standing ≡ true → (j ≡ i) ⊎ (j ≢ i) → t.name ≤ s.name
      at_place below j s at less stands (inl same) = omega (arith, ap (λ (z : Wire). z.name) (same_here j s at same))
      at_place below j s at less stands (inr other) = omega (arith, below, l_least j s at (omega (arith, less, other)) stands)

  pub least_old : (o : Option (ℕ × ℕ)) → LeastBefore ts o i → is_lesser o t ≡ false → LeastBefore ts o (i + 1)
  least_old None least not_lesser = λ j s at less stands. at_place j s at less stands (decided i j (eqb j i) refl)
    where
      at_place : (j : ℕ) (s : Wire) → slice_get ts j ≡ Some s → j < i + 1 → s.standing ≡ true → (j ≡ i) ⊎ (j ≢ i) → ⊥
      at_place j s at less stands (inl same) = both_ways t.standing not_lesser (ap (λ (z : Wire). z.standing) (sym (same_here j s at same)) ∙ stands)
      at_place j s at less stands (inr other) = least j s at (omega (arith, less, other)) stands
  least_old (Some (name, k)) (l, l_at, l_stands, l_name, l_least) not_lesser =
      (l, l_at, l_stands, l_name, λ j s at less stands. at_place j s at less stands (decided i j (eqb j i) refl))
    where
      above : t.standing ≡ true → (t.standing ≡ false) ⊎ (nat_lt t.name name ≡ false) → name ≤ t.name
      above stands (inl not_so) = absurd (both_ways t.standing not_so stands)
      above stands (inr not_below) = ltb-false t.name name not_below

      at_place : (j : ℕ) (s : Wire) → slice_get ts j ≡ Some s → j < i + 1 → s.standing ≡ true → (j ≡ i) ⊎ (j ≢ i) → name ≤ s.name
      at_place j s at less stands (inl same) =
          let alike = same_here j s at same in
          omega (arith, above (ap (λ (z : Wire). z.standing) (sym alike) ∙ stands) (and_cases t.standing (nat_lt t.name name) not_lesser), ap (λ (z : Wire). z.name) alike)
      at_place j s at less stands (inr other) = l_least j s at (omega (arith, less, other)) stands

pub least_none : (ts : List Wire) (n : ℕ) → LeastBefore ts None n → length ts ≤ n → FindsLeast ts None
least_none ts n least all j s at stands = least j s at (omega (arith, within ts j s at, all)) stands

pub least_some : (ts : List Wire) (name i n : ℕ) → LeastBefore ts (Some (name, i)) n → length ts ≤ n → FindsLeast ts (Some i)
least_some ts name i n (t, at, stands, named, least) all = (t, at, stands, λ j s s_at s_stands. omega (arith, named, least j s s_at (omega (arith, within ts j s s_at, all)) s_stands))

-- ---- the connection that was found and read

pub record Read (x : Machine) (c i : ℕ) (s : Wire) : Type 0 where
  pub at : slice_get x.lines.items i ≡ Some s
  pub named : s.name ≡ c
  pub stands : s.standing ≡ true

pub found_within : (p : Wire → Bool) (ts us : List Wire) (i : ℕ) → ts ≡ us → Some i ≡ position p ts → i < length us
found_within p ts us i same e = let f = found_at p ts i e in subst (λ (vs : List Wire). i < length vs) same (within ts i f.0 f.1)

pub read_standing : (x : Machine) (ts : List Wire) (c i : ℕ) (s : Wire) → ts ≡ x.lines.items → Some i ≡ position (stands_as c) ts → s ≡ get_or x.lines.items i s → Read x c i s
read_standing x ts c i s same e read =
    let (t, at, is) = found_at (stands_as c) ts i e in
    let at_x : slice_get x.lines.items i ≡ Some t = subst (λ (vs : List Wire). slice_get vs i ≡ Some t) same at in
    let alike : s ≡ t = read ∙ get_or_from_slice_get x.lines.items i t s at_x in
    let parts = and_parts (eqb t.name c) t.standing is in
    record {
      at = at_x ∙ ap (λ (z : Wire). Some z) (sym alike);
      named = ap (λ (z : Wire). z.name) alike ∙ eqb-true t.name c parts.0;
      stands = ap (λ (z : Wire). z.standing) alike ∙ parts.1;
    }

-- none of that name stands
pub none_found : (ts us : List Wire) (c : ℕ) → ts ≡ us → None ≡ position (stands_as c) ts → (i : ℕ) (t : Wire) → slice_get us i ≡ Some t → t.name ≡ c → t.standing ≡ true → ⊥
none_found ts us c same e i t at named stands =
    both_ways (stands_as c t) (missed_at (stands_as c) ts e i t (subst (λ (vs : List Wire). slice_get vs i ≡ Some t) (sym same) at)) (and_from (eqb t.name c) t.standing (eq-eqb t.name c named) stands)

-- none has that name
pub none_named : (ts us : List Wire) (c : ℕ) → ts ≡ us → None ≡ position (is_named c) ts → (i : ℕ) (t : Wire) → slice_get us i ≡ Some t → t.name ≡ c → ⊥
none_named ts us c same e i t at named = both_ways (is_named c t) (missed_at (is_named c) ts e i t (subst (λ (vs : List Wire). slice_get vs i ≡ Some t) (sym same) at)) (eq-eqb t.name c named)

-- the one of the least name
pub least_within : (ts us : List Wire) (i : ℕ) → ts ≡ us → FindsLeast ts (Some i) → i < length us
least_within ts us i same (t, at, stands, least) = subst (λ (vs : List Wire). i < length vs) same (within ts i t at)

pub read_least : (ts : List Wire) (i : ℕ) (s : Wire) → FindsLeast ts (Some i) → s ≡ get_or ts i s → (slice_get ts i ≡ Some s) × (s.standing ≡ true)
read_least ts i s (t, at, stands, least) read =
    let alike : s ≡ t = read ∙ get_or_from_slice_get ts i t s at in
    (at ∙ ap (λ (z : Wire). Some z) (sym alike), ap (λ (z : Wire). z.standing) alike ∙ stands)

-- what is read twice is one
pub read_same : (ts : List Wire) (i : ℕ) (s t : Wire) → i < length ts → s ≡ get_or ts i s → t ≡ get_or ts i t → s ≡ t
read_same ts i s t lt a b = some_is s t (sym (read_is ts i s lt a) ∙ read_is ts i t lt b)

pub some_named : (ts us : List Wire) (c i : ℕ) → ts ≡ us → Some i ≡ position (is_named c) ts → (t : Wire) × (slice_get us i ≡ Some t) × (t.name ≡ c)
some_named ts us c i same e = let (t, at, is) = found_at (is_named c) ts i e in (t, subst (λ (vs : List Wire). slice_get vs i ≡ Some t) same at, eqb-true t.name c is)
