-- The first of the numbers that aren't met, in the order of the octets.
use Rattle.std.proofs.Common.{◌≡◌, ℕ, ◌≤◌, ℤ, Bool, true, false, List, [], ◌∷◌, ◌++◌, Option, Some, None, refl, sym, ap, ◌∙◌, arith, inl, inr, ◌⊎◌}
use Rattle.std.specs.Prelude.{nat_lt, int_le, ◌&&◌, ◌≤ℤ◌, if◌then◌else◌}
use Rattle.std.specs.Ordering.{int_eq}
use Rattle.std.proofs.lemmas.Bool.{ltb-true, ltb-false}
use Rattle.ndr_table.specs.declared.operation.Bounds.{Bounds}
use Rattle.ndr_model.specs.declared.departure.Departure.{Departure}
use Rattle.ndr_model.specs.declared.departure.Departure.TheVariants.{Bound, Tag}
use Rattle.ndr_model.specs.Compare.{place_of, sooner, equals, count_off, tag_off}
use Rattle.ndr_faults.specs.Asked.{Demand, a_count, a_tag, a_number, IsMet, departure_of, MetBefore, IsLeast}

abbrev pub bounds_off : Option ℤ → Bounds → ℕ → Option Departure
bounds_off None b i = Some (Bound i)
bounds_off (Some z) b i = if int_le b.low z && int_le z b.high then None else Some (Bound i)

-- what is found of a number
abbrev pub off_of : Demand → Option Departure
off_of (a_count i z want) = count_off want (i, z)
off_of (a_tag i z want) = tag_off want (i, z)
off_of (a_number i z b) = bounds_off z b i

-- what is found of numbers, after what was found before
abbrev pub least : Option Departure → List Demand → Option Departure
least o [] = o
least o (m ∷ ms) = least (sooner o (off_of m)) ms

pub least_append : (o : Option Departure) (ds es : List Demand) → least o (ds ++ es) ≡ least (least o ds) es
least_append o [] es = refl
least_append o (m ∷ ms) es = least_append (sooner o (off_of m)) ms es

pub off_then : (o a b : Option Departure) (ds es : List Demand) → a ≡ least o ds → b ≡ least a es → b ≡ least o (ds ++ es)
off_then o a b ds es e f = f ∙ ap (λ (x : Option Departure). least x es) e ∙ sym (least_append o ds es)

pub sooner_nothing : (o : Option Departure) → sooner o None ≡ o
sooner_nothing None = refl
sooner_nothing (Some a) = refl

-- ---- what isn't found is met

none_or : (b : Bool) (d : Departure) → (if b then None else Some d) ≡ None → b ≡ true
none_or true d e = refl
none_or false d e = absurd cc

some_or : (b : Bool) (c d : Departure) → (if b then None else Some c) ≡ Some d → (b ≡ false) × (c ≡ d)
some_or true c d e = absurd cc
some_or false c d e = (refl, cc)

int_same : (y z : ℤ) → int_eq y z ≡ true → y ≡ z
int_same y z e = grind (arith)

int_self : (z : ℤ) → int_eq z z ≡ true
int_self z = grind (arith)

equals_is : (want : Option ℤ) (z : ℤ) → equals want z ≡ true → want ≡ Some z
equals_is None z e = absurd cc
equals_is (Some y) z e = ap Some (int_same y z e)

not_equals : (want : Option ℤ) (z : ℤ) → equals want z ≡ false → want ≡ Some z → ⊥
not_equals want z e is = absurd (let f = ap (λ (o : Option ℤ). equals o z) is ∙ int_self z in let g : false ≡ true = sym e ∙ f in cc)

within : (b : Bounds) (z : ℤ) → (int_le b.low z && int_le z b.high) ≡ true → (b.low ≤ℤ z) × (z ≤ℤ b.high)
within b z e = by (int_le b.low z) (int_le z b.high) refl refl e
  where
    by : (x y : Bool) → int_le b.low z ≡ x → int_le z b.high ≡ y → (x && y) ≡ true → (b.low ≤ℤ z) × (z ≤ℤ b.high)
    by true true e f g = (grind (arith), grind (arith))
    by true false e f g = absurd cc
    by false y e f g = absurd cc

not_within : (b : Bounds) (z : ℤ) → (int_le b.low z && int_le z b.high) ≡ false → (b.low ≤ℤ z) × (z ≤ℤ b.high) → ⊥
not_within b z e is = by (le_so b.low z is.0) (le_so z b.high is.1) e
  where
    le_so : (x y : ℤ) → x ≤ℤ y → int_le x y ≡ true
    le_so x y le = grind (arith)

    by : {x y : Bool} → x ≡ true → y ≡ true → (x && y) ≡ false → ⊥
    by {x} {y} f g h = absurd (let k : (x && y) ≡ true = ap (λ (z : Bool). z && y) f ∙ g in let l : false ≡ true = sym h ∙ k in cc)

met : (m : Demand) → off_of m ≡ None → IsMet m
met (a_count i z want) e = equals_is want z (none_or (equals want z) (Bound i) e)
met (a_tag i z want) e = equals_is want z (none_or (equals want z) (Tag i) e)
met (a_number i None b) e = absurd cc
met (a_number i (Some z) b) e = within b z (none_or (int_le b.low z && int_le z b.high) (Bound i) e)

unmet : (m : Demand) (d : Departure) → off_of m ≡ Some d → (IsMet m → ⊥) × (departure_of m ≡ d)
unmet (a_count i z want) d e = let f = some_or (equals want z) (Bound i) d e in (not_equals want z f.0, f.1)
unmet (a_tag i z want) d e = let f = some_or (equals want z) (Tag i) d e in (not_equals want z f.0, f.1)
unmet (a_number i None b) d e = ((λ x. x), cc)
unmet (a_number i (Some z) b) d e = let f = some_or (int_le b.low z && int_le z b.high) (Bound i) d e in (not_within b z f.0, f.1)

-- ---- the first

some_is : (x y : Departure) → Some x ≡ Some y → x ≡ y
some_is x y e = cc

-- the sooner of what was found and of what is found now
record Sooner (o : Option Departure) (y : Departure) : Type 0 where
  it : Departure
  is : sooner o (Some y) ≡ Some it
  whose : (o ≡ Some it) ⊎ (y ≡ it)
  below : place_of it ≤ place_of y
  under : (x : Departure) → o ≡ Some x → place_of it ≤ place_of x

the_sooner : (o : Option Departure) (y : Departure) → Sooner o y
the_sooner None y = record { it = y; is = refl; whose = inr refl; below = omega arith; under = λ x e. absurd cc }
the_sooner (Some a) y = by (nat_lt (place_of y) (place_of a)) refl
  where
    by : (b : Bool) → nat_lt (place_of y) (place_of a) ≡ b → Sooner (Some a) y
    by true e =
        let lt = ltb-true _ _ e in
        record { it = y; is = ap (λ (b : Bool). if b then Some y else Some a) e; whose = inr refl; below = omega arith; under = λ x f. let same = ap place_of (some_is a x f) in omega (arith, lt, same) }
    by false e =
        let le = ltb-false _ _ e in
        record { it = a; is = ap (λ (b : Bool). if b then Some y else Some a) e; whose = inl refl; below = omega (arith, le); under = λ x f. let same = ap place_of (some_is a x f) in omega (arith, same) }

data Chosen (o : Option Departure) (ds : List Demand) (d : Departure) : Type 0 where
  so_far : o ≡ Some d → Chosen o ds d
  one_of : (before : List Demand) (m : Demand) (behind : List Demand) → ds ≡ before ++ m ∷ behind → departure_of m ≡ d → (IsMet m → ⊥) → Chosen o ds d

record Choice (o : Option Departure) (ds : List Demand) (d : Departure) : Type 0 where
  chosen : Chosen o ds d
  first : MetBefore (place_of d) ds
  under : (x : Departure) → o ≡ Some x → place_of d ≤ place_of x

choice : (o : Option Departure) (ds : List Demand) (d : Departure) → least o ds ≡ Some d → Choice o ds d
choice o [] d e = record { chosen = so_far e; first = tt; under = λ x f. let same = ap place_of (some_is d x (sym e ∙ f)) in omega (arith, same) }
choice o (m ∷ ms) d e = by (off_of m) refl (choice (sooner o (off_of m)) ms d e)
  where
    later : {p : Option Departure} → Chosen p ms d → (p ≡ Some d → Chosen o (m ∷ ms) d) → Chosen o (m ∷ ms) d
    later (so_far f) go = go f
    later (one_of before x behind is at un) go = one_of (m ∷ before) x behind (ap (λ (xs : List Demand). m ∷ xs) is) at un

    by : (x : Option Departure) → off_of m ≡ x → Choice (sooner o (off_of m)) ms d → Choice o (m ∷ ms) d
    by None is c =
        let same : sooner o (off_of m) ≡ o = ap (sooner o) is ∙ sooner_nothing o in
        record { chosen = later c.chosen (λ f. so_far (sym same ∙ f)); first = ((λ lt. met m is), c.first); under = λ x f. c.under x (same ∙ f) }
    by (Some y) is c =
        let s = the_sooner o y in
        let same : sooner o (off_of m) ≡ Some s.it = ap (sooner o) is ∙ s.is in
        let u = unmet m y is in
        let le = c.under s.it same in
        let below = s.below in
        let at = ap place_of u.1 in
        record {
          chosen = later c.chosen (λ f. whose s (some_is s.it d (sym same ∙ f)) u s.whose);
          first = ((λ lt. absurd (omega (arith, lt, le, below, at))), c.first);
          under = λ x f. let more = s.under x f in omega (arith, le, more);
        }
      where
        whose : (s : Sooner o y) → s.it ≡ d → (IsMet m → ⊥) × (departure_of m ≡ y) → (o ≡ Some s.it) ⊎ (y ≡ s.it) → Chosen o (m ∷ ms) d
        whose s f u (inl g) = so_far (g ∙ ap Some f)
        whose s f u (inr g) = one_of [] m ms refl (u.1 ∙ g ∙ f) u.0

pub least_is : (ds : List Demand) (d : Departure) → least None ds ≡ Some d → IsLeast ds d
least_is ds d e = by (choice None ds d e)
  where
    by : Choice None ds d → IsLeast ds d
    by c = of c.chosen
      where
        of : Chosen None ds d → IsLeast ds d
        of (so_far f) = absurd cc
        of (one_of before m behind is at un) = record { before = before; demand = m; behind = behind; among = is; is = at; unmet = un; first = c.first }
