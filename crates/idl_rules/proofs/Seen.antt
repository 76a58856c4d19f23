-- What stands again, as something that was seen before.
use Rattle.std.proofs.Common.{◌≡◌, ℕ, min, Bool, true, false, cond, ◌||◌, List, [], ◌∷◌, ◌++◌, map, Option, Some, None, Vec, Global, ℤ, refl, ap, sym, ◌∙◌, arith}
use Rattle.std.specs.Prelude.{bytes_eq, if◌then◌else◌}
use Rattle.std.specs.declared.cmp.Ordering.{Ordering}
use Rattle.std.specs.declared.cmp.Ordering.TheVariants.{Less, Equal, Greater}
use Rattle.std.specs.Ordering.{nat_cmp, int_cmp, int_eq, is_eq, match_ordering}
use Rattle.std.specs.Cmp.Lexicographic.{slice_cmp}
use Rattle.std.specs.List.{list_any, filter}
use Rattle.std.specs.BTreeSet.{BTreeSet, insert_key, Updates}
use Rattle.std.specs.Cmp.{nat_eq_equiv}
use Rattle.std.proofs.lemmas.Cmp.{lists_equiv}
use Rattle.std.proofs.lemmas.Map.Text.{is_eq-slice_cmp}
use Rattle.std.proofs.lemmas.Slice.Eq.{bytes_eq-Decides}
use Rattle.std.proofs.lemmas.List.Elements.{filter-append}
use Rattle.std.proofs.lemmas.List.Folds.{list_any-append}
use Rattle.idl_rules.specs.declared.again.Key.{Key as SeenKey}
use Rattle.idl_rules.specs.Least.{least, lesser}
use Rattle.idl_rules.specs.Places.{at_if, repeats}
use Rattle.idl_rules.specs.Key.{same_key}
use Rattle.idl_rules.specs.Seen.{has_name, has_number}
use Rattle.idl_rules.proofs.Leasts.{least_append, lesser_assoc, lesser_none}

-- ---- a set of names behind an insertion

abbrev Key : Type 0
Key = Vec ℕ Global

abbrev by_items : Key → Key → Ordering
by_items k e = slice_cmp nat_cmp k.items e.items

abbrev at : List ℕ → Key → Bool
at text k = is_eq (slice_cmp nat_cmp text k.items)

equal_keys : (k e : Key) → Equal ≡ by_items k e → k.items ≡ e.items
equal_keys k e h = (bytes_eq-Decides k.items e.items).0 (sym (is_eq-slice_cmp k.items e.items) ∙ sym (ap is_eq h))

same_at : (text : List ℕ) (k e : Key) → Equal ≡ by_items k e → at text e ≡ at text k
same_at text k e h = ap (λ (xs : List ℕ). is_eq (slice_cmp nat_cmp text xs)) (sym (equal_keys k e h))

or_swap : (a b c : Bool) → a || (b || c) ≡ b || (a || c)
or_swap true true c = refl
or_swap true false c = refl
or_swap false true c = refl
or_swap false false c = refl

or_over : (a b c : Bool) → a ≡ b → a || c ≡ b || (a || c)
or_over true true c e = refl
or_over true false c e = absurd (cc)
or_over false true c e = absurd (cc)
or_over false false c e = refl

key_step : (text : List ℕ) (k e : Key) (es : List Key) (o : Ordering) → o ≡ by_items k e → list_any (at text) (insert_key by_items es k) ≡ at text k || list_any (at text) es
    → list_any (at text) (match_ordering o (k ∷ e ∷ es) (e ∷ es) (e ∷ insert_key by_items es k)) ≡ at text k || list_any (at text) (e ∷ es)
key_step text k e es Less h i = refl
key_step text k e es Equal h i = or_over (at text e) (at text k) (list_any (at text) es) (same_at text k e h)
key_step text k e es Greater h i = ap (λ (b : Bool). at text e || b) i ∙ or_swap (at text e) (at text k) (list_any (at text) es)

any_inserted : (text : List ℕ) (k : Key) (es : List Key) → list_any (at text) (insert_key by_items es k) ≡ at text k || list_any (at text) es
any_inserted text k [] = refl
any_inserted text k (e ∷ es) = key_step text k e es (by_items k e) refl (any_inserted text k es)

pub seen_more : (old new : BTreeSet Key) (k : Key) (name text : List ℕ) → k.items ≡ name → new.keys ≡ insert_key by_items old.keys k → has_name new text ≡ (bytes_eq name text || has_name old text)
seen_more old new k name text e keys =
    ap (list_any (at text)) keys
    ∙ (any_inserted text k old.keys
    ∙ ap (λ (b : Bool). b || list_any (at text) old.keys) (is_eq-slice_cmp text k.items ∙ ((lists_equiv nat_eq_equiv).symm text k.items ∙ ap (λ (xs : List ℕ). bytes_eq xs text) e)))

-- a set of numbers behind an insertion
or_is : (a b : Bool) → cond a true b ≡ a || b
or_is true b = refl
or_is false b = refl

pub number_more : (old new : BTreeSet ℤ) (k z : ℤ) → Updates int_cmp old new k true → has_number new z ≡ (int_eq k z || has_number old z)
number_more old new k z u = u.0 z ∙ or_is (int_eq k z) (has_number old z)

pub ruleset inserted = (seen_more, number_more)

-- ---- one more

comm_by : (x y : ℕ) → lesser (Some x) (Some y) ≡ lesser (Some y) (Some x)
comm_by x y = let e : min x y ≡ min y x = omega arith in ap Some e

lesser_comm : (x y : Option ℕ) → lesser x y ≡ lesser y x
lesser_comm None y = sym (lesser_none y)
lesser_comm (Some x) None = refl
lesser_comm (Some x) (Some y) = comm_by x y

lesser_same : (x : Option ℕ) → lesser x x ≡ x
lesser_same None = refl
lesser_same (Some x) = let e : min x x ≡ x = omega arith in ap Some e

-- (a, p) with (r, q) is (a, r) with (p, q)
crossed : (a p r q : Option ℕ) → lesser (lesser a p) (lesser r q) ≡ lesser (lesser a r) (lesser p q)
crossed a p r q =
    lesser_assoc a p (lesser r q)
    ∙ (ap (lesser a) (sym (lesser_assoc p r q) ∙ (ap (λ x. lesser x q) (lesser_comm p r) ∙ lesser_assoc r p q))
    ∙ sym (lesser_assoc a r (lesser p q)))

abbrev one : Bool → ℕ → Option ℕ
one b at = least (at_if b at)

either : (b c : Bool) (at : ℕ) → lesser (one b at) (one c at) ≡ one (b || c) at
either true true at = lesser_same (Some at)
either true false at = refl
either false c at = refl

map-append : {X Y : Type 0} (f : X → Y) (xs ys : List X) → map f (xs ++ ys) ≡ map f xs ++ map f ys
map-append f [] ys = refl
map-append f (x ∷ xs) ys = ap (λ zs. f x ∷ zs) (map-append f xs ys)

last_one : {X : Type 0} (p : X → Bool) (place : X → ℕ) (y : X) (b : Bool) → b ≡ p y → least (map place (if b then y ∷ [] else [])) ≡ one b (place y)
last_one p place y true e = refl
last_one p place y false e = refl

filtered_snoc : {X : Type 0} (p : X → Bool) (place : X → ℕ) (xs : List X) (y : X) → least (map place (filter p (xs ++ y ∷ []))) ≡ lesser (least (map place (filter p xs))) (one (p y) (place y))
filtered_snoc p place xs y =
    ap (λ zs. least (map place zs)) (filter-append p xs (y ∷ []))
    ∙ (ap least (map-append place (filter p xs) (filter p (y ∷ [])))
    ∙ (least_append (map place (filter p xs)) (map place (filter p (y ∷ [])))
    ∙ ap (lesser (least (map place (filter p xs)))) (last_one p place y (p y) refl)))

pub repeats_snoc : {X : Type 0} (same : X → X → Bool) (place : X → ℕ) (xs : List X) (y : X) → least (repeats same place (xs ++ y ∷ [])) ≡ lesser (least (repeats same place xs)) (one (list_any (λ x. same x y) xs) (place y))
repeats_snoc same place [] y = refl
repeats_snoc same place (x ∷ xs) y =
    least_append (map place (filter (same x) (xs ++ y ∷ []))) (repeats same place (xs ++ y ∷ []))
    ∙ ((λ j. lesser (filtered_snoc (same x) place xs y j) (repeats_snoc same place xs y j))
    ∙ (crossed (least (map place (filter (same x) xs))) (one (same x y) (place y)) (least (repeats same place xs)) (one (list_any (λ z. same z y) xs) (place y))
    ∙ (λ j. lesser (sym (least_append (map place (filter (same x) xs)) (repeats same place xs)) j) (either (same x y) (list_any (λ z. same z y) xs) (place y) j))))

-- ---- one item more

or_last : (a b : Bool) → b || a ≡ a || (b || false)
or_last true true = refl
or_last true false = refl
or_last false true = refl
or_last false false = refl

pub any_more : {X : Type 0} (p : X → Bool) (xs ys : List X) (y : X) (seen new : Bool) → ys ≡ xs ++ y ∷ [] → seen ≡ list_any p xs → new ≡ (p y || seen) → new ≡ list_any p ys
any_more p xs ys y seen new e s n =
    n
    ∙ (ap (λ (b : Bool). p y || b) s
    ∙ (or_last (list_any p xs) (p y)
    ∙ (sym (list_any-append p xs (y ∷ []))
    ∙ ap (list_any p) (sym e))))

pub least_more : {X : Type 0} (same : X → X → Bool) (place : X → ℕ) (xs ys : List X) (y : X) (found more : Option ℕ) (again : Bool) → ys ≡ xs ++ y ∷ [] → found ≡ least (repeats same place xs)
    → again ≡ list_any (λ x. same x y) xs → more ≡ lesser found (least (at_if again (place y))) → more ≡ least (repeats same place ys)
least_more same place xs ys y found more again e f a m =
    m
    ∙ ((λ j. lesser (f j) (one (a j) (place y)))
    ∙ (sym (repeats_snoc same place xs y)
    ∙ ap (λ zs. least (repeats same place zs)) (sym e)))

-- where those that are the same have one key
pub any_by_key : {X : Type 0} (same : X → X → Bool) (key : X → SeenKey) → ((a b : X) → same a b ≡ same_key (key a) (key b)) → (xs : List X) (y : X) → list_any (λ x. same_key (key x) (key y)) xs ≡ list_any (λ x. same x y) xs
any_by_key same key by [] y = refl
any_by_key same key by (x ∷ xs) y = λ j. sym (by x y) j || any_by_key same key by xs y j
