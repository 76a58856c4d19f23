-- The index of the handles that came.
use Rattle.std.proofs.Common.{◌≡◌, ℕ, ◌+◌, ◌==◌, Bool, true, false, cond, List, [], ◌∷◌, ◌++◌, length, Option, Some, None, refl, ap, sym, ◌∙◌, subst, arith}
use Rattle.std.specs.Prelude.{◌&&◌, ◌||◌, if◌then◌else◌}
use Rattle.std.specs.declared.cmp.Ordering.{Ordering}
use Rattle.std.specs.declared.cmp.Ordering.TheVariants.{Less, Equal, Greater}
use Rattle.std.specs.Ordering.{nat_cmp, ordering_then, is_eq}
use Rattle.std.specs.BTreeMap.{BTreeMap, get, is_at, Updates}
use Rattle.std.proofs.lemmas.Grind.{common_steps}
use Rattle.rpc_base.specs.declared.identifiers.WireHandle.{WireHandle}
use Rattle.client_texts.specs.Handles.{place, is_same, is_among}
use Rattle.client_texts.specs.Index.{key_cmp, place_of, IsIndex}
use Rattle.client_texts.proofs.Apart.{is_wire, clash}

-- ---- keys

then_eq : (x y : Ordering) → is_eq (ordering_then x y) ≡ (is_eq x && is_eq y)
then_eq Less y = refl
then_eq Equal y = refl
then_eq Greater y = refl

eq_is : (a b : ℕ) → is_eq (nat_cmp a b) ≡ (a == b)
eq_is a b = grind (arith, common_steps)

key_is : (w v : WireHandle) → is_at (key_cmp (w.attributes, w.id)) (v.attributes, v.id) ≡ is_same w v
key_is w v = then_eq (nat_cmp w.attributes v.attributes) (nat_cmp w.id v.id) ∙ rw (eq_is w.attributes v.attributes, eq_is w.id v.id) refl

-- ---- places

-- one handle further
abbrev further : Option ℕ → Option ℕ
further None = None
further (Some n) = Some (n + 1)

step : (here later : Bool) (n : ℕ) → (if here || later then Some (if here then 1 else n + 1) else None) ≡ cond here (Some 1) (further (if later then Some n else None))
step true later n = refl
step false true n = refl
step false false n = refl

behind_one : (k : WireHandle) (ks : List WireHandle) (v : WireHandle) → place_of (k ∷ ks) v ≡ cond (is_same k v) (Some 1) (further (place_of ks v))
behind_one k ks v = step (is_same k v) (is_among ks v) (place ks v)

-- the one that comes has the next place, and the others have theirs
over : (here new : Bool) (n : ℕ) (o : Option ℕ) → (here ≡ true → new ≡ true → ⊥) → cond here (Some 1) (further (cond new (Some n) o)) ≡ cond new (Some (n + 1)) (cond here (Some 1) (further o))
over true true n o apart = absurd (apart refl refl)
over true false n o apart = refl
over false true n o apart = refl
over false false n o apart = refl

none_left : (a b : Bool) → (a || b) ≡ false → (a ≡ false) × (b ≡ false)
none_left true b e = absurd cc
none_left false b e = (refl, e)

apart_of : (k w v : WireHandle) → is_same k w ≡ false → is_same k v ≡ true → is_same w v ≡ true → ⊥
apart_of k w v other here new =
    let e : k ≡ w = is_wire k v here ∙ sym (is_wire w v new) in
    clash (is_same k w) (subst (λ (x : WireHandle). is_same k x ≡ true) e (same_self k)) other
  where
    same_self : (k : WireHandle) → is_same k k ≡ true
    same_self k = grind (arith, common_steps)

place_more : (known : List WireHandle) (w v : WireHandle) → is_among known w ≡ false → place_of (known ++ w ∷ []) v ≡ cond (is_same w v) (Some (length known + 1)) (place_of known v)
place_more [] w v none = step (is_same w v) false (place [] v)
place_more (k ∷ ks) w v none =
    let others = none_left (is_same k w) (is_among ks w) none in
    let one_more : length ks + 1 + 1 ≡ length (k ∷ ks) + 1 = omega arith in
    behind_one k (ks ++ w ∷ []) v ∙ (ap (λ (o : Option ℕ). cond (is_same k v) (Some 1) (further o)) (place_more ks w v others.1)
    ∙ (over (is_same k v) (is_same w v) (length ks + 1) (place_of ks v) (apart_of k w v others.0)
    ∙ (ap (λ (n : ℕ). cond (is_same w v) (Some n) (cond (is_same k v) (Some 1) (further (place_of ks v)))) one_more
    ∙ ap (λ (o : Option ℕ). cond (is_same w v) (Some (length (k ∷ ks) + 1)) o) (sym (behind_one k ks v)))))

pub index_more : (places new : BTreeMap (ℕ × ℕ) ℕ) (known : List WireHandle) (w : WireHandle) (n : ℕ) → IsIndex places known → is_among known w ≡ false → n ≡ length known + 1 → Updates key_cmp places new (w.attributes, w.id) (Some n)
    → IsIndex new (known ++ w ∷ [])
index_more places new known w n is none n_is up v =
    up.0 (v.attributes, v.id)
    ∙ (ap (λ (b : Bool). cond b (Some n) (get key_cmp places (v.attributes, v.id))) (key_is w v)
    ∙ (ap (λ (o : Option ℕ). cond (is_same w v) (Some n) o) (is v)
    ∙ (ap (λ (m : ℕ). cond (is_same w v) (Some m) (place_of known v)) n_is ∙ sym (place_more known w v none))))

-- ---- what is looked up

last_place : (known : List WireHandle) (w : WireHandle) → is_among known w ≡ false → place known w ≡ length known + 1
last_place [] w none = refl
last_place (k ∷ ks) w none =
    let others = none_left (is_same k w) (is_among ks w) none in
    let later = last_place ks w others.1 in
    rw others.0 (omega (arith, later))

found_by : (b : Bool) (n m : ℕ) → Some n ≡ (if b then Some m else None) → n ≡ m
found_by true n m e = cc
found_by false n m e = absurd cc

pub found : (places : BTreeMap (ℕ × ℕ) ℕ) (known : List WireHandle) (w : WireHandle) (n : ℕ) → IsIndex places known → Some n ≡ get key_cmp places (w.attributes, w.id) → n ≡ place known w
found places known w n is e = found_by (is_among known w) n (place known w) (e ∙ is w)

none_by : (b : Bool) (m : ℕ) → None ≡ (if b then Some m else None) → b ≡ false
none_by true m e = absurd cc
none_by false m e = refl

pub not_found : (places : BTreeMap (ℕ × ℕ) ℕ) (known : List WireHandle) (w : WireHandle) → IsIndex places known → None ≡ get key_cmp places (w.attributes, w.id) → place known w ≡ length known + 1
not_found places known w is e = last_place known w (none_by (is_among known w) (place known w) (e ∙ is w))
