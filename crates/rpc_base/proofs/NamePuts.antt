-- What stands at a name behind one value more.
use Rattle.std.proofs.Common.{◌≡◌, ℕ, Bool, true, false, cond, List, [], ◌∷◌, Option, Some, refl, ap, sym, ◌∙◌, Vec, Global}
use Rattle.std.specs.Prelude.{bytes_eq, if◌then◌else◌}
use Rattle.std.specs.declared.cmp.Ordering.{Ordering}
use Rattle.std.specs.declared.cmp.Ordering.TheVariants.{Less, Equal, Greater}
use Rattle.std.specs.Ordering.{nat_cmp, is_eq, match_ordering}
use Rattle.std.specs.Cmp.Lexicographic.{slice_cmp}
use Rattle.std.specs.Map.{lookup}
use Rattle.std.specs.BTreeMap.{BTreeMap, insert_entry}
use Rattle.std.specs.Cmp.{nat_eq_equiv}
use Rattle.std.proofs.lemmas.Cmp.{lists_equiv}
use Rattle.std.proofs.lemmas.Map.Text.{is_eq-slice_cmp}
use Rattle.std.proofs.lemmas.Slice.Eq.{bytes_eq-Decides}
use Rattle.rpc_base.specs.Named.{at_name}

abbrev Key : Type 0
Key = Vec ℕ Global

abbrev by_items : Key → Key → Ordering
by_items k e = slice_cmp nat_cmp k.items e.items

abbrev at : List ℕ → Key → Bool
at name k = is_eq (slice_cmp nat_cmp name k.items)

at_is : (name : List ℕ) (k : Key) → at name k ≡ bytes_eq name k.items
at_is name k = is_eq-slice_cmp name k.items

swap : {X : Type 0} (a b : Bool) (x y z : Option X) → (a ≡ true → b ≡ true → ⊥) → cond a x (cond b y z) ≡ cond b y (cond a x z)
swap true true x y z h = absurd (h refl refl)
swap true false x y z h = refl
swap false true x y z h = refl
swap false false x y z h = refl

over : {X : Type 0} (a b : Bool) (x y z : Option X) → a ≡ b → cond a x z ≡ cond b x (cond a y z)
over true true x y z e = refl
over true false x y z e = absurd (cc)
over false true x y z e = absurd (cc)
over false false x y z e = refl

equal_keys : (k e : Key) → Equal ≡ by_items k e → k.items ≡ e.items
equal_keys k e h = (bytes_eq-Decides k.items e.items).0 (sym (is_eq-slice_cmp k.items e.items) ∙ sym (ap is_eq h))

same_at : (name : List ℕ) (k e : Key) → Equal ≡ by_items k e → at name e ≡ at name k
same_at name k e h = ap (λ (xs : List ℕ). is_eq (slice_cmp nat_cmp name xs)) (sym (equal_keys k e h))

is_name : (name : List ℕ) (k : Key) → at name k ≡ true → name ≡ k.items
is_name name k h = (bytes_eq-Decides name k.items).0 (sym (at_is name k) ∙ h)

apart_at : (name : List ℕ) (k e : Key) → Greater ≡ by_items k e → at name e ≡ true → at name k ≡ true → ⊥
apart_at name k e h p q =
    let same : k.items ≡ e.items = sym (is_name name k q) ∙ is_name name e p in
    let t : at k.items e ≡ true = at_is k.items e ∙ (bytes_eq-Decides k.items e.items).1 same in
    let f : at k.items e ≡ false = sym (ap is_eq h) in
    absurd (cc)

step : {X : Type 0} (name : List ℕ) (k : Key) (v : X) (e : Key × X) (es : List (Key × X)) (o : Ordering) → o ≡ by_items k e.0 → lookup (at name) (insert_entry by_items es k v) ≡ cond (at name k) (Some v) (lookup (at name) es)
    → lookup (at name) (match_ordering o ((k, v) ∷ e ∷ es) ((e.0, v) ∷ es) (e ∷ insert_entry by_items es k v)) ≡ cond (at name k) (Some v) (lookup (at name) (e ∷ es))
step name k v e es Less h i = refl
step name k v e es Equal h i = over (at name e.0) (at name k) (Some v) (Some e.1) (lookup (at name) es) (same_at name k e.0 h)
step name k v e es Greater h i = ap (cond (at name e.0) (Some e.1)) i ∙ swap (at name e.0) (at name k) (Some e.1) (Some v) (lookup (at name) es) (apart_at name k e.0 h)

inserted : {X : Type 0} (name : List ℕ) (k : Key) (v : X) (es : List (Key × X)) → lookup (at name) (insert_entry by_items es k v) ≡ cond (at name k) (Some v) (lookup (at name) es)
inserted name k v [] = refl
inserted name k v (e ∷ es) = step name k v e es (by_items k e.0) refl (inserted name k v es)

chosen : {X : Type 0} (a b : Bool) (x y : X) → a ≡ b → cond a x y ≡ (if b then x else y)
chosen true true x y e = refl
chosen true false x y e = absurd (cc)
chosen false true x y e = absurd (cc)
chosen false false x y e = refl

pub put_at : {X : Type 0} (old new : BTreeMap Key X) (key : Key) (v : X) (other : List ℕ) → new.entries ≡ insert_entry by_items old.entries key v
    → at_name new other ≡ (if bytes_eq key.items other then Some v else at_name old other)
put_at old new key v other e =
    ap (lookup (at other)) e
    ∙ (inserted other key v old.entries
    ∙ chosen (at other key) (bytes_eq key.items other) (Some v) (at_name old other) (at_is other key ∙ (lists_equiv nat_eq_equiv).symm other key.items))

pub ruleset puts = (put_at)
