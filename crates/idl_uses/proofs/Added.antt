-- One offer more.
use Rattle.std.proofs.Common.{◌≡◌, ℕ, Bool, true, false, ◌&&◌, ◌||◌, List, [], ◌∷◌, ◌++◌, Some, refl, ap, sym, ◌∙◌, Vec, Global}
use Rattle.std.specs.Prelude.{bytes_eq, if◌then◌else◌}
use Rattle.std.specs.List.{list_any}
use Rattle.std.specs.BTreeMap.{BTreeMap}
use Rattle.std.proofs.lemmas.Slice.Eq.{bytes_eq-Decides}
use Rattle.std.proofs.lemmas.List.Folds.{list_any-append}
use Rattle.rpc_base.specs.Named.{at_name}
use Rattle.idl_rules.specs.declared.asked.Asked.{Asked}
use Rattle.idl_rules.specs.declared.asked.Asked.TheVariants as asks
use Rattle.idl_uses.specs.declared.offers.Want.{Want}
use Rattle.idl_uses.specs.declared.offers.Kinds.{Kinds}
use Rattle.idl_uses.specs.declared.offers.Offer.{Offer}
use Rattle.idl_uses.specs.Offers.{Key, kind, meets, both, joined, no_kinds, no_offer, or_none, found}

kind_both : (a b : Kinds) (k : Asked) → kind (both a b) k ≡ kind a k || kind b k
kind_both a b asks.Integer = refl
kind_both a b asks.Tag = refl

joined_at : (a b : Offer) (k : Asked) (inward star : Bool) → meets (joined a b) (record { asked = k; star = star; inward = inward }) ≡ meets a (record { asked = k; star = star; inward = inward }) || meets b (record { asked = k; star = star; inward = inward })
joined_at a b k true true = kind_both a.star_in b.star_in k
joined_at a b k true false = kind_both a.plain_in b.plain_in k
joined_at a b k false true = kind_both a.star b.star k
joined_at a b k false false = kind_both a.plain b.plain k

joined_meets : (a b : Offer) (w : Want) → meets (joined a b) w ≡ meets a w || meets b w
joined_meets a b w = joined_at a b w.asked w.inward w.star

no_kind : (k : Asked) → kind no_kinds k ≡ false
no_kind asks.Integer = refl
no_kind asks.Tag = refl

none_at : (k : Asked) (inward star : Bool) → meets no_offer (record { asked = k; star = star; inward = inward }) ≡ false
none_at k true true = no_kind k
none_at k true false = no_kind k
none_at k false true = no_kind k
none_at k false false = no_kind k

pub none_meets : (w : Want) → meets no_offer w ≡ false
none_meets w = none_at w.asked w.inward w.star

added_if : (b : Bool) (o all : Offer) (before : Offer) (w : Want) → (b ≡ true → all ≡ joined o before) → meets (if b then all else before) w ≡ (b && meets o w) || meets before w
added_if true o all before w h = ap (λ (x : Offer). meets x w) (h refl) ∙ joined_meets o before w
added_if false o all before w h = refl

found_if : (b : Bool) (all : Offer) (names : BTreeMap Key Offer) (name : List ℕ) → or_none (if b then Some all else at_name names name) ≡ (if b then all else found names name)
found_if true all names name = refl
found_if false all names name = refl

pub added_more : (old new : BTreeMap Key Offer) (text name : List ℕ) (o all : Offer) (w : Want) → all ≡ joined o (found old text) → at_name new name ≡ (if bytes_eq text name then Some all else at_name old name)
    → meets (found new name) w ≡ (bytes_eq text name && meets o w) || meets (found old name) w
added_more old new text name o all w e h =
    ap (λ x. meets (or_none x) w) h
    ∙ (ap (λ (x : Offer). meets x w) (found_if (bytes_eq text name) all old name)
    ∙ added_if (bytes_eq text name) o all (found old name) w (λ b. e ∙ ap (λ (t : List ℕ). joined o (found old t)) ((bytes_eq-Decides text name).0 b)))

pub ruleset added = (added_more)

-- ---- one item more

or_last : (a b c : Bool) → b || (a || c) ≡ (a || (b || false)) || c
or_last true true c = refl
or_last true false c = refl
or_last false true c = refl
or_last false false c = refl

pub any_more : {X : Type 0} (p : X → Bool) (xs ys : List X) (y : X) (before old new : Bool) → ys ≡ xs ++ y ∷ [] → before ≡ list_any p xs || old → new ≡ p y || before → new ≡ list_any p ys || old
any_more p xs ys y before old new e b n =
    n
    ∙ (ap (λ (x : Bool). p y || x) b
    ∙ (or_last (list_any p xs) (p y) old
    ∙ (ap (λ (x : Bool). x || old) (sym (list_any-append p xs (y ∷ [])))
    ∙ ap (λ zs. list_any p zs || old) (sym e))))

or_false : (a : Bool) → a || false ≡ a
or_false true = refl
or_false false = refl

pub any_all : {X : Type 0} (p : X → Bool) (xs ys : List X) (y : X) (before new : Bool) → ys ≡ xs ++ y ∷ [] → before ≡ list_any p xs → new ≡ p y || before → new ≡ list_any p ys
any_all p xs ys y before new e b n = any_more p xs ys y before false new e (b ∙ sym (or_false (list_any p xs))) n ∙ or_false (list_any p ys)
