-- Runs that aren't whole, with one PDU more.
use Rattle.std.proofs.Common.{◌≡◌, ℕ, zero, suc, ◌≤◌, Bool, true, false, ◌||◌, List, [], ◌∷◌, ◌++◌, length, refl, sym, ap, subst, ◌∙◌, append_assoc, append-nil, arith}
use Rattle.std.specs.List.{flat_map, list_any, AllByRecursion}
use Rattle.std.proofs.lemmas.Bool.{or_from, or_parts}
use Rattle.std.proofs.lemmas.List.{length-append, length_push, same_from_push}
use Rattle.std.proofs.lemmas.List.Folds.{list_any-append}
use Rattle.std.proofs.lemmas.Grind.{flat_map-append}
use Rattle.pdu_codec.specs.declared.pdu.Pdu.{Pdu}
use Rattle.pdu_stream.specs.Fragments.{Fragment, is_first, is_last, stub_of, joined_of, most_stub}
use Rattle.pdu_stream.specs.Runs.{fragment_of, fragments, cancels, orphans, IsLater, joined_with, IsOpen}

-- ---- lists by their ends

pub data Ends {A : Type 0} (xs : List A) : Type 0 where
  empty : xs ≡ [] → Ends xs
  more : (ys : List A) (y : A) → xs ≡ ys ++ y ∷ [] → Ends xs

ends_cons : {A : Type 0} (x : A) (xs : List A) → Ends xs → Ends (x ∷ xs)
ends_cons {A = A} x xs (empty e) = more [] x (ap (λ (t : List A). x ∷ t) e)
ends_cons {A = A} x xs (more ys y e) = more (x ∷ ys) y (ap (λ (t : List A). x ∷ t) e)

pub ends : {A : Type 0} (xs : List A) → Ends xs
ends [] = empty refl
ends (x ∷ xs) = ends_cons x xs (ends xs)

all_append : (P : Fragment → Type 0) (xs ys : List Fragment) → AllByRecursion P xs → AllByRecursion P ys → AllByRecursion P (xs ++ ys)
all_append P [] ys h k = k
all_append P (x ∷ xs) ys h k = (h.0, all_append P xs ys h.1 k)

all_parts : (P : Fragment → Type 0) (xs ys : List Fragment) → AllByRecursion P (xs ++ ys) → AllByRecursion P xs × AllByRecursion P ys
all_parts P [] ys h = (tt, h)
all_parts P (x ∷ xs) ys h = let t = all_parts P xs ys h.1 in ((h.0, t.0), t.1)

-- ---- the fragments and marks with one PDU more

pub fragments_more : (behind : List Pdu) (p : Pdu) → fragments (behind ++ p ∷ []) ≡ fragments behind ++ fragment_of p
fragments_more behind p = flat_map-append fragment_of behind (p ∷ []) ∙ ap (λ (x : List Fragment). fragments behind ++ x) (append-nil (fragment_of p))

pub any_more : (f : Pdu → Bool) (behind : List Pdu) (p : Pdu) → list_any f (behind ++ p ∷ []) ≡ (list_any f behind || (f p || false))
any_more f behind p = list_any-append f behind (p ∷ [])

last_more : (first : Fragment) (behind : List Pdu) (p : Pdu) → list_any is_last (first ∷ fragments (behind ++ p ∷ [])) ≡ (is_last first || (list_any is_last (fragments behind) || list_any is_last (fragment_of p)))
last_more first behind p =
    ap (λ (x : List Fragment). is_last first || list_any is_last x) (fragments_more behind p) ∙ ap (λ (b : Bool). is_last first || b) (list_any-append is_last (fragments behind) (fragment_of p))

-- ---- a PDU that goes on with a run

pub record GoesOn (first : Fragment) (p : Pdu) : Type 0 where
  pub later : AllByRecursion (IsLater first) (fragment_of p)
  pub unended : list_any is_last (fragment_of p) ≡ false
  pub wanted : orphans first.call_id p ≡ false

pub open_more : (pdus : List Pdu) (p : Pdu) (first : Fragment) (behind : List Pdu) → IsOpen pdus first behind → GoesOn first p
    → length (joined_with first (behind ++ p ∷ [])).stub ≤ most_stub → IsOpen (pdus ++ p ∷ []) first (behind ++ p ∷ [])
open_more pdus p first behind o g short =
    let u = or_parts (is_last first) (list_any is_last (fragments behind)) o.unended in
    record {
      before = o.before;
      opener = o.opener;
      whole = ap (λ (x : List Pdu). x ++ p ∷ []) o.whole ∙ append_assoc o.before (o.opener ∷ behind) (p ∷ []);
      opens = o.opens;
      begins = o.begins;
      later = subst (AllByRecursion (IsLater first)) (sym (fragments_more behind p)) (all_append (IsLater first) (fragments behind) (fragment_of p) o.later g.later);
      unended = last_more first behind p
          ∙ or_from (is_last first) (list_any is_last (fragments behind) || list_any is_last (fragment_of p)) u.0 (or_from (list_any is_last (fragments behind)) (list_any is_last (fragment_of p)) u.1 g.unended);
      wanted = any_more (orphans first.call_id) behind p
          ∙ or_from (list_any (orphans first.call_id) behind) (orphans first.call_id p || false) o.wanted (or_from (orphans first.call_id p) false g.wanted refl);
      short = short;
    }

pub open_first : (pdus : List Pdu) (p : Pdu) (f : Fragment) → fragment_of p ≡ f ∷ [] → is_first f ≡ true → is_last f ≡ false → length (joined_with f []).stub ≤ most_stub → IsOpen (pdus ++ p ∷ []) f []
open_first pdus p f is first unended short = record {
  before = pdus;
  opener = p;
  whole = refl;
  opens = is;
  begins = first;
  later = tt;
  unended = or_from (is_last f) false unended refl;
  wanted = refl;
  short = short;
}

-- ---- a run that goes up to a PDU, by where it begins

stub_at : (first : Fragment) (fs : List Fragment) (c : Bool) → (joined_of first fs c).stub ≡ stub_of first ++ flat_map stub_of fs
unfolding joined_of
stub_at first fs c = refl

stub_less : (first : Fragment) (behind : List Pdu) (p : Pdu) → length (joined_with first behind).stub ≤ length (joined_with first (behind ++ p ∷ [])).stub
stub_less first behind p =
    let a = stub_at first (fragments behind) (list_any (cancels first.call_id) behind) in
    let b = stub_at first (fragments (behind ++ p ∷ [])) (list_any (cancels first.call_id) (behind ++ p ∷ [])) in
    let parts : flat_map stub_of (fragments (behind ++ p ∷ [])) ≡ flat_map stub_of (fragments behind) ++ flat_map stub_of (fragment_of p) =
    ap (flat_map stub_of) (fragments_more behind p) ∙ flat_map-append stub_of (fragments behind) (fragment_of p) in
    omega (
      arith,
      ap length a,
      ap length b,
      ap length parts,
      length-append (stub_of first) (flat_map stub_of (fragments behind)),
      length-append (stub_of first) (flat_map stub_of (fragments (behind ++ p ∷ []))),
      length-append (flat_map stub_of (fragments behind)) (flat_map stub_of (fragment_of p)),
    )

pub data Reaches (pdus : List Pdu) (p : Pdu) (first : Fragment) (behind : List Pdu) : Type 0 where
  at_once : fragment_of p ≡ first ∷ [] → is_first first ≡ true → is_last first ≡ false → behind ≡ [] → Reaches pdus p first behind
  later_on : (rest : List Pdu) → behind ≡ rest ++ p ∷ [] → IsOpen pdus first rest → GoesOn first p → Reaches pdus p first behind

reaches_empty : (pdus : List Pdu) (p : Pdu) (first : Fragment) (behind : List Pdu) → IsOpen (pdus ++ p ∷ []) first behind → behind ≡ [] → Reaches pdus p first behind
reaches_empty pdus p first behind o e =
    let whole : pdus ++ p ∷ [] ≡ o.before ++ o.opener ∷ [] = o.whole ∙ ap (λ (x : List Pdu). o.before ++ o.opener ∷ x) e in
    let same : p ≡ o.opener = (same_from_push pdus o.before p o.opener whole).1 in
    at_once (ap fragment_of same ∙ o.opens) o.begins (or_parts (is_last first) (list_any is_last (fragments behind)) o.unended).0 e

reaches_more : (pdus : List Pdu) (p : Pdu) (first : Fragment) (behind rest : List Pdu) (q : Pdu) → IsOpen (pdus ++ p ∷ []) first behind → behind ≡ rest ++ q ∷ [] → Reaches pdus p first behind
reaches_more pdus p first behind rest q o e =
    let whole : pdus ++ p ∷ [] ≡ (o.before ++ o.opener ∷ rest) ++ q ∷ [] =
    o.whole ∙ ap (λ (x : List Pdu). o.before ++ o.opener ∷ x) e ∙ sym (append_assoc o.before (o.opener ∷ rest) (q ∷ [])) in
    let same = same_from_push pdus (o.before ++ o.opener ∷ rest) p q whole in
    let at : behind ≡ rest ++ p ∷ [] = e ∙ ap (λ (x : Pdu). rest ++ x ∷ []) (sym same.1) in
    let all = all_parts (IsLater first) (fragments rest) (fragment_of p) (subst (AllByRecursion (IsLater first)) (ap fragments at ∙ fragments_more rest p) o.later) in
    let ended = or_parts (is_last first) (list_any is_last (fragments rest) || list_any is_last (fragment_of p))
    (sym (ap (λ (x : List Pdu). list_any is_last (first ∷ fragments x)) at ∙ last_more first rest p) ∙ o.unended) in
    let last = or_parts (list_any is_last (fragments rest)) (list_any is_last (fragment_of p)) ended.1 in
    let wanted = or_parts (list_any (orphans first.call_id) rest) (orphans first.call_id p || false)
    (sym (ap (list_any (orphans first.call_id)) at ∙ any_more (orphans first.call_id) rest p) ∙ o.wanted) in
    let short : length (joined_with first (rest ++ p ∷ [])).stub ≤ most_stub = subst (λ (x : List Pdu). length (joined_with first x).stub ≤ most_stub) at o.short in
    let opened : IsOpen pdus first rest = record {
      before = o.before;
      opener = o.opener;
      whole = same.0;
      opens = o.opens;
      begins = o.begins;
      later = all.0;
      unended = or_from (is_last first) (list_any is_last (fragments rest)) ended.0 last.0;
      wanted = wanted.0;
      short = omega (arith, short, stub_less first rest p);
    } in
    later_on rest at opened (record { later = all.1; unended = last.1; wanted = (or_parts (orphans first.call_id p) false wanted.1).0 })

reaches_by : (pdus : List Pdu) (p : Pdu) (first : Fragment) (behind : List Pdu) → IsOpen (pdus ++ p ∷ []) first behind → Ends behind → Reaches pdus p first behind
reaches_by pdus p first behind o (empty e) = reaches_empty pdus p first behind o e
reaches_by pdus p first behind o (more rest q e) = reaches_more pdus p first behind rest q o e

pub reaches : (pdus : List Pdu) (p : Pdu) (first : Fragment) (behind : List Pdu) → IsOpen (pdus ++ p ∷ []) first behind → Reaches pdus p first behind
reaches pdus p first behind o = reaches_by pdus p first behind o (ends behind)

-- ---- one run at most isn't whole

one_fragment : (a b : Fragment) (later others : List Fragment) → a ∷ later ≡ b ∷ others → a ≡ b
one_fragment a b later others e = cc

true_false : (b : Bool) → b ≡ true → b ≡ false → ⊥
true_false b t f = absurd (cc (t, f))

first_later : (p : Pdu) (a b : Fragment) → fragment_of p ≡ a ∷ [] → is_first a ≡ true → GoesOn b p → ⊥
first_later p a b is begins g =
    let all : AllByRecursion (IsLater b) (a ∷ []) = subst (AllByRecursion (IsLater b)) is g.later in
    true_false (is_first a) begins all.0.inner

same_reach : (pdus : List Pdu) (p : Pdu) (a b : Fragment) (x y : List Pdu)
    → ((c d : Fragment) (u v : List Pdu) → IsOpen pdus c u → IsOpen pdus d v → (c ≡ d) × (u ≡ v)) → Reaches pdus p a x → Reaches pdus p b y → (a ≡ b) × (x ≡ y)
same_reach pdus p a b x y one (at_once is begins ends e) (at_once is' begins' ends' e') = (one_fragment a b [] [] (sym is ∙ is'), e ∙ sym e')
same_reach pdus p a b x y one (at_once is begins ends e) (later_on rest' e' o' g') = absurd (first_later p a b is begins g')
same_reach pdus p a b x y one (later_on rest e o g) (at_once is' begins' ends' e') = absurd (first_later p b a is' begins' g)
same_reach pdus p a b x y one (later_on rest e o g) (later_on rest' e' o' g') =
    let same = one a b rest rest' o o' in
    (same.0, e ∙ ap (λ (t : List Pdu). t ++ p ∷ []) same.1 ∙ sym e')

-- nothing is open after no PDUs
pub none_open : (pdus : List Pdu) (a : Fragment) (x : List Pdu) → pdus ≡ [] → IsOpen pdus a x → ⊥
none_open pdus a x e o = absurd (omega (arith, ap length (sym e ∙ o.whole), length-append o.before (o.opener ∷ x)))

one_open_by : (n : ℕ) (pdus : List Pdu) → length pdus ≤ suc n → Ends pdus → ((rest : List Pdu) → length rest ≤ n → (c d : Fragment) (u v : List Pdu) → IsOpen rest c u → IsOpen rest d v → (c ≡ d) × (u ≡ v))
    → (a b : Fragment) (x y : List Pdu) → IsOpen pdus a x → IsOpen pdus b y → (a ≡ b) × (x ≡ y)
one_open_by n pdus le (empty e) one a b x y o k = absurd (none_open pdus a x e o)
one_open_by n pdus le (more rest p e) one a b x y o k =
    let less : length rest ≤ n = omega (arith, le, ap length e, length_push rest p) in
    same_reach rest p a b x y (one rest less) (reaches rest p a x (subst (λ (t : List Pdu). IsOpen t a x) e o)) (reaches rest p b y (subst (λ (t : List Pdu). IsOpen t b y) e k))

one_open_within : (n : ℕ) (pdus : List Pdu) → length pdus ≤ n → (a b : Fragment) (x y : List Pdu) → IsOpen pdus a x → IsOpen pdus b y → (a ≡ b) × (x ≡ y)
one_open_within zero pdus le a b x y o k = absurd (none_open pdus a x (no_items pdus (omega arith)) o)
  where
    no_items : (xs : List Pdu) → length xs ≤ 0 → xs ≡ []
    no_items [] h = refl
    no_items (z ∷ zs) h = absurd (omega arith)
one_open_within (suc n) pdus le a b x y o k = one_open_by n pdus le (ends pdus) (one_open_within n) a b x y o k

pub one_open : (pdus : List Pdu) (a b : Fragment) (x y : List Pdu) → IsOpen pdus a x → IsOpen pdus b y → (a ≡ b) × (x ≡ y)
one_open pdus a b x y o k = one_open_within (length pdus) pdus (omega arith) a b x y o k
