-- What elements that are offered do to the accepted contexts.
use Rattle.std.proofs.Common.{◌≡◌, ℕ, ◌+◌, ◌<◌, ◌≤◌, Bool, true, false, nat_lt, nat_eq, Option, Some, None, List, [], ◌∷◌, ◌++◌, length, take, drop, refl, sym, ap, ◌∙◌, append_assoc, arith, inl, inr, length-append, length-take, get_or, add-one}
use Rattle.std.specs.Prelude.{◌⊎◌}
use Rattle.std.specs.List.{find}
use Rattle.std.specs.Option.{option_map, option_or}
use Rattle.std.proofs.lemmas.List.{take-append-le, append-nil}
use Rattle.std.proofs.lemmas.List.Folds.{find-append}
use Rattle.std.proofs.lemmas.Bool.{ltb-true}
use Rattle.std.proofs.lemmas.Option.{none-some}
use Rattle.std.proofs.Math.Seq.{drop-cons}
use Rattle.std.proofs.lemmas.Grind.{common_steps}
use Rattle.rpc_base.specs.declared.identifiers.SyntaxId.{SyntaxId}
use Rattle.pdu_codec.specs.declared.pdu.Element.{Element}
use Rattle.pdu_codec.specs.declared.pdu.ContextResult.{ContextResult}
use Rattle.presentation.specs.declared.verdict.Accepted.{Accepted}
use Rattle.presentation.specs.Serving.{serving, has_ndr}
use Rattle.presentation.specs.Offers.{most_contexts, verdict, after, contexts_after, results_after, result_of, interface_of, is_of}

-- A context is accepted that wasn't before.
pub record AddsContext (ids : List SyntaxId) (a : List Accepted) (e : Element) : Type 0 where
  pub k : ℕ
  pub serves : serving ids e.syntax ≡ Some k
  pub ndr : has_ndr e.transfers ≡ true
  pub fresh : interface_of a e.context ≡ None
  pub room : length a < most_contexts
  pub new : after ids a e ≡ a ++ record { context = e.context; interface = k } ∷ []

known : (ids : List SyntaxId) (a : List Accepted) (e : Element) (k j : ℕ) (same : Bool) → nat_eq j k ≡ same → serving ids e.syntax ≡ Some k → has_ndr e.transfers ≡ true
    → interface_of a e.context ≡ Some j → after ids a e ≡ a
unfolding verdict
known ids a e k j true b s' n' i' = rw (s', n', i', b, i') refl
known ids a e k j false b s' n' i' = rw (s', n', i', b) refl

one_of : (ids : List SyntaxId) (a : List Accepted) (e : Element) (s : Option ℕ) (n : Bool) (i : Option ℕ) (same room : Bool)
    → serving ids e.syntax ≡ s → has_ndr e.transfers ≡ n → interface_of a e.context ≡ i → nat_lt (length a) most_contexts ≡ room → (after ids a e ≡ a) ⊎ AddsContext ids a e
unfolding verdict
one_of ids a e None n i same room s' n' i' r' = inl (rw s' refl)
one_of ids a e (Some k) false i same room s' n' i' r' = inl (rw (s', n') refl)
one_of ids a e (Some k) true (Some j) same room s' n' i' r' = inl (known ids a e k j (nat_eq j k) refl s' n' i')
one_of ids a e (Some k) true None same false s' n' i' r' = inl (rw (s', n', i', r') refl)
one_of ids a e (Some k) true None same true s' n' i' r' = inr (record {
  k = k;
  serves = s';
  ndr = n';
  fresh = i';
  room = ltb-true (length a) most_contexts r';
  new = rw (s', n', i', r', i') refl;
})

-- an element changes nothing, or a context more is accepted
pub one : (ids : List SyntaxId) (a : List Accepted) (e : Element) → (after ids a e ≡ a) ⊎ AddsContext ids a e
one ids a e =
    one_of ids a e (serving ids e.syntax) (has_ndr e.transfers) (interface_of a e.context) true (nat_lt (length a) most_contexts) refl refl refl refl

-- ---- at most most_contexts

within : (ids : List SyntaxId) (a : List Accepted) (e : Element) → (after ids a e ≡ a) ⊎ AddsContext ids a e → length a ≤ most_contexts → length (after ids a e) ≤ most_contexts
within ids a e (inl same) few = rw same few
within ids a e (inr adds) few =
    rw adds.new (omega (arith, length-append a (record { context = e.context; interface = adds.k } ∷ []), adds.room))

pub bounded : (ids : List SyntaxId) (a : List Accepted) (es : List Element) → length a ≤ most_contexts → length (contexts_after ids a es) ≤ most_contexts
unfolding contexts_after
bounded ids a [] few = few
bounded ids a (e ∷ es) few = bounded ids (after ids a e) es (within ids a e (one ids a e) few)

-- ---- one after the other

pub split : (ids : List SyntaxId) (a : List Accepted) (es fs : List Element) → contexts_after ids a (es ++ fs) ≡ contexts_after ids (contexts_after ids a es) fs
unfolding contexts_after
split ids a [] fs = refl
split ids a (e ∷ es) fs = split ids (after ids a e) es fs

-- ---- what is accepted stays

found_or : (o p : Option Accepted) (k : ℕ) → option_map (λ (x : Accepted). x.interface) o ≡ Some k → option_map (λ (x : Accepted). x.interface) (option_or o p) ≡ Some k
found_or None p k h = absurd (none-some k h)
found_or (Some x) p k h = h

pub kept_with : (a more : List Accepted) (c k : ℕ) → interface_of a c ≡ Some k → interface_of (a ++ more) c ≡ Some k
kept_with a more c k h = rw (find-append (is_of c) a more) (found_or (find (is_of c) a) (find (is_of c) more) k h)

kept_one : (ids : List SyntaxId) (a : List Accepted) (e : Element) (c k : ℕ) → (after ids a e ≡ a) ⊎ AddsContext ids a e → interface_of a c ≡ Some k → interface_of (after ids a e) c ≡ Some k
kept_one ids a e c k (inl same) h = rw same h
kept_one ids a e c k (inr adds) h = rw adds.new (kept_with a (record { context = e.context; interface = adds.k } ∷ []) c k h)

pub kept : (ids : List SyntaxId) (a : List Accepted) (es : List Element) (c k : ℕ) → interface_of a c ≡ Some k → interface_of (contexts_after ids a es) c ≡ Some k
unfolding contexts_after
kept ids a [] c k h = h
kept ids a (e ∷ es) c k h = kept ids (after ids a e) es c k (kept_one ids a e c k (one ids a e) h)

-- ---- the first ones stay in front

front_one : (ids : List SyntaxId) (n : ℕ) (a : List Accepted) (e : Element) → n ≤ length a → (after ids a e ≡ a) ⊎ AddsContext ids a e
    → (n ≤ length (after ids a e)) × (take n (after ids a e) ≡ take n a)
front_one ids n a e le (inl same) = rw same (le, refl)
front_one ids n a e le (inr adds) =
    let x : List Accepted = record { context = e.context; interface = adds.k } ∷ [] in
    rw adds.new (omega (arith, le, length-append a x), take-append-le n a x le)

pub front : (ids : List SyntaxId) (n : ℕ) (a : List Accepted) (es : List Element) → n ≤ length a → take n (contexts_after ids a es) ≡ take n a
unfolding contexts_after
front ids n a [] le = refl
front ids n a (e ∷ es) le =
    let r : (n ≤ length (after ids a e)) × (take n (after ids a e) ≡ take n a) = front_one ids n a e le (one ids a e) in
    front ids n (after ids a e) es r.0 ∙ r.1

within_front : (a0 a : List Accepted) → take (length a0) a ≡ a0 → length a0 ≤ length a
within_front a0 a h = omega (arith, ap length h, length-take (length a0) a)

-- ---- one element after the other, as a loop goes

left : {X : Type 0} (xs : List X) (i : ℕ) (d : X) → i < length xs → drop i xs ≡ get_or xs i d ∷ drop (i + 1) xs
left xs i d lt = drop-cons xs i d lt ∙ rw add-one refl

pub contexts_more : (ids : List SyntaxId) (a b : List Accepted) (es : List Element) (i : ℕ) (e : Element) → i < length es → e ≡ get_or es i e → b ≡ after ids a e
    → contexts_after ids a (drop i es) ≡ contexts_after ids b (drop (i + 1) es)
unfolding contexts_after
contexts_more ids a b es i e lt is new = rw (left es i e lt, sym is, new) refl

pub results_more : (ids : List SyntaxId) (a b : List Accepted) (es : List Element) (i : ℕ) (e : Element) (front : List ContextResult) → i < length es → e ≡ get_or es i e → b ≡ after ids a e
    → front ++ results_after ids a (drop i es) ≡ (front ++ result_of (verdict ids a e) ∷ []) ++ results_after ids b (drop (i + 1) es)
unfolding results_after
results_more ids a b es i e front lt is new = rw (left es i e lt, sym is, new) (sym (append_assoc front (result_of (verdict ids a e) ∷ []) (results_after ids (after ids a e) (drop (i + 1) es))))

-- the first ones stay in front
pub front_more : (ids : List SyntaxId) (a0 a b : List Accepted) (e : Element) → take (length a0) a ≡ a0 → b ≡ after ids a e → take (length a0) b ≡ a0
front_more ids a0 a b e h new =
    rw new ((front_one ids (length a0) a e (within_front a0 a h) (one ids a e)).1 ∙ h)

none_left : {X : Type 0} (xs : List X) (i : ℕ) → length xs ≤ i → drop i xs ≡ []
none_left xs i le = grind (arith, common_steps)

pub contexts_done : (ids : List SyntaxId) (a : List Accepted) (es : List Element) (i : ℕ) (total : List Accepted) → length es ≤ i → contexts_after ids a (drop i es) ≡ total → a ≡ total
unfolding contexts_after
contexts_done ids a es i total le h = rw (none_left es i le) at h

pub results_done : (ids : List SyntaxId) (a : List Accepted) (es : List Element) (i : ℕ) (before total : List ContextResult) → length es ≤ i → before ++ results_after ids a (drop i es) ≡ total → before ≡ total
unfolding results_after
results_done ids a es i before total le h = sym (append-nil before) ∙ (rw (none_left es i le) at h)
