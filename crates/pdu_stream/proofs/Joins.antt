-- What fragments join to.
use Rattle.std.proofs.Common.{◌≡◌, ℕ, Bool, true, false, ◌||◌, List, [], ◌∷◌, ◌++◌, refl, sym, ap, ◌∙◌, Some, append_assoc, append-nil}
use Rattle.std.specs.List.{flat_map, list_any}
use Rattle.std.proofs.lemmas.Grind.{flat_map-append}
use Rattle.std.proofs.lemmas.List.Folds.{list_any-append}
use Rattle.pdu_stream.specs.declared.joined.Joined.{Joined}
use Rattle.pdu_stream.specs.Fragments.{Fragment, is_cancelled, is_maybe, stub_of, joined_of, with_fragment}

or_nothing : (b : Bool) → (b || false) ≡ b
or_nothing true = refl
or_nothing false = refl

-- marks of the fragments and between them, with one more
or_last : (a x c d : Bool) → (a || (x || (c || (d || false)))) ≡ ((a || (x || c)) || d)
or_last true x c d = refl
or_last false true c d = refl
or_last false false true d = refl
or_last false false false d = or_nothing d

-- a fragment alone
pub joined_alone : (f : Fragment) → joined_of f [] false ≡ record { call_id = f.call_id; order = f.order; context = f.part.context; op = f.part.op; maybe = is_maybe f; cancel = is_cancelled f; stub = stub_of f }
unfolding joined_of
joined_alone f = λ i. record { call_id = f.call_id; order = f.order; context = f.part.context; op = f.part.op; maybe = is_maybe f; cancel = or_nothing (is_cancelled f) i; stub = append-nil (stub_of f) i }

-- ---- what stays that of the first fragment

pub joined-call_id : (first : Fragment) (later : List Fragment) (cancelled : Bool) → (joined_of first later cancelled).call_id ≡ first.call_id
unfolding joined_of
joined-call_id first later cancelled = refl

pub joined-context : (first : Fragment) (later : List Fragment) (cancelled : Bool) → (joined_of first later cancelled).context ≡ first.part.context
unfolding joined_of
joined-context first later cancelled = refl

pub joined-op : (first : Fragment) (later : List Fragment) (cancelled : Bool) → (joined_of first later cancelled).op ≡ first.part.op
unfolding joined_of
joined-op first later cancelled = refl

pub joined-order : (first : Fragment) (later : List Fragment) (cancelled : Bool) → (joined_of first later cancelled).order ≡ first.order
unfolding joined_of
joined-order first later cancelled = refl

-- ---- with a later fragment

abbrev joined : Fragment → Bool → List ℕ → Joined
joined first cancel stub = record { call_id = first.call_id; order = first.order; context = first.part.context; op = first.part.op; maybe = is_maybe first; cancel = cancel; stub = stub }

pub joined_last : (first f : Fragment) (later : List Fragment) (cancelled : Bool) → joined_of first (later ++ f ∷ []) cancelled ≡ with_fragment (Some (joined_of first later cancelled)) f
unfolding joined_of
joined_last first f later cancelled =
    let any : list_any is_cancelled (later ++ f ∷ []) ≡ (list_any is_cancelled later || (is_cancelled f || false)) = list_any-append is_cancelled later (f ∷ []) in
    let cancel : (cancelled || (is_cancelled first || list_any is_cancelled (later ++ f ∷ []))) ≡ ((cancelled || (is_cancelled first || list_any is_cancelled later)) || is_cancelled f) =
    ap (λ (b : Bool). cancelled || (is_cancelled first || b)) any ∙ or_last cancelled (is_cancelled first) (list_any is_cancelled later) (is_cancelled f) in
    let parts : flat_map stub_of (later ++ f ∷ []) ≡ flat_map stub_of later ++ stub_of f =
    flat_map-append stub_of later (f ∷ []) ∙ ap (λ (x : List ℕ). flat_map stub_of later ++ x) (append-nil (stub_of f)) in
    let stub : stub_of first ++ flat_map stub_of (later ++ f ∷ []) ≡ (stub_of first ++ flat_map stub_of later) ++ stub_of f =
    ap (λ (x : List ℕ). stub_of first ++ x) parts ∙ sym (append_assoc (stub_of first) (flat_map stub_of later) (stub_of f)) in
    λ i. joined first (cancel i) (stub i)

-- ---- with a mark

pub joined_marked : (first : Fragment) (later : List Fragment) (cancelled mark : Bool)
    → joined_of first later (cancelled || (mark || false)) ≡ record (joined_of first later cancelled) { cancel = (joined_of first later cancelled).cancel || mark }
unfolding joined_of
joined_marked first later cancelled mark =
    λ i. joined first (or_mark cancelled mark (is_cancelled first || list_any is_cancelled later) i) (flat_map stub_of (first ∷ later))
  where
    or_mark : (a m x : Bool) → ((a || (m || false)) || x) ≡ ((a || x) || m)
    or_mark true m x = refl
    or_mark false true true = refl
    or_mark false true false = refl
    or_mark false false x = sym (or_nothing x)
