-- The least waiting call has no blocker while no call runs.
use Rattle.std.proofs.Common.{◌≡◌, ℕ, ◌≤◌, Bool, true, false, ◌&&◌, nat_lt, min, Option, Some, None, List, [], ◌∷◌, refl, sym, ◌∙◌, ap, subst, arith, MatchOption, ◌⊎◌, inl, inr}
use Rattle.std.specs.List.{list_any, filter}
use Rattle.std.proofs.lemmas.Bool.{le-ltb, ltb-true, ltb-false, cases_Bool}
use Rattle.handle_model.proofs.Apart.{least_none}
use Rattle.handle_model.specs.History.{History}
use Rattle.handle_model.specs.Waiting.{OnlyTake, OnlyDeny}
use Rattle.handle_model.proofs.Held.{open_not_due}
use Rattle.handle_model.proofs.Steps.{waits_conn, open_unshut}
use Rattle.handle_model.specs.Journal.{Legal, waits, accepted, due, is_shut, fault, running, waiting, least, lesser, blocker, running_blocker, waiting_blocker, conflict}

-- no number of the list is below k
abbrev pub NoneBelow : ℕ → List ℕ → Type 0
NoneBelow k [] = Unit {0}
NoneBelow k (n ∷ ns) = (k ≤ n) × NoneBelow k ns

below_less : (j k : ℕ) (ns : List ℕ) → j ≤ k → NoneBelow k ns → NoneBelow j ns
below_less j k [] le b = tt
below_less j k (n ∷ ns) le b = let first = b.0 in (omega arith, below_less j k ns le b.1)

lesser_bounds : (n : ℕ) (ns : List ℕ) (k : ℕ) (o : Option ℕ) → (o ≡ None → ns ≡ []) → ((m : ℕ) → o ≡ Some m → NoneBelow m ns) → lesser n o ≡ Some k → NoneBelow k (n ∷ ns)
lesser_bounds n ns k None empty bounds e = let same : n ≡ k = cc in let none = empty refl in (omega arith, rw none tt)
lesser_bounds n ns k (Some m) empty bounds e =
    let same : min n m ≡ k = cc in (omega arith, below_less k m ns (omega arith) (bounds m refl))

least_bounds : (ns : List ℕ) (k : ℕ) → least ns ≡ Some k → NoneBelow k ns
least_bounds [] k e = tt
least_bounds (n ∷ ns) k e = lesser_bounds n ns k (least ns) (least_none ns) (least_bounds ns) e

min_cases : (x m : ℕ) → (min x m ≡ x) ⊎ (min x m ≡ m)
min_cases x m =
    elim (cases_Bool (nat_lt x m)) [
      | inl e ↦ let low = ltb-true x m e in inl (omega arith)
      | inr e ↦ let low = ltb-false x m e in inr (omega arith)
    ]

lesser_passes : (p : ℕ → Bool) (x k : ℕ) (o : Option ℕ) → p x ≡ true → ((m : ℕ) → o ≡ Some m → p m ≡ true) → lesser x o ≡ Some k → p k ≡ true
lesser_passes p x k None on rest e = let same : x ≡ k = cc in subst (λ (n : ℕ). p n ≡ true) same on
lesser_passes p x k (Some m) on rest e =
    let same : min x m ≡ k = cc in
    elim (min_cases x m) [
      | inl f ↦ subst (λ (n : ℕ). p n ≡ true) (sym f ∙ same) on
      | inr f ↦ subst (λ (n : ℕ). p n ≡ true) (sym f ∙ same) (rest m refl)
    ]

-- the least of those that pass passes
least_passes : (p : ℕ → Bool) (xs : List ℕ) (k : ℕ) → least (filter p xs) ≡ Some k → p k ≡ true
least_passes p [] k e = absurd (cc)
least_passes p (x ∷ xs) k e =
    elim (cases_Bool (p x)) [
      | inl on ↦ lesser_passes p x k (least (filter p xs)) on (least_passes p xs) (rw on at e)
      | inr off ↦ least_passes p xs k (rw off at e)
    ]

none_below : (k : ℕ) (ns : List ℕ) (q : ℕ → Bool) → NoneBelow k ns → filter (λ m. nat_lt m k && q m) ns ≡ []
none_below k [] q h = refl
none_below k (n ∷ ns) q h = rw (le-ltb n k h.0) (none_below k ns q h.1)

pub least_free : (j : History) (k : ℕ) → running j ≡ [] → NoneBelow k (waiting j) → blocker j k ≡ None
least_free j k r w =
    let a : running_blocker j k ≡ None = rw r refl in
    let b : waiting_blocker j k ≡ None = ap least (none_below k (waiting j) (conflict j k) w) in rw (a, b) refl

decided : (j : History) (k : ℕ) → waits j k ≡ true → blocker j k ≡ None → list_any is_shut j.past ≡ false → due j ≡ false → (f : Option ℕ) → fault j k ≡ f → MatchOption f (OnlyTake j k) (OnlyDeny j k)
decided j k w b u d None f =
    record {
      allowed = record { before_shut = u; shut_when_due = λ e. cc; fits = (w, b, f, refl) };
      no_other = λ cookies a. a.fits.3;
      no_deny = λ place a. let e = a.fits.2 in cc;
    }
decided j k w b u d (Some place) f =
    record {
      allowed = record { before_shut = u; shut_when_due = λ e. cc; fits = (w, b, f) };
      no_other = λ i a. let e = a.fits.2 in cc;
      no_take = λ cookies a. let e = a.fits.2 in cc;
    }

-- the least waiting call can be taken or denied in one way
pub goes_on : (j : History) (k : ℕ) → Legal j → running j ≡ [] → least (waiting j) ≡ Some k → (blocker j k ≡ None) × MatchOption (fault j k) (OnlyTake j k) (OnlyDeny j k)
goes_on j k l r e =
    let w = least_passes (waits j) (accepted j) k e in
    let free = least_free j k r (least_bounds (waiting j) k e) in
    let o = waits_conn j k l w in
    (free, decided j k w free (open_unshut j.home j.base j.past o.0 l o.1) (open_not_due j o.0 o.1) (fault j k) refl)
