-- What the steps of a peer are to its link.
use Rattle.std.proofs.Common.{◌≡◌, ℕ, ◌<◌, ◌≤◌, ◌==◌, Bool, true, false, if◌then◌else◌, Option, Some, None, List, [], ◌∷◌, ◌++◌, length, take, drop, refl, sym, ap, ◌∙◌, subst, arith, append_assoc}
use Rattle.std.proofs.lemmas.List.{take-append-drop}
use Rattle.std.proofs.lemmas.Bool.Decides.{nat_tests}
use Rattle.std.specs.Prelude.{Ok}
use Rattle.std.specs.Option.{option_or}
use Rattle.std.specs.Io.KnownBytes.{append_known, prepend_known}
use Rattle.rpc_base.specs.Causes.{Rose}
use Rattle.rpc_outside.specs.declared.link.Taken.{Taken}
use Rattle.rpc_outside.specs.declared.link.Taken.TheVariants as taken
use Rattle.rpc_outside.specs.Links.{Shown, Counts, IsNothing, first_end, Takes}
use Rattle.rpc_outside.specs.declared.script.LinkStep.{LinkStep}
use Rattle.rpc_outside.specs.declared.script.LinkStep.TheVariants.{Give, Quiet, AwaitPut, End}
use Rattle.rpc_outside.specs.Scripts.{to_come, Playing, ready, past_await, after_put, IsOver, IsQuiet, Gives, Plays}

empty_first : (b : Bool) (octets : List ℕ) (steps : List LinkStep) → (length octets == 0) ≡ b → to_come (ready steps) ≡ to_come steps
    → to_come (if b then ready steps else Give octets ∷ steps) ≡ octets ++ to_come steps
empty_first true [] steps is rest = rest
empty_first true (o ∷ octets) steps is rest = absurd (grind arith)
empty_first false octets steps is rest = refl

pub to_come-ready : (steps : List LinkStep) → to_come (ready steps) ≡ to_come steps
to_come-ready [] = refl
to_come-ready (Give octets ∷ steps) = empty_first (length octets == 0) octets steps refl (to_come-ready steps)
to_come-ready (Quiet ∷ steps) = refl
to_come-ready (AwaitPut ∷ steps) = refl
to_come-ready (End ∷ steps) = refl

gives_come : (steps : List LinkStep) (into : List ℕ) (n : ℕ) (a b : Playing) → Gives steps into n a b → (b.taken ≡ a.taken ++ take n into) × (to_come steps ≡ take n into ++ to_come b.rest)
gives_come (Give octets ∷ steps) into n a b is = (
  ap (λ (p : Playing). p.taken) is.3 ∙ ap (λ l. a.taken ++ l) (sym is.2),
  ap (λ l. l ++ to_come steps) (sym (take-append-drop n octets))
      ∙ (append_assoc (take n octets) (drop n octets) (to_come steps)
      ∙ (ap (λ l. l ++ to_come (Give (drop n octets) ∷ steps)) (sym is.2) ∙ ap (λ (p : Playing). take n into ++ to_come p.rest) (sym is.3))),
)
gives_come [] into n a b is = absurd is
gives_come (Quiet ∷ steps) into n a b is = absurd is
gives_come (AwaitPut ∷ steps) into n a b is = absurd is
gives_come (End ∷ steps) into n a b is = absurd is

gives_some : (steps : List LinkStep) (into : List ℕ) (n : ℕ) (a b : Playing) → Gives steps into n a b → (0 < n) × (n ≤ length into)
gives_some (Give octets ∷ steps) into n a b is = let count = is.0 in (is.1, grind (arith, nat_tests))
gives_some [] into n a b is = absurd is
gives_some (Quiet ∷ steps) into n a b is = absurd is
gives_some (AwaitPut ∷ steps) into n a b is = absurd is
gives_some (End ∷ steps) into n a b is = absurd is

-- octets were taken
pub bytes_come : (a b : Playing) (into : List ℕ) (n : ℕ) → Gives (ready a.rest) into n a b → (b.taken ≡ a.taken ++ take n into) × (to_come a.rest ≡ take n into ++ to_come b.rest)
bytes_come a b into n is = let come = gives_come (ready a.rest) into n a b is in (come.0, sym (to_come-ready a.rest) ∙ come.1)

pub bytes_some : (a b : Playing) (into : List ℕ) (n : ℕ) → Gives (ready a.rest) into n a b → (0 < n) × (n ≤ length into)
bytes_some a b into n is = gives_some (ready a.rest) into n a b is

quiet_come : (steps now : List LinkStep) → IsQuiet steps now → to_come now ≡ to_come steps
quiet_come (Quiet ∷ steps) now is = ap to_come is
quiet_come (AwaitPut ∷ steps) now is = ap to_come is
quiet_come [] now is = absurd is
quiet_come (Give octets ∷ steps) now is = absurd is
quiet_come (End ∷ steps) now is = absurd is

-- nothing was taken
pub quiet_stays : (a : Playing) (now : List LinkStep) → IsQuiet (ready a.rest) now → to_come now ≡ to_come a.rest
quiet_stays a now is = quiet_come (ready a.rest) now is ∙ to_come-ready a.rest

over_none : (steps : List LinkStep) → IsOver steps → to_come steps ≡ []
over_none [] is = refl
over_none (End ∷ steps) is = refl
over_none (Give octets ∷ steps) is = absurd is
over_none (Quiet ∷ steps) is = absurd is
over_none (AwaitPut ∷ steps) is = absurd is

-- nothing is to come
pub over_nothing : (a : Playing) → IsOver (ready a.rest) → to_come a.rest ≡ []
over_nothing a is = sym (to_come-ready a.rest) ∙ over_none (ready a.rest) is

pub over_stays : (a : Playing) (now : List LinkStep) → now ≡ ready a.rest → to_come now ≡ to_come a.rest
over_stays a now is = ap to_come is ∙ to_come-ready a.rest

past_come : (steps : List LinkStep) → to_come (past_await steps) ≡ to_come steps
past_come [] = refl
past_come (Give octets ∷ steps) = refl
past_come (Quiet ∷ steps) = refl
past_come (AwaitPut ∷ steps) = refl
past_come (End ∷ steps) = refl

pub put_stays : (rest now : List LinkStep) → now ≡ after_put rest → to_come now ≡ to_come rest
put_stays rest now is = ap to_come is ∙ (past_come (ready rest) ∙ to_come-ready rest)

pub takes_bytes : (a b : Shown) (p q : Playing) (into : List ℕ) (n : ℕ) (t : Taken) → t ≡ taken.Bytes n → Plays p into t q
    → a.taken ≡ Some p.taken → a.left ≡ Some (to_come p.rest) → b.taken ≡ Some q.taken → b.left ≡ Some (to_come q.rest)
    → Counts a b → b.put ≡ a.put → b.put_at_end ≡ a.put_at_end → b.closed ≡ a.closed → Takes a into (Ok t) b
takes_bytes a b p q into n t is plays taken_was left_was taken_now left_now counts put put_at_end closed =
    let gives : Gives (ready p.rest) into n p q = subst (λ u. Plays p into u q) is plays in
    let come = bytes_come p q into n gives in
    let some = bytes_some p q into n gives in
    subst (λ u. Takes a into (Ok u) b) (sym is) (
      some.0,
      some.1,
      record {
        counts = counts;
        taken = taken_now ∙ (ap Some come.0 ∙ ap (λ k. append_known k (take n into)) (sym taken_was));
        left = left_was ∙ (ap Some come.1 ∙ ap (prepend_known (take n into)) (sym left_now));
        put = put;
        put_at_end = put_at_end;
        closed = closed;
      },
    )

pub takes_quiet : (a b : Shown) (p q : Playing) (into : List ℕ) (t : Taken) → t ≡ taken.Quiet → Plays p into t q
    → a.taken ≡ Some p.taken → a.left ≡ Some (to_come p.rest) → b.taken ≡ Some q.taken → b.left ≡ Some (to_come q.rest)
    → Counts a b → Rose a.quiets b.quiets → b.put ≡ a.put → b.put_at_end ≡ a.put_at_end → b.closed ≡ a.closed → Takes a into (Ok t) b
takes_quiet a b p q into t is plays taken_was left_was taken_now left_now counts rose put put_at_end closed =
    let quiet : (q.taken ≡ p.taken) × IsQuiet (ready p.rest) q.rest = subst (λ u. Plays p into u q) is plays in
    subst (λ u. Takes a into (Ok u) b) (sym is) (
      rose,
      record {
        counts = counts;
        taken = taken_now ∙ (ap Some quiet.0 ∙ sym taken_was);
        left = left_now ∙ (ap Some (quiet_stays p q.rest quiet.1) ∙ sym left_was);
        put = put;
        put_at_end = put_at_end;
        closed = closed;
      },
    )

pub takes_end : (a b : Shown) (p q : Playing) (into : List ℕ) (t : Taken) → t ≡ taken.End → Plays p into t q
    → a.taken ≡ Some p.taken → a.left ≡ Some (to_come p.rest) → b.taken ≡ Some q.taken → b.left ≡ Some (to_come q.rest)
    → Counts a b → Rose a.ends b.ends → b.put ≡ a.put → b.put_at_end ≡ first_end a.put_at_end a.put → b.closed ≡ a.closed → Takes a into (Ok t) b
takes_end a b p q into t is plays taken_was left_was taken_now left_now counts rose put put_at_end closed =
    let over : (q.taken ≡ p.taken) × IsOver (ready p.rest) × (q.rest ≡ ready p.rest) = subst (λ u. Plays p into u q) is plays in
    subst (λ u. Takes a into (Ok u) b) (sym is) record {
      counts = counts;
      rose = rose;
      nothing = subst IsNothing (sym left_was) (over_nothing p over.1);
      taken = taken_now ∙ (ap Some over.0 ∙ sym taken_was);
      left = left_now ∙ (ap Some (over_stays p q.rest over.2) ∙ sym left_was);
      put = put;
      put_at_end = put_at_end;
      closed = closed;
    }

-- how many were put at the first end
pub end_or : (before : Option ℕ) (put : List ℕ) (n : ℕ) (now : Option ℕ) → n ≡ length put → now ≡ option_or before (Some n) → now ≡ first_end before (Some put)
end_or None put n now long is = is ∙ ap Some long
end_or (Some k) put n now long is = is
