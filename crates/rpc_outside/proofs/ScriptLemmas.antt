-- A peer that goes from step to step.
use Rattle.std.specs.Prelude.{⊤, min}
use Rattle.std.proofs.Common.{◌≡◌, ℕ, zero, suc, ◌+◌, ◌-◌, ◌<◌, ◌≤◌, ◌==◌, Bool, nat_le, if◌then◌else◌, true, false, Option, Some, None, List, [], ◌∷◌, ◌++◌, length, take, drop, slice_get, refl, sym, ap, ◌∙◌, subst, arith, append_assoc, length-drop}
use Rattle.std.proofs.lemmas.List.{append-nil, take-append-drop}
use Rattle.std.proofs.lemmas.Bool.Decides.{nat_tests}
use Rattle.rpc_outside.specs.declared.script.LinkStep.{LinkStep}
use Rattle.rpc_outside.specs.declared.script.LinkStep.TheVariants.{Give, Quiet, AwaitPut, End}
use Rattle.rpc_outside.specs.Scripts.{given, first_octets, cut_first, Playing, playing, is_spent, ready, past_await, IsOver, IsQuiet, Gives}

-- the first of some steps
abbrev pub first : List LinkStep → Option LinkStep
first [] = None
first (s ∷ steps) = Some s

first_at : (steps : List LinkStep) (at : ℕ) → slice_get steps at ≡ first (drop at steps)
first_at [] zero = refl
first_at [] (suc at) = refl
first_at (s ∷ steps) zero = refl
first_at (s ∷ steps) (suc at) = first_at steps at

-- a step of which so many octets are taken
abbrev pub cut_one : ℕ → Option LinkStep → Option LinkStep
cut_one n None = None
cut_one n (Some (Give octets)) = Some (Give (drop n octets))
cut_one n (Some Quiet) = Some Quiet
cut_one n (Some AwaitPut) = Some AwaitPut
cut_one n (Some End) = Some End

first_cut : (n : ℕ) (steps : List LinkStep) → first (cut_first n steps) ≡ cut_one n (first steps)
first_cut n [] = refl
first_cut n (Give octets ∷ steps) = refl
first_cut n (Quiet ∷ steps) = refl
first_cut n (AwaitPut ∷ steps) = refl
first_cut n (End ∷ steps) = refl

-- the step that the code looks at is the first of those to come
pub first_is : (steps : List LinkStep) (at done : ℕ) (a : Playing) (s : Option LinkStep) → playing steps at done ≡ a → s ≡ slice_get steps at → first a.rest ≡ cut_one done s
first_is steps at done a s is seen = ap (λ (b : Playing). first b.rest) (sym is) ∙ (first_cut done (drop at steps) ∙ ap (cut_one done) (sym (first_at steps at) ∙ sym seen))

pub cut_first-length : (n : ℕ) (steps : List LinkStep) → length (cut_first n steps) ≡ length steps
cut_first-length n [] = refl
cut_first-length n (Give octets ∷ steps) = refl
cut_first-length n (Quiet ∷ steps) = refl
cut_first-length n (AwaitPut ∷ steps) = refl
cut_first-length n (End ∷ steps) = refl

cut_none : (steps : List LinkStep) → cut_first 0 steps ≡ steps
cut_none [] = refl
cut_none (Give octets ∷ steps) = refl
cut_none (Quiet ∷ steps) = refl
cut_none (AwaitPut ∷ steps) = refl
cut_none (End ∷ steps) = refl

behind_cut : (n : ℕ) (steps : List LinkStep) → drop 1 (cut_first n steps) ≡ drop 1 steps
behind_cut n [] = refl
behind_cut n (Give octets ∷ steps) = refl
behind_cut n (Quiet ∷ steps) = refl
behind_cut n (AwaitPut ∷ steps) = refl
behind_cut n (End ∷ steps) = refl

drop_none : (n : ℕ) → drop {A = ℕ} n [] ≡ []
drop_none zero = refl
drop_none (suc n) = refl

first_of_cut : (n : ℕ) (steps : List LinkStep) → first_octets (cut_first n steps) ≡ drop n (first_octets steps)
first_of_cut n [] = sym (drop_none n)
first_of_cut n (Give octets ∷ steps) = refl
first_of_cut n (Quiet ∷ steps) = sym (drop_none n)
first_of_cut n (AwaitPut ∷ steps) = sym (drop_none n)
first_of_cut n (End ∷ steps) = sym (drop_none n)

drop_next : (at : ℕ) (steps : List LinkStep) → drop (suc at) steps ≡ drop 1 (drop at steps)
drop_next zero steps = refl
drop_next (suc at) [] = refl
drop_next (suc at) (s ∷ steps) = drop_next at steps

given_one : (s : LinkStep) → given (s ∷ []) ≡ first_octets (s ∷ [])
given_one (Give octets) = append-nil octets
given_one Quiet = refl
given_one AwaitPut = refl
given_one End = refl

given_first : (s : LinkStep) (steps : List LinkStep) → given (s ∷ steps) ≡ first_octets (s ∷ []) ++ given steps
given_first (Give octets) steps = refl
given_first Quiet steps = refl
given_first AwaitPut steps = refl
given_first End steps = refl

first_alone : (s : LinkStep) (steps : List LinkStep) → first_octets (s ∷ steps) ≡ first_octets (s ∷ [])
first_alone (Give octets) steps = refl
first_alone Quiet steps = refl
first_alone AwaitPut steps = refl
first_alone End steps = refl

given_next : (at : ℕ) (steps : List LinkStep) → given (take (suc at) steps) ≡ given (take at steps) ++ first_octets (drop at steps)
given_next zero [] = refl
given_next (suc at) [] = refl
given_next zero (s ∷ steps) = given_one s ∙ sym (first_alone s steps)
given_next (suc at) (s ∷ steps) = given_first s (take (suc at) steps)
    ∙ (ap (λ l. first_octets (s ∷ []) ++ l) (given_next at steps)
    ∙ (sym (append_assoc (first_octets (s ∷ [])) (given (take at steps)) (first_octets (drop at steps)))
    ∙ ap (λ l. l ++ first_octets (drop at steps)) (sym (given_first s (take at steps)))))

-- the next step passes
pub passed : (steps : List LinkStep) (at done : ℕ) (a : Playing) → playing steps at done ≡ a → given (take (at + 1) steps) ++ [] ≡ a.taken ++ first_octets a.rest
passed steps at done a is =
    let next : at + 1 ≡ suc at = omega arith in
    let octets : List ℕ = first_octets (drop at steps) in
    let left : first_octets (cut_first done (drop at steps)) ≡ drop done octets = first_of_cut done (drop at steps) in
    append-nil (given (take (at + 1) steps))
    ∙ (ap (λ n. given (take n steps)) next
    ∙ (given_next at steps
    ∙ (ap (λ l. given (take at steps) ++ l) (sym (take-append-drop done octets))
    ∙ (sym (append_assoc (given (take at steps)) (take done octets) (drop done octets))
    ∙ (ap (λ l. (given (take at steps) ++ take done octets) ++ l) (sym left)
    ∙ ap (λ (b : Playing). b.taken ++ first_octets b.rest) is)))))

pub next_rest : (steps : List LinkStep) (at done : ℕ) (a : Playing) → playing steps at done ≡ a → cut_first 0 (drop (at + 1) steps) ≡ drop 1 a.rest
next_rest steps at done a is =
    let next : at + 1 ≡ suc at = omega arith in
    cut_none (drop (at + 1) steps)
    ∙ (ap (λ n. drop n steps) next
    ∙ (drop_next at steps
    ∙ (sym (behind_cut done (drop at steps)) ∙ ap (λ (b : Playing). drop 1 b.rest) is)))

none_of_length : (steps : List LinkStep) → length steps ≡ 0 → steps ≡ []
none_of_length [] is = refl
none_of_length (s ∷ steps) is = absurd (omega arith)

-- all steps are passed
pub all_passed : (steps : List LinkStep) (at done : ℕ) (a : Playing) → playing steps at done ≡ a → length steps ≤ at → a.rest ≡ []
all_passed steps at done a is past =
    let left = length-drop at steps in
    let rest : length a.rest ≡ length (drop at steps) = ap (λ (b : Playing). length b.rest) (sym is) ∙ cut_first-length done (drop at steps) in
    none_of_length a.rest (omega arith)

pub passed_none : (a : Playing) → a.rest ≡ [] → (a.taken ≡ a.taken ++ first_octets a.rest) × (a.rest ≡ drop 1 a.rest)
passed_none a none = (sym (ap (λ r. a.taken ++ first_octets r) none ∙ append-nil a.taken), none ∙ ap (λ (r : List LinkStep). drop 1 r) (sym none))

octets_of_first : (steps : List LinkStep) (octets : List ℕ) → first steps ≡ Some (Give octets) → first_octets steps ≡ octets
octets_of_first [] octets is = absurd cc
octets_of_first (Give own ∷ steps) octets is = cc
octets_of_first (Quiet ∷ steps) octets is = absurd cc
octets_of_first (AwaitPut ∷ steps) octets is = absurd cc
octets_of_first (End ∷ steps) octets is = absurd cc

-- the octets of the step that the code looks at
pub octets_here : (steps : List LinkStep) (at : ℕ) (octets : List ℕ) → Some (Give octets) ≡ slice_get steps at → first_octets (drop at steps) ≡ octets
octets_here steps at octets seen = octets_of_first (drop at steps) octets (sym (first_at steps at) ∙ sym seen)

pub still_within : (done n room : ℕ) (octets : List ℕ) → done ≤ length octets → n ≡ min room (length (drop done octets)) → done + n ≤ length octets
still_within done n room octets within count = let left = length-drop done octets in grind (arith, nat_tests)

-- what the first step says
abbrev spent_one : Option LinkStep → Bool
spent_one None = false
spent_one (Some (Give octets)) = length octets == 0
spent_one (Some Quiet) = false
spent_one (Some AwaitPut) = false
spent_one (Some End) = false

spent_first : (steps : List LinkStep) → is_spent steps ≡ spent_one (first steps)
spent_first [] = refl
spent_first (Give octets ∷ steps) = refl
spent_first (Quiet ∷ steps) = refl
spent_first (AwaitPut ∷ steps) = refl
spent_first (End ∷ steps) = refl

pub spent_by : (steps : List LinkStep) (s : Option LinkStep) → first steps ≡ s → spent_one s ≡ is_spent steps
spent_by steps s is = sym (spent_first steps ∙ ap spent_one is)

pub spent_octets : (done n : ℕ) (octets : List ℕ) → n ≡ length octets → nat_le n done ≡ (length (drop done octets) == 0)
spent_octets done n octets long = let left = length-drop done octets in grind (arith, nat_tests)

full_by : (b : Bool) (octets : List ℕ) (steps : List LinkStep) → (length octets == 0) ≡ b → is_spent (ready steps) ≡ false → is_spent (if b then ready steps else Give octets ∷ steps) ≡ false
full_by true octets steps is rest = rest
full_by false octets steps is rest = is

-- one that isn't spent is ready
pub ready_full : (steps : List LinkStep) → is_spent (ready steps) ≡ false
ready_full [] = refl
ready_full (Give octets ∷ steps) = full_by (length octets == 0) octets steps refl (ready_full steps)
ready_full (Quiet ∷ steps) = refl
ready_full (AwaitPut ∷ steps) = refl
ready_full (End ∷ steps) = refl

pub ready_spent : (steps : List LinkStep) → is_spent steps ≡ true → ready (drop 1 steps) ≡ ready steps
ready_spent [] is = refl
ready_spent (Give octets ∷ steps) is = grind arith
ready_spent (Quiet ∷ steps) is = absurd cc
ready_spent (AwaitPut ∷ steps) is = absurd cc
ready_spent (End ∷ steps) is = absurd cc

pub ready_here : (steps : List LinkStep) → is_spent steps ≡ false → ready steps ≡ steps
ready_here [] is = refl
ready_here (Give octets ∷ steps) is = grind arith
ready_here (Quiet ∷ steps) is = refl
ready_here (AwaitPut ∷ steps) is = refl
ready_here (End ∷ steps) is = refl

pub spent_some : (steps : List LinkStep) → is_spent steps ≡ true → (0 < length steps) × (first_octets steps ≡ [])
spent_some [] is = absurd cc
spent_some (Give [] ∷ steps) is = (omega arith, refl)
spent_some (Give (o ∷ octets) ∷ steps) is = absurd (grind arith)
spent_some (Quiet ∷ steps) is = absurd cc
spent_some (AwaitPut ∷ steps) is = absurd cc
spent_some (End ∷ steps) is = absurd cc

pub over_none : (steps : List LinkStep) → first steps ≡ None → IsOver steps
over_none [] is = tt
over_none (s ∷ steps) is = absurd cc

pub over_end : (steps : List LinkStep) → first steps ≡ Some End → IsOver steps
over_end [] is = absurd cc
over_end (Give octets ∷ steps) is = absurd cc
over_end (Quiet ∷ steps) is = absurd cc
over_end (AwaitPut ∷ steps) is = absurd cc
over_end (End ∷ steps) is = tt

pub quiet_once : (steps now : List LinkStep) → first steps ≡ Some Quiet → now ≡ drop 1 steps → IsQuiet steps now
quiet_once [] now is next = absurd cc
quiet_once (Give octets ∷ steps) now is next = absurd cc
quiet_once (Quiet ∷ steps) now is next = next
quiet_once (AwaitPut ∷ steps) now is next = absurd cc
quiet_once (End ∷ steps) now is next = absurd cc

pub quiet_still : (steps now : List LinkStep) → first steps ≡ Some AwaitPut → now ≡ steps → IsQuiet steps now
quiet_still [] now is same = absurd cc
quiet_still (Give octets ∷ steps) now is same = absurd cc
quiet_still (Quiet ∷ steps) now is same = absurd cc
quiet_still (AwaitPut ∷ steps) now is same = same
quiet_still (End ∷ steps) now is same = absurd cc

-- a step without octets gives none
pub no_octets : (steps : List LinkStep) (s : LinkStep) → first steps ≡ Some s → first_octets (s ∷ []) ≡ [] → first_octets steps ≡ []
no_octets [] s is none = refl
no_octets (t ∷ steps) s is none = let same : t ≡ s = cc in first_alone t steps ∙ (ap (λ u. first_octets (u ∷ [])) same ∙ none)

pub past_put : (steps : List LinkStep) → first steps ≡ Some AwaitPut → drop 1 steps ≡ past_await steps
past_put [] is = absurd cc
past_put (Give octets ∷ steps) is = absurd cc
past_put (Quiet ∷ steps) is = absurd cc
past_put (AwaitPut ∷ steps) is = refl
past_put (End ∷ steps) is = absurd cc

-- a step that doesn't await a put
abbrev pub IsOther : Option LinkStep → Type 0
IsOther None = ⊤
IsOther (Some (Give octets)) = ⊤
IsOther (Some Quiet) = ⊤
IsOther (Some AwaitPut) = ⊥
IsOther (Some End) = ⊤

past_first : (steps : List LinkStep) → IsOther (first steps) → steps ≡ past_await steps
past_first [] o = refl
past_first (Give octets ∷ steps) o = refl
past_first (Quiet ∷ steps) o = refl
past_first (AwaitPut ∷ steps) o = absurd o
past_first (End ∷ steps) o = refl

pub past_other : (steps : List LinkStep) (s : Option LinkStep) → first steps ≡ s → IsOther s → steps ≡ past_await steps
past_other steps s is o = past_first steps (subst IsOther (sym is) o)

take_nil : (m : ℕ) → take {A = ℕ} m [] ≡ []
take_nil zero = refl
take_nil (suc m) = refl

take_then : (n m : ℕ) (xs : List ℕ) → take n xs ++ take m (drop n xs) ≡ take (n + m) xs
take_then zero m xs = let e : m ≡ 0 + m = omega arith in ap (λ k. take k xs) e
take_then (suc n) m [] = let e : suc n + m ≡ suc (n + m) = omega arith in rw e (take_nil m)
take_then (suc n) m (x ∷ xs) = let e : suc n + m ≡ suc (n + m) = omega arith in rw e (ap (λ l. x ∷ l) (take_then n m xs))

drop_then : (n m : ℕ) (xs : List ℕ) → drop m (drop n xs) ≡ drop (n + m) xs
drop_then zero m xs = let e : m ≡ 0 + m = omega arith in ap (λ k. drop k xs) e
drop_then (suc n) m [] = let e : suc n + m ≡ suc (n + m) = omega arith in rw e (drop_none m)
drop_then (suc n) m (x ∷ xs) = let e : suc n + m ≡ suc (n + m) = omega arith in rw e (drop_then n m xs)

some_left : (n : ℕ) (octets into : List ℕ) → n ≡ min (length into) (length octets) → 0 < length into → (length octets == 0) ≡ false → 0 < n
some_left n octets into is room full = grind (arith, nat_tests)

gives_on : (front : List ℕ) (steps : List LinkStep) (done n : ℕ) (octets into : List ℕ) (a : Playing) → first steps ≡ Some (Give octets)
    → a.taken ≡ front ++ take done (first_octets steps) → ready a.rest ≡ cut_first done steps → is_spent (ready a.rest) ≡ false
    → n ≡ min (length into) (length (drop done octets)) → 0 < length into → take n into ≡ take n (drop done octets)
    → Gives (ready a.rest) into n a (record { taken = front ++ take (done + n) (first_octets steps); rest = cut_first (done + n) steps })
gives_on front [] done n octets into a is taken rest full count room front_is = absurd cc
gives_on front (Quiet ∷ steps) done n octets into a is taken rest full count room front_is = absurd cc
gives_on front (AwaitPut ∷ steps) done n octets into a is taken rest full count room front_is = absurd cc
gives_on front (End ∷ steps) done n octets into a is taken rest full count room front_is = absurd cc
gives_on front (Give own ∷ steps) done n octets into a is taken rest full count room front_is =
    let same : octets ≡ own = cc in
    let some : (length (drop done own) == 0) ≡ false = subst (λ r. is_spent r ≡ false) rest full in
    let count_is : n ≡ min (length into) (length (drop done own)) = subst (λ o. n ≡ min (length into) (length (drop done o))) same count in
    let now : Playing = record { taken = front ++ take (done + n) own; rest = Give (drop (done + n) own) ∷ steps } in
    let taken_is : front ++ take (done + n) own ≡ a.taken ++ take n (drop done own) =
    ap (λ l. front ++ l) (sym (take_then done n own)) ∙ (sym (append_assoc front (take done own) (take n (drop done own))) ∙ ap (λ l. l ++ take n (drop done own)) (sym taken)) in
    subst (λ r. Gives r into n a now) (sym rest) (
      count_is,
      some_left n (drop done own) into count_is room some,
      subst (λ o. take n into ≡ take n (drop done o)) same front_is,
      λ i. record { taken = taken_is i; rest = Give (sym (drop_then done n own) i) ∷ steps },
    )

-- the octets that a take copies are given
pub gives_octets : (steps : List LinkStep) (at done n : ℕ) (octets into : List ℕ) (a settled : Playing) → playing steps at done ≡ settled
    → settled.taken ≡ a.taken → settled.rest ≡ ready a.rest → Some (Give octets) ≡ slice_get steps at
    → n ≡ min (length into) (length (drop done octets)) → 0 < length into → take n into ≡ take n (drop done octets)
    → Gives (ready a.rest) into n a (playing steps at (done + n))
gives_octets steps at done n octets into a settled is taken rest seen count room front_is =
    gives_on (given (take at steps)) (drop at steps) done n octets into a (sym (first_at steps at) ∙ sym seen)
    (sym taken ∙ ap (λ (b : Playing). b.taken) (sym is)) (sym rest ∙ ap (λ (b : Playing). b.rest) (sym is)) (ready_full a.rest) count room front_is
