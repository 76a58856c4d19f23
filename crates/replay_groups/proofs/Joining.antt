-- What a bind comes to.
use Rattle.std.proofs.Common.{◌≡◌, ◌≢◌, ℕ, zero, suc, ◌+◌, ◌-◌, ◌^◌, ◌≤◌, ◌<◌, ◌==◌, nat_le, if◌then◌else◌, Bool, true, false, ◌||◌, ◌⊎◌, inl, inr, Option, Some, None, Result, Ok, Err, List, [], ◌∷◌, ◌++◌, length, filter, get_or, slice_set, refl, sym, ap, subst, ◌∙◌, arith}
use Rattle.std.specs.Prelude.{⊤}
use Rattle.std.proofs.lemmas.Bool.{cases_Bool, eqb-true, le-leb}
use Rattle.std.proofs.lemmas.Bool.Decides.{leb_tells}
use Rattle.handle_model.specs.declared.entry.Entry.{Entry}
use Rattle.handle_model.specs.declared.entry.Entry.TheVariants.{Join}
use Rattle.handle_model.specs.declared.limits.JoinLimit.TheVariants as limit
use Rattle.handle_model.specs.Journal.{join_count}
use Rattle.handle_model.specs.Limits.{join_limit}
use Rattle.handle_model.specs.History.{History}
use Rattle.group_core.specs.declared.answer.JoinRefusal.{JoinRefusal}
use Rattle.group_core.specs.declared.answer.JoinRefusal.TheVariants as refusal
use Rattle.hub_story.specs.Answers.{JoinsWhole}
use Rattle.replay_world.specs.declared.peer.Member.{Member}
use Rattle.replay_world.specs.Worlds.{World, goes_on, is_open_group, journal, past_of}
use Rattle.replay_world.specs.Groups.{most_groups, at_limit, no_group, refusal_new, refusal_known, bind_refusal, by_limit, member_for, next_conn, joined, joined_in}
use Rattle.replay_groups.specs.declared.opening.OpenRefusal.{OpenRefusal}
use Rattle.replay_groups.specs.declared.opening.OpenRefusal.TheVariants.{Full}
use Rattle.replay_groups.specs.declared.opening.OpenRefusal.TheVariants as opening
use Rattle.replay_groups.specs.Keeps.{GroupsView, whole_of, past_at, Keeps, Has, GoesOn, Answers, IsFull, Opens}
use Rattle.replay_groups.specs.declared.binding.BindRefusal.TheVariants.{Refused, Memory}
use Rattle.replay_groups.specs.Binds.{moment, Joins, Binds, by_opening, by_joining}
use Rattle.replay_groups.proofs.Asking.{opened_on}

-- ---- a new group

last_of : (pasts : List (List Entry)) (n : ℕ) → n ≡ length pasts → get_or (pasts ++ [] ∷ []) n [] ≡ []
last_of [] zero e = refl
last_of [] (suc n) e = absurd (omega (arith, e))
last_of (past ∷ more) zero e = absurd (omega (arith, e))
last_of (past ∷ more) (suc n) e = last_of more n (omega (arith, e))

set_last : (pasts : List (List Entry)) (n : ℕ) (new : List Entry) → n ≡ length pasts → slice_set (pasts ++ [] ∷ []) n new ≡ pasts ++ new ∷ []
set_last [] zero new e = refl
set_last [] (suc n) new e = absurd (omega (arith, e))
set_last (past ∷ more) zero new e = absurd (omega (arith, e))
set_last (past ∷ more) (suc n) new e = ap (λ (l : List (List Entry)). past ∷ l) (set_last more n new (omega (arith, e)))

full_test : (many count : ℕ) → ((most_groups ≤ many) ⊎ (2 ^ 32 ≤ count) → ⊥) → (nat_le most_groups many || nat_le (2 ^ 32) count) ≡ false
full_test many count none = elim (leb_tells most_groups many) [
  | inl p ↦ absurd (none (inl p.1))
  | inr p ↦ elim (leb_tells (2 ^ 32) count) [ inl q ↦ absurd (none (inr q.1)) | inr q ↦ let a = p.0 in let b = q.0 in λ i. a i || b i ]
]

or_true : (b : Bool) → (b || true) ≡ true
or_true true = refl
or_true false = refl

full_from : (many count : ℕ) → (most_groups ≤ many) ⊎ (2 ^ 32 ≤ count) → (nat_le most_groups many || nat_le (2 ^ 32) count) ≡ true
full_from many count (inl high) = ap (λ (b : Bool). b || nat_le (2 ^ 32) count) (le-leb most_groups many high)
full_from many count (inr late) = ap (λ (b : Bool). nat_le most_groups many || b) (le-leb (2 ^ 32) count late) ∙ or_true (nat_le most_groups many)

abbrev when_full : Bool → Option ℕ
when_full b = if b then Some at_limit else None

new_joins : (boot id : ℕ) (pasts : List (List Entry)) (y : GroupsView) → (IsFull pasts → ⊥) → id ≡ length pasts + 1 → Keeps y (pasts ++ (Join 1 ∷ []) ∷ [])
    → Joins (moment boot pasts) 0 (record { group = id; number = 1 }) y
new_joins boot id pasts y room number keeps =
    let at : length pasts + 1 - 1 ≡ length pasts = omega arith in
    let empty : get_or (pasts ++ [] ∷ []) (length pasts + 1 - 1) [] ≡ [] = last_of pasts (length pasts + 1 - 1) at in
    let back = sym empty in
    let all : (joined (moment boot pasts) 0).groups ≡ pasts ++ (Join 1 ∷ []) ∷ [] =
    ap (λ (past : List Entry). slice_set (pasts ++ [] ∷ []) (length pasts + 1 - 1) (Join (join_count (whole_of boot (length pasts + 1) past) + 1) ∷ past)) empty
    ∙ set_last pasts (length pasts + 1 - 1) (Join 1 ∷ []) at in
    record {
      allowed = ap when_full (full_test (length (filter goes_on pasts)) (length pasts + 1) room);
      member_is = λ i. record { group = number i; number = join_count (whole_of boot (length pasts + 1) (back i)) + 1 };
      keeps = subst (Keeps y) (sym all) keeps;
    }

pub new_opened : (x y : GroupsView) (id : ℕ) → Opens x (Ok id) y → Binds x 0 (Ok (record { group = id; number = 1 })) y
new_opened x y id o = (o.0, λ pasts k. let d = o.1 pasts k in new_joins x.boot id pasts y d.0 d.1 d.2)

pub new_full : (x y : GroupsView) → Opens x (Err Full) y → Binds x 0 (Err (Refused at_limit)) y
new_full x y o = (
  ap (λ (z : GroupsView). z.boot) o.0,
  λ pasts k. (ap when_full (full_from (length (filter goes_on pasts)) (length pasts + 1) (o.1 pasts k)), subst (λ (z : GroupsView). Keeps z pasts) (sym o.0) k),
)

pub same_binds : (x y : GroupsView) (asked : ℕ) → y ≡ x → Binds x asked (Err Memory) y
same_binds x y asked same = (ap (λ (z : GroupsView). z.boot) same, λ pasts k. subst (λ (z : GroupsView). Keeps z pasts) (sym same) k)

new_by : (x y : GroupsView) (r : Result ℕ OpenRefusal) → Opens x r y → Binds x 0 (by_opening r) y
new_by x y (Ok id) o = new_opened x y id o
new_by x y (Err Full) o = new_full x y o
new_by x y (Err opening.Memory) o = same_binds x y 0 o

-- ---- a group that is there

set_same : (pasts : List (List Entry)) (i : ℕ) → slice_set pasts i (get_or pasts i []) ≡ pasts
set_same [] i = refl
set_same (past ∷ more) zero = refl
set_same (past ∷ more) (suc i) = ap (λ (l : List (List Entry)). past ∷ l) (set_same more i)

pub no_zero : (g : ℕ) → g ≢ 0 → (g == 0) ≡ false
no_zero g ne = elim (cases_Bool (g == 0)) [ inl t ↦ absurd (ne (eqb-true g 0 t)) | inr f ↦ f ]

not_zero : (g : ℕ) → 1 ≤ g → (g == 0) ≡ false
not_zero g one = no_zero g (λ e. omega (arith, one, e))

-- what a bind of a group that goes on reads
known_refusal : (w : World ⊤) (g : ℕ) → 1 ≤ g → is_open_group w g ≡ true → bind_refusal w g ≡ by_limit (join_limit (journal w g))
known_refusal w g one is =
    ap (λ (b : Bool). if b then refusal_new w else refusal_known w g) (not_zero g one)
    ∙ ap (λ (b : Bool). if b then by_limit (join_limit (journal w g)) else Some no_group) is

abbrev world_at : World ⊤ → Bool → World ⊤
world_at w b = if b then record w { groups = w.groups ++ [] ∷ [] } else w

abbrev group_by : World ⊤ → ℕ → Bool → ℕ
group_by w g b = if b then length w.groups + 1 else g

known_member : (w : World ⊤) (g : ℕ) → 1 ≤ g → member_for w g ≡ record { group = g; number = next_conn w g }
known_member w g one = ap (λ (b : Bool). record { group = group_by w g b; number = next_conn (world_at w b) (group_by w g b) }) (not_zero g one)

known_joined : (w : World ⊤) (g : ℕ) → 1 ≤ g → joined w g ≡ joined_in w g
known_joined w g one = ap (λ (b : Bool). joined_in (world_at w b) (group_by w g b)) (not_zero g one)

module _ (x y : GroupsView) (g : ℕ) (one : 1 ≤ g) (opened : (pasts : List (List Entry)) → Keeps x pasts → is_open_group (moment x.boot pasts) g ≡ true) where
  pub known_ok : (number : ℕ) → Answers x g (λ j k. JoinsWhole j (Ok number) k) y → Binds x g (Ok (record { group = g; number = number })) y
  known_ok number a = (
    a.0,
    λ pasts k.
        let d = a.1 pasts k in
        let w = moment x.boot pasts in
        let past : d.0 ≡ Join number ∷ past_at pasts g = ap (λ (z : History). z.past) d.1.2 in
        record {
          allowed = known_refusal w g one (opened pasts k) ∙ ap by_limit d.1.0;
          member_is = ap (λ (n : ℕ). record { group = g; number = n }) d.1.1 ∙ sym (known_member w g one);
          keeps =
              let new : slice_set pasts (g - 1) d.0 ≡ (joined_in w g).groups = ap (slice_set pasts (g - 1)) (past ∙ ap (λ (n : ℕ). Join n ∷ past_at pasts g) d.1.1) in
              subst (Keeps y) (new ∙ sym (ap (λ (v : World ⊤). v.groups) (known_joined w g one))) d.2;
        },
  )

  -- nothing was entered
  stays : (pasts : List (List Entry)) (new : List Entry) → new ≡ past_at pasts g → Keeps y (slice_set pasts (g - 1) new) → Keeps y pasts
  stays pasts new same k = subst (Keeps y) (ap (slice_set pasts (g - 1)) same ∙ set_same pasts (g - 1)) k

  pub known_many : Answers x g (λ j k. JoinsWhole j (Err refusal.TooMany) k) y → Binds x g (Err (Refused at_limit)) y
  known_many a = (
    a.0,
    λ pasts k.
        let d = a.1 pasts k in
        (known_refusal (moment x.boot pasts) g one (opened pasts k) ∙ ap by_limit d.1.0, stays pasts d.0 (ap (λ (z : History). z.past) d.1.1) d.2),
  )

  pub known_numbers : Answers x g (λ j k. JoinsWhole j (Err refusal.Numbers) k) y → Binds x g (Err (Refused at_limit)) y
  known_numbers a = (
    a.0,
    λ pasts k.
        let d = a.1 pasts k in
        (known_refusal (moment x.boot pasts) g one (opened pasts k) ∙ ap by_limit d.1.0, stays pasts d.0 (ap (λ (z : History). z.past) d.1.1) d.2),
  )

  pub known_memory : Answers x g (λ j k. JoinsWhole j (Err refusal.Memory) k) y → Binds x g (Err Memory) y
  known_memory a = (a.0, λ pasts k. let d = a.1 pasts k in stays pasts d.0 (ap (λ (z : History). z.past) d.1) d.2)

-- what was opened for nothing known, and the same of a join
pub new_binds : (x y : GroupsView) (asked : ℕ) (r : Result ℕ OpenRefusal) → asked ≡ 0 → Opens x r y → Binds x asked (by_opening r) y
new_binds x y asked r none o = subst (λ (n : ℕ). Binds x n (by_opening r) y) (sym none) (new_by x y r o)

pub known_binds : (x y : GroupsView) (g : ℕ) (r : Result ℕ JoinRefusal) → Has x g → GoesOn x g → Answers x g (λ j k. JoinsWhole j r k) y → Binds x g (by_joining g r) y
known_binds x y g (Ok number) has goes a = known_ok x y g has.0 (opened_on x g has goes) number a
known_binds x y g (Err refusal.TooMany) has goes a = known_many x y g has.0 (opened_on x g has goes) a
known_binds x y g (Err refusal.Numbers) has goes a = known_numbers x y g has.0 (opened_on x g has goes) a
known_binds x y g (Err refusal.Memory) has goes a = known_memory x y g has.0 (opened_on x g has goes) a

-- ---- there is none

not_open : (w : World ⊤) (g : ℕ) → (g == 0) ≡ false → is_open_group w g ≡ false → bind_refusal w g ≡ Some no_group
not_open w g z is =
    ap (λ (b : Bool). if b then refusal_new w else refusal_known w g) z ∙ ap (λ (b : Bool). if b then by_limit (join_limit (journal w g)) else Some no_group) is

pub none_binds : (x : GroupsView) (g : ℕ) → (g == 0) ≡ false → ((pasts : List (List Entry)) → Keeps x pasts → is_open_group (moment x.boot pasts) g ≡ false) → Binds x g (Err (Refused no_group)) x
none_binds x g z closed = (refl, λ pasts k. (not_open (moment x.boot pasts) g z (closed pasts k), k))
