-- Links are given back one by one.
use Rattle.std.proofs.Common.{◌≡◌, ◌∙◌, ℕ, suc, ◌+◌, ◌-◌, ◌<◌, ◌≤◌, Option, Some, None, List, [], ◌∷◌, ◌++◌, refl, sym, ap, subst, arith, length, map, option_map, append_assoc, append-nil}
use Rattle.std.proofs.lemmas.List.{length-map}
use Rattle.rpc_outside.specs.Links.{Shown}
use Rattle.rpc_outside.specs.Doors.{DoorShown, HasOut, Backs}
use Rattle.server_rounds.specs.declared.settled.Settled.{Settled}
use Rattle.server_rounds.specs.Rounds.{came, HandsOutAll}
use Rattle.server_command.specs.Doors.{links_in, IsAtLeast, AreOut, TakesBack}

pub one_out : (n m : ℕ) (o : Option ℕ) → n ≡ suc m → IsAtLeast n o → HasOut o
one_out n m None e h = tt
one_out n m (Some k) e h = omega (arith, e, h)

pub one_less : (n m : ℕ) (o p : Option ℕ) → n ≡ suc m → IsAtLeast n o → p ≡ option_map (λ k. k - 1) o → IsAtLeast m p
one_less n m None p e h is = subst (IsAtLeast m) (sym is) tt
one_less n m (Some k) p e h is = subst (IsAtLeast m) (sym is) (omega (arith, e, h))

some_out : (n : ℕ) (o p : Option ℕ) → p ≡ option_map (λ k. k + n) o → IsAtLeast n p
some_out n None p is = subst (IsAtLeast n) (sym is) tt
some_out n (Some k) p is = subst (IsAtLeast n) (sym is) (omega arith)

module _ {K : Type 0} where
  none_more : (o : Option (List K)) → o ≡ option_map (λ old. old ++ []) o
  none_more None = refl
  none_more (Some xs) = ap Some (sym (append-nil xs))

  pub takes_none : (a : DoorShown K) → TakesBack a [] a
  takes_none a = record { faults = refl; closings = omega arith; listens = refl; to_come = refl; back = none_more a.back }

  one_more : (o : Option (List K)) (links : List K) (link : K)
      → option_map (λ old. old ++ link ∷ []) (option_map (λ old. old ++ links) o) ≡ option_map (λ old. old ++ (links ++ link ∷ [])) o
  one_more None links link = refl
  one_more (Some xs) links link = ap Some (append_assoc xs links (link ∷ []))

  pub takes_more : (a b c : DoorShown K) (links : List K) (link : K) → TakesBack a links b → Backs b link c → TakesBack a (links ++ link ∷ []) c
  takes_more a b c links link t s =
      let low = t.closings in
      let high = s.closings in record {
        faults = s.faults ∙ t.faults;
        closings = omega (arith, low, high);
        listens = s.listens ∙ t.listens;
        to_come = s.to_come ∙ t.to_come;
        back = s.back ∙ ap (option_map (λ old. old ++ link ∷ [])) t.back ∙ one_more a.back links link;
      }

  pub links_more : (xs : List (Settled K)) (x : Settled K) → links_in (xs ++ x ∷ []) ≡ links_in xs ++ x.link ∷ []
  links_more [] x = refl
  links_more (y ∷ ys) x = ap (λ l. y.link ∷ l) (links_more ys x)

  -- behind a round as many links are out as there are connections
  pub are_out : (a b : DoorShown K) (finished : List (Settled K)) → HandsOutAll a b (came finished) → AreOut finished b
  are_out a b finished h = some_out (length finished) a.out b.out (h.out ∙ ap (λ n. option_map (λ k. k + n) a.out) (length-map finished (λ c. c.came.value)))
