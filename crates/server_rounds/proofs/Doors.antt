-- What a door has handed out, one link on.
use Rattle.std.proofs.Common.{◌≡◌, ◌∙◌, ℕ, ◌+◌, ◌<◌, ◌≤◌, Option, Some, None, List, [], ◌∷◌, ◌++◌, refl, sym, ap, subst, arith, length, option_map, append_assoc, length-append}
use Rattle.rpc_base.specs.Causes.{Rose}
use Rattle.rpc_outside.specs.Links.{IsNothing}
use Rattle.rpc_outside.specs.Doors.{DoorShown, DoorCounts, DoorSame, HandsOut}
use Rattle.server_rounds.specs.declared.round.Stop.{Stop}
use Rattle.server_rounds.specs.declared.round.Stop.TheVariants.{Done, DoorClosed, DoorFault, Memory}
use Rattle.server_rounds.specs.Rounds.{HandsOutAll, Stops}
use Rattle.server_rounds.specs.Serving.{Goes}

none_out : (o : Option ℕ) → o ≡ option_map (λ n. n + 0) o
none_out None = refl
none_out (Some n) = ap Some (omega arith)

module _ {K : Type 0} where
  counts_trans : (a b c : DoorShown K) → DoorCounts a b → DoorCounts b c → DoorCounts a c
  counts_trans a b c x y = record { faults = omega (arith, x.faults, y.faults); closings = omega (arith, x.closings, y.closings) }

  none_first : (o : Option (List K)) → o ≡ option_map (λ more. [] ++ more) o
  none_first None = refl
  none_first (Some xs) = refl

  pub hands_none : (a : DoorShown K) → HandsOutAll a a []
  hands_none a = record {
    counts = record { faults = omega arith; closings = omega arith };
    listens = refl;
    to_come = none_first a.to_come;
    back = refl;
    out = none_out a.out;
  }

  pub hands_same : (a b c : DoorShown K) (links : List K) → HandsOutAll a b links → DoorSame b c → HandsOutAll a c links
  hands_same a b c links h s = record {
    counts = counts_trans a b c h.counts s.counts;
    listens = s.listens ∙ h.listens;
    to_come = h.to_come ∙ ap (option_map (λ more. links ++ more)) (sym s.to_come);
    back = s.back ∙ h.back;
    out = s.out ∙ h.out;
  }

  first_more : (o : Option (List K)) (links : List K) (link : K) → option_map (λ more. links ++ more) (option_map (λ more. link ∷ more) o) ≡ option_map (λ more. (links ++ link ∷ []) ++ more) o
  first_more None links link = refl
  first_more (Some xs) links link = ap Some (sym (append_assoc links (link ∷ []) xs))

  out_more : (o : Option ℕ) (links : List K) (link : K) → option_map (λ n. n + 1) (option_map (λ n. n + length links) o) ≡ option_map (λ n. n + length (links ++ link ∷ [])) o
  out_more None links link = refl
  out_more (Some n) links link = ap Some (omega (arith, length-append links (link ∷ [])))

  pub hands_more : (a b c : DoorShown K) (links : List K) (link : K) → HandsOutAll a b links → HandsOut b c link → HandsOutAll a c (links ++ link ∷ [])
  hands_more a b c links link h s = record {
    counts = counts_trans a b c h.counts s.counts;
    listens = s.listens ∙ h.listens;
    to_come = h.to_come ∙ ap (option_map (λ more. links ++ more)) s.to_come ∙ first_more c.to_come links link;
    back = s.back ∙ h.back;
    out = s.out ∙ ap (option_map (λ n. n + 1)) h.out ∙ out_more a.out links link;
  }

  pub hands_start : (a : DoorShown K) (links : List K) → links ≡ [] → HandsOutAll a a links
  hands_start a links none = subst (HandsOutAll a a) (sym none) (hands_none a)

  -- a link more
  pub goes_on : (a b c : DoorShown K) (links more : List K) (n : ℕ) → HandsOutAll a b links → length links ≡ n → Goes b links None c more → HandsOutAll a c more × (length more ≡ n + 1)
  goes_on a b c links more n h len (link, out, is) =
      (subst (HandsOutAll a c) (sym is) (hands_more a b c links link h out), ap length is ∙ length-append links (link ∷ []) ∙ ap (λ m. m + 1) len)

  -- no link more
  pub goes_out : (a b c : DoorShown K) (links more : List K) (stop : Stop) (most n : ℕ) → HandsOutAll a b links → length links ≡ n → n < most → Goes b links (Some stop) c more
      → HandsOutAll a c more × Stops a c most (length more) stop
  goes_out a b c links more Done most n h len low g = absurd g
  goes_out a b c links more DoorClosed most n h len low (is, same, rose, none) =
      let k = h.counts.closings in
      let l : length more ≡ n = ap length is ∙ len in
      (subst (HandsOutAll a c) (sym is) (hands_same a b c links h same), (omega (arith, low, l), omega (arith, rose, k), subst IsNothing (sym same.to_come) none))
  goes_out a b c links more DoorFault most n h len low (is, same, rose) =
      let k = h.counts.faults in
      let l : length more ≡ n = ap length is ∙ len in
      (subst (HandsOutAll a c) (sym is) (hands_same a b c links h same), (omega (arith, low, l), omega (arith, rose, k)))
  goes_out a b c links more Memory most n h len low (is, same) =
      let l : length more ≡ n = ap length is ∙ len in
      (subst (HandsOutAll a c) (sym is) (hands_same a b c links h same), omega (arith, low, l))

  pub stays_on : (a b c : DoorShown K) (links same more : List K) (n : ℕ) → HandsOutAll a b links → length links ≡ n → same ≡ links → Goes b same None c more
      → HandsOutAll a c more × (length more ≡ n + 1)
  stays_on a b c links same more n h len is g = goes_on a b c same more n (subst (HandsOutAll a b) (sym is) h) (ap length is ∙ len) g
