-- Links of a dial, one after the other.
use Rattle.std.proofs.Common.{◌≡◌, ℕ, zero, suc, ◌+◌, Option, Some, None, List, [], ◌∷◌, ◌++◌, refl, sym, ap, ◌∙◌, append_assoc, arith}
use Rattle.std.specs.Prelude.{replicate}
use Rattle.std.specs.Option.{option_map}
use Rattle.std.proofs.lemmas.List.{append-nil}
use Rattle.rpc_outside.specs.declared.address.Address.{Address}
use Rattle.rpc_outside.specs.Dials.{DialShown, DialSame, Opens, DialBacks}
use Rattle.client_script.specs.Plays.{Opened, Returns}

at_end : {A : Type 0} (n : ℕ) (x : A) → replicate (n + 1) x ≡ replicate n x ++ x ∷ []
at_end zero x = refl
at_end (suc n) x = let e : suc n + 1 ≡ suc (n + 1) = omega arith in ap (λ m. replicate m x) e ∙ ap (λ xs. x ∷ xs) (at_end n x)

map_twice : {A : Type 0} (o : Option (List A)) (xs ys : List A) → option_map (λ zs. zs ++ ys) (option_map (λ zs. zs ++ xs) o) ≡ option_map (λ zs. zs ++ (xs ++ ys)) o
map_twice None xs ys = refl
map_twice (Some zs) xs ys = ap Some (append_assoc zs xs ys)

map_none : {A : Type 0} (o : Option (List A)) → o ≡ option_map (λ zs. zs ++ []) o
map_none None = refl
map_none (Some zs) = ap Some (sym (append-nil zs))

add_twice : (o : Option ℕ) (m n : ℕ) → option_map (λ x. x + n) (option_map (λ x. x + m) o) ≡ option_map (λ x. x + (m + n)) o
add_twice None m n = refl
add_twice (Some x) m n = ap Some (let e : (x + m) + n ≡ x + (m + n) = omega arith in e)

add_none : (o : Option ℕ) → o ≡ option_map (λ x. x + 0) o
add_none None = refl
add_none (Some x) = ap Some (let e : x ≡ x + 0 = omega arith in e)

module _ {K : Type 0} (at : Address) (a : DialShown K) where
  pub opened_none : Opened at a 0 a
  opened_none = record { faults = omega arith; dialled = map_none a.dialled; back = refl; out = add_none a.out }

  pub opened_more : (n : ℕ) (b c : DialShown K) → Opened at a n b → Opens b c at → Opened at a (n + 1) c
  opened_more n b c h o =
      let low = h.faults in
      let more = o.faults in
      record {
        faults = omega (arith, low, more);
        dialled = o.dialled ∙ (ap (λ x. option_map (λ addresses. addresses ++ at ∷ []) x) h.dialled
            ∙ (map_twice a.dialled (replicate n at) (at ∷ []) ∙ ap (λ xs. option_map (λ addresses. addresses ++ xs) a.dialled) (sym (at_end n at))));
        back = o.back ∙ h.back;
        out = o.out ∙ (ap (λ x. option_map (λ k. k + 1) x) h.out ∙ add_twice a.out n 1);
      }

  pub opened_same : (n : ℕ) (b c : DialShown K) → Opened at a n b → DialSame b c → Opened at a n c
  opened_same n b c h o =
      let low = h.faults in
      let more = o.faults in
      record { faults = omega (arith, low, more); dialled = o.dialled ∙ h.dialled; back = o.back ∙ h.back; out = o.out ∙ h.out }

module _ {K : Type 0} where
  pub returns_none : (a : DialShown K) → Returns a [] a
  returns_none a = record { faults = refl; dialled = refl; back = map_none a.back }

  pub returns_more : (a b c : DialShown K) (links : List K) (link : K) → Returns a links b → DialBacks b link c → Returns a (links ++ link ∷ []) c
  returns_more a b c links link h k = record {
    faults = k.faults ∙ h.faults;
    dialled = k.dialled ∙ h.dialled;
    back = k.back ∙ (ap (λ x. option_map (λ before. before ++ link ∷ []) x) h.back ∙ map_twice a.back links (link ∷ []));
  }
