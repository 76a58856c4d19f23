-- The links lie at different places, so a pointer names one link.
use Rattle.std.proofs.Common.{◌≡◌, true, false, List, [], ◌∷◌, ◌++◌, map, refl, sym, ap, ◌∙◌, subst, append_assoc, append-nil, map-id}
use Rattle.std.specs.List.{AllByRecursion, IsDistinct}
use Rattle.std.proofs.lemmas.List.{map-append}
use denote.RawPtr.{Ptr}
use Rattle.lru.specs.Linked.{same_ptr, IsApart}
use Rattle.lru.proofs.Splits.{distinct_without, distinct_with, alike_cut}
use Rattle.lru.proofs.Apart.{IsFresh, same_ptr_refl, same_ptr_symm}
use Rattle.wait_list.specs.Linked.{Linked, places, turn, AreApart, first_of}

mapped : (ps : List Ptr) → IsApart ps → IsApart (map (λ p. p) ps)
mapped ps = subst IsApart (sym (map-id ps))

unmapped : (ps : List Ptr) → IsApart (map (λ p. p) ps) → IsApart ps
unmapped ps = subst IsApart (map-id ps)

module _ {T : Type 0} where
  -- what comes after the stop, cut at a link
  pub turn_cut : (xs : List (Linked T)) (n : Linked T) (ys : List (Linked T)) (s : Ptr) → turn s (xs ++ n ∷ ys) ≡ places xs ++ n.at ∷ turn s ys
  turn_cut xs n ys s = ap (λ l. l ++ s ∷ []) (map-append (λ (m : Linked T). m.at) xs (n ∷ ys)) ∙ append_assoc (places xs) (n.at ∷ places ys) (s ∷ [])

  pub turn_joined : (xs ys : List (Linked T)) (s : Ptr) → turn s (xs ++ ys) ≡ places xs ++ turn s ys
  turn_joined xs ys s = ap (λ l. l ++ s ∷ []) (map-append (λ (m : Linked T). m.at) xs ys) ∙ append_assoc (places xs) (places ys) (s ∷ [])

  pub apart_unlinked : (xs : List (Linked T)) (n : Linked T) (ys : List (Linked T)) → AreApart (xs ++ n ∷ ys) → AreApart (xs ++ ys)
  apart_unlinked xs n ys d = distinct_without (λ (m : Linked T). m.at) same_ptr xs n ys d

  pub apart_linked : (ns : List (Linked T)) (n : Linked T) → IsFresh n.at (places ns) → AreApart ns → AreApart (ns ++ n ∷ [])
  apart_linked ns n f d = subst IsApart (sym (map-append (λ (m : Linked T). m.at) ns (n ∷ [])))
      (unmapped (places ns ++ n.at ∷ []) (distinct_with (λ q. q) same_ptr same_ptr_symm (places ns) n.at [] (subst (AllByRecursion (λ q. same_ptr n.at q ≡ false)) (sym (append-nil (places ns))) f) (mapped (places ns ++ []) (subst IsApart (sym (append-nil (places ns))) d))))

  pub same_link : (ns xs : List (Linked T)) (n : Linked T) (ys us : List (Linked T)) (m : Linked T) (vs : List (Linked T)) → AreApart ns → ns ≡ xs ++ n ∷ ys → ns ≡ us ++ m ∷ vs → n.at ≡ m.at
      → (xs ≡ us) × (n ≡ m) × (ys ≡ vs)
  same_link ns xs n ys us m vs d a b at =
      alike_cut (λ (k : Linked T). k.at) same_ptr same_ptr_symm xs n ys us m vs (subst AreApart a d) (sym a ∙ b) (subst (λ r. same_ptr n.at r ≡ true) at (same_ptr_refl n.at))

  -- what comes first on the way from there to the stop
  pub first_turn : (s : Ptr) (ys : List (Linked T)) → (ps : List Ptr) × (turn s ys ≡ first_of s ys ∷ ps)
  first_turn s [] = ([], refl)
  first_turn s (y ∷ ys) = (turn s ys, refl)

  pub apart_one : (n : Linked T) → AreApart (n ∷ [])
  unfolding IsDistinct
  apart_one n = (tt, tt)

  pub apart_after : (s : Linked T) (ns : List (Linked T)) → AreApart (s ∷ ns) → AreApart ns
  unfolding IsDistinct
  apart_after s ns d = d.1
