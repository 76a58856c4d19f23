-- As many names as there are types lead as far as any number of names: a way that ends names no type twice.
use Rattle.std.proofs.Common.{◌≡◌, ℕ, zero, suc, ◌+◌, ◌-◌, ◌<◌, ◌≤◌, Bool, true, false, List, [], ◌∷◌, length, Option, Some, None, refl, ap, subst, sym, ◌∙◌, arith}
use Rattle.std.specs.Prelude.{slice_get, ◌||◌}
use Rattle.std.specs.List.{list_any, IsDistinct, AllByRecursion}
use Rattle.std.proofs.Math.Dec.{eqb}
use Rattle.std.proofs.lemmas.Bool.{eqb-true}
use Rattle.std.proofs.lemmas.Option.{slice_get_within}
use Rattle.std.proofs.lemmas.Map.Steps.{length-le_from_distinct_below}
use Rattle.ndr_value.specs.declared.shape.Count.{Count}
use Rattle.ndr_value.specs.Forms.{Form, OfNamed}
use Rattle.ndr_value.specs.Judged.{is_done, behind_refs, named, or_else, plain}

number : Form → ℕ
number (OfNamed c switch) = c
number _ = 0

named_is : (types : List Form) (p t : Form) → named types p ≡ Some t → slice_get types (number p) ≡ Some t
unfolding number
named_is types (OfNamed c switch) t e = e
named_is types _ t e = absurd cc

unnamed : (types : List Form) (p : Form) → is_done p ≡ true → named types p ≡ None
unnamed types (OfNamed c switch) e = absurd cc
unnamed types _ e = refl

abbrev link : ℕ → Option Form → (Form → List ℕ) → List ℕ
link c None go = []
link c (Some t) go = c ∷ go t

or_none : (a b : Bool) → (a || b) ≡ false → (a ≡ false) × (b ≡ false)
or_none true b e = absurd cc
or_none false b e = (refl, e)

any_none : (c : ℕ) (xs : List ℕ) → list_any (eqb c) xs ≡ false → AllByRecursion (λ y. eqb c y ≡ false) xs
any_none c [] e = tt
any_none c (x ∷ xs) e = let p = or_none (eqb c x) (list_any (eqb c) xs) e in (p.0, any_none c xs p.1)

or_same : (a b : Bool) → (a || b) ≡ true → a ≡ false → b ≡ true
or_same true b e f = absurd cc
or_same false b e f = e

module _ (types : List Form) where
  -- the types that are named on the way, at most n
  abbrev chain : ℕ → Form → List ℕ
  chain zero s = []
  chain (suc n) s = link (number (behind_refs s)) (named types (behind_refs s)) (chain n)

  Ends : ℕ → Form → Type 0
  Ends n s = is_done (plain types n s) ≡ true

  more_at : (o : Option Form) (p : Form) (f g : Form → Form) → ((t : Form) → is_done (f t) ≡ true → g t ≡ f t) → is_done (or_else o p f) ≡ true → or_else o p g ≡ or_else o p f
  more_at None p f g same e = refl
  more_at (Some t) p f g same e = same t e

  -- where the way has ended, one name more changes nothing
  pub one_more_name : (n : ℕ) (s : Form) → is_done (plain types n s) ≡ true → plain types (suc n) s ≡ plain types n s
  one_more_name zero s e = ap (λ o. or_else o (behind_refs s) (λ t. plain types zero t)) (unnamed types (behind_refs s) e)
  one_more_name (suc n) s e = more_at (named types (behind_refs s)) (behind_refs s) (λ t. plain types n t) (λ t. plain types (suc n) t) (one_more_name n) e

  more_names : (k n : ℕ) (s : Form) → is_done (plain types n s) ≡ true → plain types (k + n) s ≡ plain types n s
  more_names zero n s e = let z : 0 + n ≡ n = omega arith in ap (λ m. plain types m s) z
  more_names (suc k) n s e =
      let z : suc k + n ≡ suc (k + n) = omega arith in
      let h = more_names k n s e in
      ap (λ m. plain types m s) z ∙ one_more_name (k + n) s (ap is_done h ∙ e) ∙ h

  same_links : (c : ℕ) (o : Option Form) (p : Form) (f : Form → Form) (g h : Form → List ℕ) → ((t : Form) → is_done (f t) ≡ true → g t ≡ h t) → is_done (or_else o p f) ≡ true → link c o g ≡ link c o h
  same_links c None p f g h same e = refl
  same_links c (Some t) p f g h same e = ap (λ ks. c ∷ ks) (same t e)

  chain_more : (n : ℕ) (s : Form) → is_done (plain types n s) ≡ true → chain (suc n) s ≡ chain n s
  chain_more zero s e = ap (λ o. link (number (behind_refs s)) o (chain zero)) (unnamed types (behind_refs s) e)
  chain_more (suc n) s e = same_links (number (behind_refs s)) (named types (behind_refs s)) (behind_refs s) (λ t. plain types n t) (chain (suc n)) (chain n) (chain_more n) e

  -- as many names as are on the way lead as far
  linked : (c : ℕ) (o : Option Form) (p : Form) (n : ℕ) → ((t : Form) → plain types (length (chain n t)) t ≡ plain types n t) → (s : Form) → p ≡ behind_refs s → o ≡ named types p
      → plain types (length (link c o (chain n))) s ≡ or_else o p (λ t. plain types n t)
  linked c None p n so s p_is o_is = sym p_is
  linked c (Some t) p n so s p_is o_is =
      let e : named types (behind_refs s) ≡ Some t = ap (named types) (sym p_is) ∙ sym o_is in
      ap (λ o. or_else o (behind_refs s) (λ u. plain types (length (chain n t)) u)) e ∙ so t

  as_linked : (n : ℕ) (s : Form) → plain types (length (chain n s)) s ≡ plain types n s
  as_linked zero s = refl
  as_linked (suc n) s = linked (number (behind_refs s)) (named types (behind_refs s)) (behind_refs s) n (as_linked n) s refl refl

  within_cases : (c : ℕ) (t : Form) (go : Form → List ℕ) (q : ℕ) (b : Bool) → eqb q c ≡ b → c < length types → (list_any (eqb q) (go t) ≡ true → q < length types)
      → (eqb q c || list_any (eqb q) (go t)) ≡ true → q < length types
  within_cases c t go q true f here there e = subst (λ k. k < length types) (sym (eqb-true q c f)) here
  within_cases c t go q false f here there e = there (or_same (eqb q c) (list_any (eqb q) (go t)) e f)

  -- each names a type
  within_link : (c : ℕ) (o : Option Form) (go : Form → List ℕ) → ((t : Form) → o ≡ Some t → c < length types) → ((t : Form) (q : ℕ) → list_any (eqb q) (go t) ≡ true → q < length types)
      → (q : ℕ) → list_any (eqb q) (link c o go) ≡ true → q < length types
  within_link c None go here there q e = absurd cc
  within_link c (Some t) go here there q e = within_cases c t go q (eqb q c) refl (here t refl) (there t q) e

  chain_within : (n : ℕ) (s : Form) (q : ℕ) → list_any (eqb q) (chain n s) ≡ true → q < length types
  chain_within zero s q e = absurd cc
  chain_within (suc n) s q e =
      within_link (number (behind_refs s)) (named types (behind_refs s)) (chain n)
      (λ t is. slice_get_within types (number (behind_refs s)) t (named_is types (behind_refs s) t is)) (chain_within n) q e

  -- the way from t has ended after n names, with fewer than most on it
  Shorter : ℕ → Form → ℕ → Type 0
  Shorter n t most = (is_done (plain types n t) ≡ true) × (length (chain n t) < most)

  longer : (n : ℕ) (t : Form) (most : ℕ) → Shorter n t most → Shorter (suc n) t (suc most)
  unfolding Shorter
  longer n t most h =
      let same : length (chain (suc n) t) ≡ length (chain n t) = ap length (chain_more n t h.0) in
      (ap is_done (one_more_name n t h.0) ∙ h.0, omega (arith, h.1))

  first : (n : ℕ) (u : Form) → is_done (plain types n u) ≡ true → Shorter (suc n) u (suc (length (chain n u)))
  unfolding Shorter
  first n u e =
      let same : length (chain (suc n) u) ≡ length (chain n u) = ap length (chain_more n u e) in
      (ap is_done (one_more_name n u e) ∙ e, omega arith)

  shorter_cases : (n k c : ℕ) (u t : Form) (b : Bool) → eqb c k ≡ b → slice_get types k ≡ Some u → slice_get types c ≡ Some t → is_done (plain types n u) ≡ true
      → (list_any (eqb c) (chain n u) ≡ true → Shorter n t (length (chain n u))) → (eqb c k || list_any (eqb c) (chain n u)) ≡ true → Shorter (suc n) t (suc (length (chain n u)))
  shorter_cases n k c u t true f is_u is_t e there any =
      let same : c ≡ k = eqb-true c k f in
      let both : u ≡ t = cc in
      subst (λ x. Shorter (suc n) x (suc (length (chain n u)))) both (first n u e)
  shorter_cases n k c u t false f is_u is_t e there any = longer n t (length (chain n u)) (there (or_same (eqb c k) (list_any (eqb c) (chain n u)) any f))

  shorter_link : (n k c : ℕ) (o : Option Form) (p t : Form) → ((u : Form) → o ≡ Some u → slice_get types k ≡ Some u) → slice_get types c ≡ Some t
      → ((u : Form) → is_done (plain types n u) ≡ true → list_any (eqb c) (chain n u) ≡ true → Shorter n t (length (chain n u)))
      → is_done (or_else o p (λ u. plain types n u)) ≡ true → list_any (eqb c) (link k o (chain n)) ≡ true → Shorter (suc n) t (length (link k o (chain n)))
  shorter_link n k c None p t is_u is_t there e any = absurd cc
  shorter_link n k c (Some u) p t is_u is_t there e any = shorter_cases n k c u t (eqb c k) refl (is_u u refl) is_t e (there u e) any

  -- what is named on a way that ends has fewer names before it
  shorter : (n c : ℕ) (t : Form) → slice_get types c ≡ Some t → (s : Form) → is_done (plain types n s) ≡ true → list_any (eqb c) (chain n s) ≡ true → Shorter n t (length (chain n s))
  shorter zero c t is_t s e any = absurd cc
  shorter (suc n) c t is_t s e any =
      shorter_link n (number (behind_refs s)) c (named types (behind_refs s)) (behind_refs s) t (named_is types (behind_refs s)) is_t (shorter n c t is_t) e any

  absent_cases : (n k : ℕ) (u : Form) (b : Bool) → list_any (eqb k) (chain n u) ≡ b → (list_any (eqb k) (chain n u) ≡ true → Shorter n u (length (chain n u))) → list_any (eqb k) (chain n u) ≡ false
  unfolding Shorter
  absent_cases n k u true f so = let h : length (chain n u) < length (chain n u) = (so f).1 in absurd (omega (arith, h))
  absent_cases n k u false f so = f

  distinct_link : (n k : ℕ) (o : Option Form) (p : Form) → ((u : Form) → o ≡ Some u → slice_get types k ≡ Some u)
      → ((u : Form) → is_done (plain types n u) ≡ true → IsDistinct eqb (chain n u)) → is_done (or_else o p (λ u. plain types n u)) ≡ true → IsDistinct eqb (link k o (chain n))
  unfolding IsDistinct
  distinct_link n k None p is_u so e = tt
  distinct_link n k (Some u) p is_u so e =
      (any_none k (chain n u) (absent_cases n k u (list_any (eqb k) (chain n u)) refl (shorter n k u (is_u u refl) u e)), so u e)

  -- no type is named twice on a way that ends
  distinct : (n : ℕ) (s : Form) → is_done (plain types n s) ≡ true → IsDistinct eqb (chain n s)
  unfolding IsDistinct
  distinct zero s e = tt
  distinct (suc n) s e = distinct_link n (number (behind_refs s)) (named types (behind_refs s)) (behind_refs s) (named_is types (behind_refs s)) (distinct n) e

  -- a way that ends, ends after as many names as there are types
  enough : (m : ℕ) (s : Form) → is_done (plain types m s) ≡ true → is_done (plain types (length types) s) ≡ true
  enough m s e =
      let few : length (chain m s) ≤ length types = length-le_from_distinct_below (chain m s) (length types) (distinct m s e) (chain_within m s) in
      let there : is_done (plain types (length (chain m s)) s) ≡ true = ap is_done (as_linked m s) ∙ e in
      let sum : (length types - length (chain m s)) + length (chain m s) ≡ length types = omega arith in
      ap (λ k. is_done (plain types k s)) (sym sum) ∙ ap is_done (more_names (length types - length (chain m s)) (length (chain m s)) s there) ∙ there

  -- a name leads where its type leads
  pub past_name : (c : ℕ) (switch : Option Count) (s : Form) → slice_get types c ≡ Some s → is_done (plain types (length types) s) ≡ true
      → plain types (length types) (OfNamed c switch) ≡ plain types (length types) s
  past_name c switch s is_s e =
      let step : plain types (suc (length types)) (OfNamed c switch) ≡ plain types (length types) s = ap (λ o. or_else o (OfNamed c switch) (λ t. plain types (length types) t)) is_s in
      let ends = enough (suc (length types)) (OfNamed c switch) (ap is_done step ∙ e) in
      sym (one_more_name (length types) (OfNamed c switch) ends) ∙ step
