-- What a commit asks, from what was added.
use Rattle.std.proofs.Common.{◌≡◌, ℕ, zero, suc, ◌+◌, ◌-◌, ◌<◌, List, [], ◌∷◌, ◌++◌, length, take, refl, sym, ap, ◌∙◌, subst, arith}
use Rattle.std.proofs.Math.Seq.{take-append-add}
use Rattle.std.proofs.lemmas.List.{append-nil}
use mathlib.Core.Option.{some, some-injective}
use lib.ListN.{get_elem?}
use Rattle.turn_lock.specs.declared.views.View.{View}
use Rattle.turn_lock.specs.Histories.{times, places}
use Rattle.turn_lock.specs.Steps.{MayAdd}
use Rattle.turn_lock.proofs.HistoryLemmas.{at_within, times-append}

pub at_behind : {E : Type 0} (xs ys : List E) (k : ℕ) → get_elem? (xs ++ ys) (length xs + k) ≡ get_elem? ys k
at_behind [] ys k = ap (get_elem? ys) (let e : 0 + k ≡ k = omega arith in e)
at_behind (x ∷ xs) ys k = ap (get_elem? (x ∷ (xs ++ ys))) (let e : suc (length xs) + k ≡ suc (length xs + k) = omega arith in e) ∙ at_behind xs ys k

module _ {T E : Type 0} (tells : T → List E → Type 0) (ties : List E → E → ℕ → Type 0) where
  -- each entry that was added is tied to own ones alone
  pub may_add : (v : View E) (x : T) (more : List E) → tells x (v.front ++ more)
      → ((k : ℕ) (e : E) → get_elem? more k ≡ some e → (p : ℕ) → ties (v.front ++ take k more) e p → 0 < times p (v.own ++ places (length v.front) (length more)))
      → MayAdd tells ties v x (length more)
  may_add v x more told each = (
    more,
    refl,
    told,
    λ q p behind t.
        let k : ℕ = q - length v.front in
        let is : length v.front + k ≡ q = omega arith in
        let at : get_elem? more k ≡ some t.1.0 = sym (at_behind v.front more k) ∙ (ap (get_elem? (v.front ++ more)) is ∙ t.1.1) in
        let before : take q (v.front ++ more) ≡ v.front ++ take k more = ap (λ n. take n (v.front ++ more)) (sym is) ∙ take-append-add v.front more k in
        each k t.1.0 at p (subst (λ l. ties l t.1.0 p) before t.1.2),
  )

  -- one entry
  pub may_add_one : (v : View E) (x : T) (e : E) → tells x (v.front ++ e ∷ []) → ((p : ℕ) → ties v.front e p → 0 < times p v.own) → MayAdd tells ties v x 1
  may_add_one v x e told own = may_add v x (e ∷ []) told (one v e own)
    where
      one : (v : View E) (e : E) → ((p : ℕ) → ties v.front e p → 0 < times p v.own)
          → (k : ℕ) (d : E) → get_elem? (e ∷ []) k ≡ some d → (p : ℕ) → ties (v.front ++ take k (e ∷ [])) d p → 0 < times p (v.own ++ places (length v.front) 1)
      one v e own zero d at p t =
          let same : e ≡ d = some-injective e d at in
          let tied : ties v.front e p = subst (λ (a : List E × E). ties a.0 a.1 p) (λ i. (append-nil v.front i, sym same i)) t in
          let mine = own p tied in let both = times-append p v.own (places (length v.front) 1) in omega arith
      one v e own (suc k) d at p t = absurd (let w = at_within (e ∷ []) (suc k) d at in omega arith)

  -- no entry
  pub may_add_none : (v : View E) (x : T) → tells x v.front → MayAdd tells ties v x 0
  may_add_none v x told = may_add v x [] (subst (tells x) (sym (append-nil v.front)) told) (λ k e at. absurd (let w = at_within [] k e at in omega arith))
