-- A new lock meets the rule, and splitting and joining passes keeps it.
use Rattle.std.proofs.Common.{◌≡◌, ◌≢◌, ℕ, ◌+◌, ◌⊎◌, Bool, true, false, List, [], ◌∷◌, ◌++◌, length, get_or, set, Option, Some, refl, sym, ap, ◌∙◌, subst, ⊎_elim, arith}
use Rattle.std.proofs.lemmas.List.{set-get_or}
use mathlib.Core.Option.{some, none, some-injective, some-ne-none}
use lib.ListN.{get_elem?}
use Rattle.atomic_table.specs.Table.{State, Me, step, keeps, Allows, Splits, Joins}
use Rattle.atomic_table.proofs.Lists.{set_else, set_again, at_longer, at_snoc}
use Rattle.turn_lock.specs.declared.views.View.{View}
use Rattle.turn_lock.specs.Histories.{times, StartsWith, Closed, Within}
use Rattle.turn_lock.specs.Rule.{view, Lawful}
use Rattle.turn_lock.specs.Steps.{joined, saw_all}
use Rattle.turn_lock.proofs.HistoryLemmas.{times-append, times_either, total_at, total_set, total_snoc, once_most, starts_self, starts_length, longer_starts, shorter_starts, longer_length}
use Rattle.turn_lock.proofs.ViewLemmas.{each}

module _ {T E : Type 0} (tells : T → List E → Type 0) (ties : List E → E → ℕ → Type 0) (first : List E) where
  abbrev D : Type 0
  D = View E

  abbrev St : Type 0
  St = State (Option T) D

  abbrev M : Type 0
  M = Me (Option T) D

  abbrev Rule : St → Type 0
  Rule = Lawful tells ties first

  abbrev turn : St → ℕ
  turn s = get_or s.words 0 0

  abbrev owns : ℕ → D → ℕ
  owns p v = times p v.own

  -- a new seat has seen as much as this one, which has no turn
  pub splits : (id : ℕ) (v : D) → Splits Rule id v v (view false v.front [])
  splits id v s r at =
      let u : D = view false v.front [] in
      let more : (j : ℕ) (d : D) → get_elem? (s.views ++ u ∷ []) j ≡ some d → (get_elem? s.views j ≡ some d) ⊎ (u ≡ d) = λ j d e. at_snoc s.views u d j e in
      subst (λ (vs : List D). Rule record { words = s.words; homes = s.homes; views = vs ++ u ∷ [] }) (sym (set_again s.views id v at)) record {
        history = r.history;
        holder = r.holder;
        wide = r.wide;
        counted = r.counted;
        told = r.told;
        free = λ off. let f = r.free off in (f.0, λ j d e. ⊎_elim (λ old. f.1 j d old) (λ (same : u ≡ d). ap (λ (z : D). z.holds) (sym same)) (more j d e));
        held = λ busy. let h = r.held busy in (
          h.0,
          (h.1.0, at_longer s.views (u ∷ []) r.holder h.1.0 h.1.1, h.1.2),
          λ j d e yes. ⊎_elim (λ old. h.2 j d old yes) (λ (same : u ≡ d). let never : false ≡ true = ap (λ (z : D). z.holds) same ∙ yes in absurd cc) (more j d e),
        );
        fronts = λ j d e. ⊎_elim (λ old. r.fronts j d old)
            (λ (same : u ≡ d). subst (λ (z : D). StartsWith r.history z.front × Within z.own (length z.front)) same ((r.fronts id v at).0, λ p own. absurd (omega arith))) (more j d e);
        also = λ j d e. ⊎_elim (λ old. r.also j d old) (λ (same : u ≡ d). subst (λ (z : D). StartsWith r.history z.also_seen) same (r.history, refl)) (more j d e);
        once = λ p. let t = total_snoc (owns p) s.views u in let b = r.once p in omega arith;
        tied = λ j d e. ⊎_elim (λ old. r.tied j d old) (λ (same : u ≡ d). subst (λ (z : D). Closed ties r.history z.own) same (λ q p t own. absurd (omega arith))) (more j d e);
      }

  -- a seat takes in the view of another, where neither has the turn
  pub joins : (id : ℕ) (v : D) (other : ℕ) (u : D) → v.holds ≡ false → u.holds ≡ false
      → Joins Rule id v other u (joined v u) (view false [] [])
  joins id v other u idle_v idle_u s r at apart there =
      let both : D = joined v u in
      let spent : D = view false [] [] in
      let vs : List D = set s.views id both in
      let old_u : get_elem? s.views other ≡ some u = sym (set_else s.views id other both apart) ∙ there in
      let all : (Q : ℕ → D → Type 0) → Q id both → Q other spent → ((j : ℕ) (d : D) → j ≢ id → j ≢ other → get_elem? s.views j ≡ some d → Q j d) → (j : ℕ) (d : D) → get_elem? (set vs other spent) j ≡ some d → Q j d =
      λ Q a b c. each Q vs other spent b (λ j d ne e. each (λ i x. i ≢ other → Q i x) s.views id both (λ _. a) (λ i x not_id g not_other. c i x not_id not_other g) j d e ne) in
      let not_both : (b : Bool) → b ≡ false → b ≡ true → ⊥ = λ b f t. let never : false ≡ true = sym f ∙ t in absurd cc in
      record {
        history = r.history;
        holder = r.holder;
        wide = r.wide;
        counted = r.counted;
        told = r.told;
        free = λ off. let f = r.free off in (f.0, all (λ j d. d.holds ≡ false) refl refl (λ j d _ _ e. f.1 j d e));
        held = λ busy. let h = r.held busy in
            let not_id : r.holder ≢ id = λ is. not_both v.holds idle_v (ap (λ (z : D). z.holds) (some-injective _ _ (sym at ∙ (λ k. get_elem? s.views (sym is k)) ∙ h.1.1)) ∙ h.1.2) in
            let not_other : r.holder ≢ other = λ is. not_both u.holds idle_u (ap (λ (z : D). z.holds) (some-injective _ _ (sym old_u ∙ (λ k. get_elem? s.views (sym is k)) ∙ h.1.1)) ∙ h.1.2) in (
              h.0,
              (h.1.0, set_else vs other r.holder spent not_other ∙ (set_else s.views id r.holder both not_id ∙ h.1.1), h.1.2),
              all (λ j d. d.holds ≡ true → (j ≡ r.holder) × (d.front ≡ r.history)) (λ yes. absurd (not_both false refl yes)) (λ yes. absurd (not_both false refl yes)) (λ j d _ _ e. h.2 j d e),
            );
        fronts = all (λ j d. StartsWith r.history d.front × Within d.own (length d.front)) (
          longer_starts r.history v.front u.front (r.fronts id v at).0 (r.fronts other u old_u).0,
          λ p own. let most = longer_length v.front u.front in ⊎_elim (λ a. let b = (r.fronts id v at).1 p a in omega arith) (λ a. let b = (r.fronts other u old_u).1 p a in omega arith) (times_either p v.own u.own own),
        )
            ((r.history, refl), λ p own. absurd (omega arith))
            (λ j d _ _ e. r.fronts j d e);
        also = all (λ j d. StartsWith r.history d.also_seen) (shorter_starts r.history v.front u.front (r.fronts id v at).0 (r.fronts other u old_u).0) (r.history, refl) (λ j d _ _ e. r.also j d e);
        once = λ p. let a = total_set (owns p) s.views id v both at in let b = total_set (owns p) vs other u spent there in let c = times-append p v.own u.own in let d = r.once p in omega arith;
        tied = all (λ j d. Closed ties r.history d.own)
            (λ q p t own. let c = times-append q v.own u.own in ⊎_elim (λ a. let b = r.tied id v at q p t a in omega arith) (λ a. let b = r.tied other u old_u q p t a in omega arith) (times_either p v.own u.own own))
            (λ q p t own. absurd (omega arith))
            (λ j d _ _ e. r.tied j d e);
      }

  shown : (s : St) (r : Rule s) (id : ℕ) (v : D) → get_elem? s.views id ≡ some v → v.holds ≡ false → Rule record { words = s.words; homes = s.homes; views = set s.views id (view false r.history v.own) }
  shown s r id v at idle =
      let w : D = view false r.history v.own in
      let mine = r.fronts id v at in
      let inside = starts_length r.history v.front mine.0 in
      let not_both : (b : Bool) → b ≡ false → b ≡ true → ⊥ = λ b f t. let never : false ≡ true = sym f ∙ t in absurd cc in
      record {
        history = r.history;
        holder = r.holder;
        wide = r.wide;
        counted = r.counted;
        told = r.told;
        free = λ off. let f = r.free off in (f.0, each (λ j d. d.holds ≡ false) s.views id w refl (λ j d _ e. f.1 j d e));
        held = λ busy. let h = r.held busy in
            let not_id : r.holder ≢ id = λ is. not_both v.holds idle (ap (λ (z : D). z.holds) (some-injective _ _ (sym at ∙ (λ k. get_elem? s.views (sym is k)) ∙ h.1.1)) ∙ h.1.2) in (
              h.0,
              (h.1.0, set_else s.views id r.holder w not_id ∙ h.1.1, h.1.2),
              each (λ j d. d.holds ≡ true → (j ≡ r.holder) × (d.front ≡ r.history)) s.views id w (λ yes. absurd (not_both false refl yes)) (λ j d _ e. h.2 j d e),
            );
        fronts = each (λ j d. StartsWith r.history d.front × Within d.own (length d.front)) s.views id w (starts_self r.history, λ p own. let b = mine.1 p own in omega arith) (λ j d _ e. r.fronts j d e);
        also = each (λ j d. StartsWith r.history d.also_seen) s.views id w (r.history, refl) (λ j d _ e. r.also j d e);
        once = λ p. let t = total_set (owns p) s.views id v w at in let b = r.once p in omega arith;
        tied = each (λ j d. Closed ties r.history d.own) s.views id w (r.tied id v at) (λ j d _ e. r.tied j d e);
      }

  pub looks : (slots id : ℕ) (me : M) → me.0.holds ≡ false → Allows Rule slots id me 0 (λ n. n) (saw_all tells ties (step slots 0 0 0 none) me)
  looks slots id me idle s r _ at _ =
      let mine = r.fronts id me.0 at in
      let inside = starts_length r.history me.0.front mine.0 in (
        view false r.history me.0.own,
        keeps,
        tt,
        subst (λ (x : List ℕ). Rule record { words = x; homes = s.homes; views = set s.views id (view false r.history me.0.own) }) (sym (set-get_or s.words 0 0)) (shown s r id me.0 at idle),
        (
          r.history,
          refl,
          mine.0,
          r.also id me.0 at,
          λ p own. let b = mine.1 p own in omega arith,
          r.tied id me.0 at,
          λ p. let a = total_at (owns p) s.views id me.0 at in let b = r.once p in let c = once_most p (length r.history) in omega arith,
          r.told,
        ),
      )

  -- the table at the start
  abbrev pub no_words : List ℕ
  no_words = 0 ∷ 0 ∷ 0 ∷ 0 ∷ 0 ∷ 0 ∷ 0 ∷ 0 ∷ 0 ∷ 0 ∷ 0 ∷ 0 ∷ 0 ∷ 0 ∷ 0 ∷ 0 ∷ []

  pub opens : (x : T) → tells x first → Rule record { words = no_words; homes = some (Some x) ∷ []; views = view false first [] ∷ [] }
  opens x is_told =
      let one : (Q : D → Type 0) → Q (view false first []) → (j : ℕ) (d : D) → get_elem? (view false first [] ∷ []) j ≡ some d → Q d = λ Q q j d e. ⊎_elim (λ (n : _). absurd (some-ne-none d (sym n))) (λ is. subst Q is q) (at_snoc [] (view false first []) d j e) in
      record {
        history = first;
        holder = 0;
        wide = refl;
        counted = (0, let e : length first ≡ length first + 0 = omega arith in e, refl);
        told = (x, is_told);
        free = λ _. ((x, refl, is_told), one (λ d. d.holds ≡ false) refl);
        held = λ busy. absurd (busy refl);
        fronts = one (λ d. StartsWith first d.front × Within d.own (length d.front)) (starts_self first, λ p own. absurd (omega arith));
        also = one (λ d. StartsWith first d.also_seen) (first, refl);
        once = λ p. omega arith;
        tied = one (λ d. Closed ties first d.own) (λ q p t own. absurd (omega arith));
      }
