-- The views of a table, and what a slot has.
use Rattle.std.proofs.Common.{◌≡◌, ◌≢◌, ℕ, true, List, [], ◌∷◌, get_or, set, Option, Some, None, IsSomeAnd, refl, sym, ap, ◌∙◌, subst, ⊎_elim}
use mathlib.Core.Option.{some}
use lib.ListN.{get_elem?}
use Rattle.atomic_table.specs.Table.{State, Me, rest}
use Rattle.atomic_table.proofs.Lists.{at_set}
use Rattle.turn_lock.specs.declared.views.View.{View}
use Rattle.turn_lock.specs.Histories.{times}
use Rattle.turn_lock.specs.Rule.{Lawful}

-- what holds of each view after one of them changed
pub each : {A : Type 0} (Q : ℕ → A → Type 0) (vs : List A) (me : ℕ) (w : A) → Q me w → ((j : ℕ) (d : A) → j ≢ me → get_elem? vs j ≡ some d → Q j d)
    → (j : ℕ) (d : A) → get_elem? (set vs me w) j ≡ some d → Q j d
each {A} Q vs me w mine others j d e = ⊎_elim (λ (t : (j ≡ me) × (w ≡ d)). subst (λ (x : ℕ × A). Q x.0 x.1) (λ i. (sym t.0 i, t.1 i)) mine)
    (λ (t : (j ≢ me) × (get_elem? vs j ≡ some d)). others j d t.0 t.1) (at_set vs me j w d e)

-- the slot that was taken last, as an exchange asks for it
pub last_taken : {A : Type 0} (c : List (ℕ × A)) (k : ℕ) (x : A) (more : List (ℕ × A)) → c ≡ (k, x) ∷ more → (y : A) × (c ≡ (k, y) ∷ rest c)
last_taken c k x more is = (x, is ∙ ap (λ l. (k, x) ∷ l) (sym (ap rest is)))

pub some_and : {T : Type 0} (P : T → Type 0) (o : Option T) → IsSomeAnd o P → (x : T) × (o ≡ Some x) × P x
some_and P (Some x) h = (x, refl, h)
some_and P None h = absurd h

pub and_some : {T : Type 0} (P : T → Type 0) (o : Option T) (x : T) → o ≡ Some x → P x → IsSomeAnd o P
and_some P o x is h = subst (λ p. IsSomeAnd p P) (sym is) h

-- the slot after an exchange
pub slot_now : {T : Type 0} (c d : List (ℕ × Option T)) (o : Option T) (x : T) → d ≡ (0, None) ∷ [] → c ≡ (0, o) ∷ rest d → o ≡ Some x → c ≡ (0, Some x) ∷ []
slot_now c d o x was now is = now ∙ (λ i. (0, is i) ∷ rest (was i))

module _ {T E : Type 0} (tells : T → List E → Type 0) (ties : List E → E → ℕ → Type 0) (first : List E) where
  abbrev D : Type 0
  D = View E

  abbrev St : Type 0
  St = State (Option T) D

  abbrev M : Type 0
  M = Me (Option T) D

  abbrev Rule : St → Type 0
  Rule = Lawful tells ties first

  abbrev turn : St → ℕ
  turn s = get_or s.words 0 0

  abbrev owns : ℕ → D → ℕ
  owns p v = times p v.own

  -- a view that holds the turn is the only one
  pub has_turn : (s : St) (r : Rule s) (id : ℕ) (v : D) → get_elem? s.views id ≡ some v → v.holds ≡ true → (turn s ≢ 0) × ((id ≡ r.holder) × (v.front ≡ r.history))
  has_turn s r id v at holds = let busy : turn s ≢ 0 = λ z. let no = (r.free z).1 id v at in cc in (busy, (r.held busy).2 id v at holds)
