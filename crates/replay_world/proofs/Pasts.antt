-- What stays where journals go on.
use Rattle.std.proofs.Common.{◌≡◌, ℕ, zero, suc, Bool, true, false, not, ◌&&◌, ◌||◌, Some, List, [], ◌∷◌, ◌++◌, get_or, slice_set, refl, sym, ap, subst, ◌∙◌, ◌⊎◌, inl, inr}
use Rattle.std.specs.List.{list_any}
use Rattle.std.proofs.Common.{append_assoc}
use Rattle.handle_model.specs.declared.entry.Home.{Home}
use Rattle.handle_model.specs.declared.entry.Asked.{Asked}
use Rattle.handle_model.specs.declared.entry.Entry.{Entry}
use Rattle.handle_model.specs.Journal.{Legal, has_joined, is_open, asked, joins, leaves}
use Rattle.handle_model.proofs.Tests.{or_right, and_left, and_right}
use Rattle.conn_histories.specs.Tales.{whole}
use Rattle.handle_model.proofs.Accepted.{asked_stays}

-- further entries came, the newest first
pub record Grows (old new : List Entry) : Type 0 where
  pub es : List Entry
  pub is : new ≡ es ++ old

pub stays : (past : List Entry) → Grows past past
stays past = record { es = []; is = refl }

pub grows_twice : (a b c : List Entry) → Grows a b → Grows b c → Grows a c
grows_twice a b c g h = record { es = h.es ++ g.es; is = h.is ∙ ap (λ (l : List Entry). h.es ++ l) g.is ∙ sym (append_assoc h.es g.es a) }

joined_more : (home home' : Home) (c : ℕ) (es old : List Entry) → has_joined (whole home old) c ≡ true → has_joined (whole home' (es ++ old)) c ≡ true
joined_more home home' c [] old h = h
joined_more home home' c (e ∷ es) old h = or_right (joins c e) (has_joined (whole home' (es ++ old)) c) (joined_more home home' c es old h)

pub joined_grows : (home home' : Home) (c : ℕ) (old new : List Entry) → Grows old new → has_joined (whole home old) c ≡ true → has_joined (whole home' new) c ≡ true
joined_grows home home' c old new g h = subst (λ (l : List Entry). has_joined (whole home' l) c ≡ true) (sym g.is) (joined_more home home' c g.es old h)

pub asked_grows : (home home' : Home) (k : ℕ) (a : Asked) (old new : List Entry) → Grows old new → Legal (whole home' new) → asked (whole home old) k ≡ Some a → asked (whole home' new) k ≡ Some a
asked_grows home home' k a old new g l h =
    subst (λ (p : List Entry). asked (whole home' p) k ≡ Some a) (sym g.is)
    (asked_stays (whole home' old) g.es k a (subst (λ (p : List Entry). Legal (whole home' p)) g.is l) h)

both : (a b : Bool) → a ≡ true → b ≡ false → (a && not b) ≡ true
both a b h k = rw (h, k) refl

pub open_by : (home : Home) (c : ℕ) (past : List Entry) → has_joined (whole home past) c ≡ true → list_any (leaves c) past ≡ false → is_open (whole home past) c ≡ true
open_by home c past h n = both (has_joined (whole home past) c) (list_any (leaves c) past) h n

pub open_unleft : (home : Home) (c : ℕ) (past : List Entry) → is_open (whole home past) c ≡ true → list_any (leaves c) past ≡ false
open_unleft home c past o = by (list_any (leaves c) past) (and_right (has_joined (whole home past) c) (not (list_any (leaves c) past)) o)
  where
    by : (b : Bool) → not b ≡ true → b ≡ false
    by true h = absurd cc
    by false h = refl

-- one list of entries is set
pub at_set : (l : List (List Entry)) (i j : ℕ) (x : List Entry) → (get_or (slice_set l i x) j [] ≡ get_or l j []) ⊎ ((i ≡ j) × (get_or (slice_set l i x) j [] ≡ x))
at_set [] i j x = inl refl
at_set (y ∷ l) zero zero x = inr (refl, refl)
at_set (y ∷ l) zero (suc j) x = inl refl
at_set (y ∷ l) (suc i) zero x = inl refl
at_set (y ∷ l) (suc i) (suc j) x = elim (at_set l i j x) [ inl e ↦ inl e | inr e ↦ inr (ap suc e.0, e.1) ]
