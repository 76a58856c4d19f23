-- The places of channels, by their names.
use Rattle.std.proofs.Common.{◌≡◌, ℕ, zero, suc, ◌==◌, ◌&&◌, Bool, true, false, inl, inr, Option, Some, None, List, [], ◌∷◌, ◌++◌, length, refl, sym, ap, ◌∙◌, cond, subst, arith}
use Rattle.std.specs.Prelude.{◌⊎◌, slice_get, slice_set}
use Rattle.std.specs.Ordering.{nat_cmp}
use Rattle.std.specs.BTreeMap.{BTreeMap, get, is_at, Updates}
use Rattle.std.proofs.lemmas.Grind.{common_steps}
use Rattle.std.proofs.lemmas.Bool.{eqb-true}
use Rattle.client_core.specs.States.{is_bound}
use Rattle.client_core.specs.State.{state}
use Rattle.client_script.specs.declared.channel.Channel.{Channel}
use Rattle.client_script.specs.declared.player.Player.{Player}
use Rattle.client_script.specs.Shows.{IsBoundAs, IsNowhere, IsThere, IsIndex}
use Rattle.client_script.proofs.Finding.{is_bound_as, not_bound_as}

same_some : {A : Type 0} (x y : A) → Some x ≡ Some y → x ≡ y
same_some x y e = cc

module _ {A : Type 0} where
  set_or : (xs : List A) (n k : ℕ) (x y : A) → slice_get (slice_set xs n x) k ≡ Some y → ((k ≡ n) × (y ≡ x)) ⊎ (slice_get xs k ≡ Some y)
  set_or [] n k x y g = absurd cc
  set_or (w ∷ xs) zero zero x y g = inl (refl, sym (same_some x y g))
  set_or (w ∷ xs) zero (suc k) x y g = inr g
  set_or (w ∷ xs) (suc n) zero x y g = inr g
  set_or (w ∷ xs) (suc n) (suc k) x y g =
      elim (set_or xs n k x y g) [
        | inl h ↦ inl (ap suc h.0, h.1)
        | inr h ↦ inr h
      ]

  push_or : (xs : List A) (k : ℕ) (x y : A) → slice_get (xs ++ x ∷ []) k ≡ Some y → ((k ≡ length xs) × (y ≡ x)) ⊎ (slice_get xs k ≡ Some y)
  push_or [] zero x y g = inl (refl, sym (same_some x y g))
  push_or [] (suc k) x y g = absurd cc
  push_or (w ∷ xs) zero x y g = inr g
  push_or (w ∷ xs) (suc k) x y g =
      elim (push_or xs k x y g) [
        | inl h ↦ inl (ap suc h.0, h.1)
        | inr h ↦ inr h
      ]

is_at_is : (id q : ℕ) → is_at (nat_cmp id) q ≡ (id == q)
is_at_is id q = grind (arith, common_steps)

other_by : (b : Bool) (o p : Option ℕ) (n q : ℕ) → (n == q) ≡ b → (n ≡ q → ⊥) → cond b o p ≡ p
other_by true o p n q e not = absurd (not (eqb-true n q e))
other_by false o p n q e not = refl

module _ {K : Type 0} where
  -- ---- what is found

  at_name : (places : BTreeMap ℕ ℕ) (cs : List (Channel K)) (name k : ℕ) (c : Channel K) → IsIndex places cs → slice_get cs k ≡ Some c → IsBoundAs name c → get nat_cmp places name ≡ Some k
  at_name places cs name k c is there b =
      let as_named : IsBoundAs c.name c = record { named = refl; is_open = b.is_open; bound = b.bound } in
      subst (λ (n : ℕ). get nat_cmp places n ≡ Some k) b.named (is k c there as_named)

  pub no_place : (places : BTreeMap ℕ ℕ) (cs : List (Channel K)) (name : ℕ) → IsIndex places cs → get nat_cmp places name ≡ None → IsNowhere name cs
  no_place places cs name is none k c there b = let e : Some k ≡ None = sym (at_name places cs name k c is there b) ∙ none in absurd cc

  module _ (places : BTreeMap ℕ ℕ) (cs : List (Channel K)) (name at : ℕ) (is : IsIndex places cs) (found : get nat_cmp places name ≡ Some at) where
    there_at : (k : ℕ) (c : Channel K) → slice_get cs k ≡ Some c → IsBoundAs name c → slice_get cs at ≡ Some c
    there_at k c there b =
        let same : k ≡ at = same_some k at (sym (at_name places cs name k c is there b) ∙ found) in subst (λ (n : ℕ). slice_get cs n ≡ Some c) same there

    pub none_at : slice_get cs at ≡ None → IsNowhere name cs
    none_at none k c there b = let e : Some c ≡ None = sym (there_at k c there b) ∙ none in absurd cc

    pub not_bound : (d : Channel K) → slice_get cs at ≡ Some d → false ≡ (((d.name == name) && d.is_open) && is_bound (state d.wire.client)) → IsNowhere name cs
    not_bound d here isnt k c there b =
        let same : d ≡ c = same_some d c (sym here ∙ there_at k c there b) in
        not_bound_as d name isnt (subst (λ (x : Channel K). IsBoundAs name x) (sym same) b)

  pub bound_at : (cs : List (Channel K)) (name at : ℕ) (d : Channel K) → slice_get cs at ≡ Some d → true ≡ (((d.name == name) && d.is_open) && is_bound (state d.wire.client)) → IsThere name cs at
  bound_at cs name at d here is = (d, here, is_bound_as d name is)

  -- ---- what changes

  pub index_of_none : (places : BTreeMap ℕ ℕ) (cs : List (Channel K)) → cs ≡ [] → IsIndex places cs
  index_of_none places [] e = λ k c there b. absurd cc
  index_of_none places (x ∷ cs) e = absurd cc

  -- a channel that is bound becomes another of its name
  pub index_set : (places : BTreeMap ℕ ℕ) (cs ds : List (Channel K)) (name at : ℕ) (c d : Channel K) → slice_get cs at ≡ Some c → ds ≡ slice_set cs at d → d.name ≡ c.name → IsBoundAs name c → IsIndex places cs → IsIndex places ds
  index_set places cs ds name at c d there e named b is k x here bound =
      elim (set_or cs at k d x (subst (λ (l : List (Channel K)). slice_get l k ≡ Some x) e here)) [
        | inl h ↦ (let as_named : x.name ≡ name = ap (λ (y : Channel K). y.name) h.1 ∙ (named ∙ b.named) in
            ap (get nat_cmp places) as_named ∙ (at_name places cs name at c is there b ∙ ap Some (sym h.0)))
        | inr h ↦ is k x h bound
      ]

  -- the place of a name of which none is bound becomes another
  pub index_kept : (old new : BTreeMap ℕ ℕ) (cs : List (Channel K)) (name at : ℕ) → IsNowhere name cs → Updates nat_cmp old new name (Some at) → IsIndex old cs → IsIndex new cs
  index_kept old new cs name at nowhere up is k x here bound =
      up.0 x.name ∙ (ap (λ (b : Bool). cond b (Some at) (get nat_cmp old x.name)) (is_at_is name x.name)
      ∙ (other_by (name == x.name) (Some at) (get nat_cmp old x.name) name x.name refl (λ f. nowhere k x here (record { named = sym f; is_open = bound.is_open; bound = bound.bound })) ∙ is k x here bound))

  -- one of a name of which none is bound stands after the others
  pub index_push : (old new : BTreeMap ℕ ℕ) (cs ds : List (Channel K)) (name : ℕ) (d : Channel K) → ds ≡ cs ++ d ∷ [] → d.name ≡ name → IsNowhere name cs → Updates nat_cmp old new name (Some (length cs)) → IsIndex old cs → IsIndex new ds
  index_push old new cs ds name d e named nowhere up is k x here bound =
      elim (push_or cs k d x (subst (λ (l : List (Channel K)). slice_get l k ≡ Some x) e here)) [
        | inl h ↦ ap (get nat_cmp new) (ap (λ (y : Channel K). y.name) h.1 ∙ named) ∙ (up.1 ∙ ap Some (sym h.0))
        | inr h ↦ index_kept old new cs name (length cs) nowhere up is k x h bound
      ]

  pub same_index : (a b : Player K) → b.channels ≡ a.channels → b.places ≡ a.places → IsIndex a.places a.channels.items → IsIndex b.places b.channels.items
  same_index a b e f is = subst (λ cs. IsIndex b.places cs.items) (sym e) (subst (λ ps. IsIndex ps a.channels.items) (sym f) is)
