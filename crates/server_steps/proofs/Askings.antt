-- What a pass that only asks has seen.
use Rattle.std.proofs.Common.{◌≡◌, ◌≢◌, ◌==◌, ℕ, zero, suc, ◌<◌, Bool, true, false, ◌&&◌, ◌||◌, List, [], ◌∷◌, ◌++◌, length, map, slice_index_or, append-nil, refl, sym, ap, ◌∙◌, subst, arith, ◌⊎◌, inl, inr}
use mathlib.Core.Logic.{dite}
use native.Mathlib.Decide.{ℕ_discrete}
use Rattle.turn_lock.specs.Histories.{StartsWith}
use Rattle.handle_model.specs.declared.entry.Entry.{Entry}
use Rattle.handle_model.specs.declared.entry.Entry.TheVariants.{Join, Accept, Take, Deny, Cancel, Orphan, End, Leave, Shut}
use Rattle.handle_model.specs.Bases.{empty_base}
use Rattle.handle_model.specs.Journal.{any_since, takes}
use Rattle.group_core.specs.Stages.{is_asked_since}
use Rattle.hub_story.specs.declared.item.Item.{Item}
use Rattle.hub_story.specs.Histories.{past_in}
use Rattle.hub_story.specs.Calls.{Enters}
use Rattle.hub_story.specs.Passes.{Seen, Knows}
use Rattle.hub_story.proofs.ItemLemmas.{past-append}
use Rattle.atomic_table.specs.Seated.{TableId}
use Rattle.group_hub.specs.declared.lock.ShardLock.{ShardLock}
use Rattle.group_hub.specs.Passes.{IsOf}
use Rattle.group_hub.specs.declared.hub.Hub.{Hub}
use Rattle.group_hub.specs.declared.pass.Pass.{Pass}
use Rattle.group_hub.specs.Shards.{shard_of}
use Rattle.group_hub.specs.Passes.{IsPassOf, at_shard}
use Rattle.server_steps.specs.Passes.{OwnsNone, HasAsked, MayAsk, IsAsking}
use Rattle.server_steps.specs.Places.{locks_of, place_at}

or_true : (b : Bool) → (b || true) ≡ true
or_true true = refl
or_true false = refl

-- a Cancel that was seen stays
asked_more : (k : ℕ) (new past : List Entry) → is_asked_since empty_base past k ≡ true → is_asked_since empty_base (new ++ past) k ≡ true
asked_more k [] past h = h
asked_more k (Cancel m ∷ new) past h = ap (λ b. ((m == k) && any_since false (takes k) (new ++ past)) || b) (asked_more k new past h) ∙ or_true ((m == k) && any_since false (takes k) (new ++ past))
asked_more k (Join d ∷ new) past h = asked_more k new past h
asked_more k (Accept m a ∷ new) past h = asked_more k new past h
asked_more k (Take m cookies ∷ new) past h = asked_more k new past h
asked_more k (Deny m slot ∷ new) past h = asked_more k new past h
asked_more k (Orphan m ∷ new) past h = asked_more k new past h
asked_more k (End m results said ∷ new) past h = asked_more k new past h
asked_more k (Leave d ∷ new) past h = asked_more k new past h
asked_more k (Shut items ∷ new) past h = asked_more k new past h

pub asked_later : (boot g k : ℕ) (p q : Pass) → StartsWith (at_shard q (shard_of g)).log (at_shard p (shard_of g)).log → HasAsked boot g k p → HasAsked boot g k q
asked_later boot g k p q (rest, is) h =
    let same : past_in g (at_shard q (shard_of g)).log ≡ past_in g rest ++ past_in g (at_shard p (shard_of g)).log = ap (past_in g) is ∙ past-append g (at_shard p (shard_of g)).log rest in
    subst (λ (l : List Entry). is_asked_since empty_base l k ≡ true) (sym same) (asked_more k (past_in g rest) (past_in g (at_shard p (shard_of g)).log) h)

-- ---- it asks

module _ (h : Hub) (boot g : ℕ) (p q : Pass) (between : List Item) (enters : Enters boot (shard_of g) (at_shard p (shard_of g)) (at_shard q (shard_of g)) between []) (others : (t : ℕ) → t ≢ shard_of g → at_shard q t ≡ at_shard p t) where
  looks_on : StartsWith (at_shard q (shard_of g)).log (at_shard p (shard_of g)).log
  looks_on = (between, enters.log ∙ append-nil ((at_shard p (shard_of g)).log ++ between))

  here_none : (at_shard p (shard_of g)).own ≡ [] → (at_shard q (shard_of g)).own ≡ []
  here_none none = enters.own ∙ (append-nil (at_shard p (shard_of g)).own ∙ none)

  owns_none : OwnsNone p → OwnsNone q
  owns_none none s low = dite (ℕ_discrete s (shard_of g))
      (λ same. subst (λ (t : ℕ). (at_shard q t).own ≡ []) (sym same) (here_none (subst (λ (t : ℕ). (at_shard p t).own ≡ []) same (none s low))))
      (λ apart. ap (λ (v : Seen). v.own) (others s apart) ∙ none s low)

  pub asking_on : (k : ℕ) (told now : Bool) → IsPassOf h q → ((k : ℕ) → Knows (at_shard p (shard_of g)) g k → Knows (at_shard q (shard_of g)) g k) → (now ≡ true → (told ≡ true) ⊎ HasAsked boot g k q) → h.boot ≡ boot
      → IsAsking h g k p told → IsAsking h g k q now
  asking_on k told now pass known why same x = record {
    may = record { pass = pass; none = owns_none x.may.none; known = known k x.may.known };
    asked = λ t. subst (λ (b : ℕ). HasAsked b g k q) (sym same) (elim (why t) [ inl old ↦ asked_later boot g k p q looks_on (subst (λ (b : ℕ). HasAsked b g k p) same (x.asked old)) | inr new ↦ new ]);
  }

-- ---- a hub of the same boot word and the same locks is the same to passes

module _ {A B : Type 0} (f : A → B) where
  at_map : (xs : List A) (s : ℕ) (d : A) (e : B) → s < length xs → f (slice_index_or xs s d) ≡ slice_index_or (map f xs) s e
  at_map [] s d e low = absurd (omega arith)
  at_map (x ∷ xs) zero d e low = refl
  at_map (x ∷ xs) (suc s) d e low = at_map xs s d e (omega arith)

at_any : {A : Type 0} (xs : List A) (s : ℕ) (d e : A) → s < length xs → slice_index_or xs s d ≡ slice_index_or xs s e
at_any [] s d e low = absurd (omega arith)
at_any (x ∷ xs) zero d e low = refl
at_any (x ∷ xs) (suc s) d e low = at_any xs s d e (omega arith)

abbrev lock_id : ShardLock → TableId
lock_id l = l.lock.table.shared.table_id

same_pass : (h i : Hub) (p : Pass) → h.boot ≡ i.boot → locks_of h ≡ locks_of i → IsPassOf h p → IsPassOf i p
same_pass h i p boot locks x = record {
  count = x.count;
  each = λ s l low is.
      let many : length h.shards.items ≡ 16 = h.whole.count in
      let many' : length i.shards.items ≡ 16 = i.whole.count in
      let l0 : ShardLock = slice_index_or h.shards.items s l in
      let same : lock_id l0 ≡ lock_id l =
      at_map lock_id h.shards.items s l (lock_id l) (omega (arith, low, many))
      ∙ (ap (λ (z : List TableId). slice_index_or z s (lock_id l)) locks
      ∙ (sym (at_map lock_id i.shards.items s l (lock_id l) (omega (arith, low, many'))) ∙ ap lock_id (sym is))) in
      subst (λ (z : TableId × ℕ). IsOf z.0 z.1 s (at_shard p s)) (λ j. (same j, boot j)) (x.each s l0 low (at_any h.shards.items s l l0 (omega (arith, low, many))));
}

pub may_ask : (h i : Hub) (g k : ℕ) (m n : ℕ) (p : Pass) → place_at h g k ≡ place_at i m n → MayAsk h g k p → MayAsk i m n p
may_ask h i g k m n p is x =
    subst (λ (z : ℕ × ℕ). MayAsk i z.0 z.1 p) (λ j. ((is j).group, (is j).call))
    (record { pass = same_pass h i p (ap (λ z. z.boot) is) (ap (λ z. z.locks) is) x.pass; none = x.none; known = x.known })

pub has_asked : (h i : Hub) (g k : ℕ) (m n : ℕ) (p : Pass) → place_at h g k ≡ place_at i m n → HasAsked h.boot g k p → HasAsked i.boot m n p
has_asked h i g k m n p is x = subst (λ (z : ℕ × ℕ × ℕ). HasAsked z.0 z.1 z.2 p) (λ j. ((is j).boot, (is j).group, (is j).call)) x
