-- A hub is made, and passes are split and joined, one shard after the other.
use Rattle.std.proofs.Common.{◌≡◌, ◌≢◌, ℕ, ◌+◌, ◌<◌, List, [], ◌∷◌, ◌++◌, length, slice_index_or, slice_set, refl, sym, ap, ◌∙◌, subst, arith, length-append}
use mathlib.Core.Logic.{dite}
use native.Mathlib.Decide.{ℕ_discrete}
use Rattle.hub_story.specs.declared.item.Item.TheVariants.{Begun}
use Rattle.hub_story.specs.Passes.{Seen, halved}
use Rattle.group_hub.specs.declared.lock.ShardLock.{ShardLock}
use Rattle.group_hub.specs.ShardPasses.{IsOf, Merges}
use Rattle.group_hub.specs.declared.hub.Hub.{Hub}
use Rattle.group_hub.specs.declared.pass.Pass.{Pass}
use Rattle.group_hub.specs.Shards.{AreShards}
use Rattle.group_hub.specs.Passes.{at_shard, IsPassOf, At}
use Rattle.group_hub.specs.Making.{MadeBelow, SplitBelow, JoinedBelow}
use Rattle.group_hub.proofs.ListLemmas.{length_set, index_front, index_last}
use Rattle.group_hub.proofs.PassLemmas.{now_at, stays_at}

-- MAKING

pub made_none : (boot : ℕ) (locks : List ShardLock) (p : Pass) → locks ≡ [] → length p.shards ≡ 16 → MadeBelow boot 0 locks p
made_none boot locks p none n = record {
  count = ap length none;
  shards = n;
  whose = λ s l low is. absurd (omega arith);
  of_it = λ s l low is. absurd (omega arith);
  empty = λ s low. absurd (omega arith);
}

last_is : (locks : List ShardLock) (n : ℕ) (l k : ShardLock) → length locks ≡ n → k ≡ slice_index_or (locks ++ l ∷ []) n k → l ≡ k
last_is locks n l k count is = sym (is ∙ (ap (λ (j : ℕ). slice_index_or (locks ++ l ∷ []) j k) (sym count) ∙ index_last locks l k))

pub made_more : (boot n : ℕ) (locks now : List ShardLock) (p q : Pass) (l : ShardLock) (v : Seen) → MadeBelow boot n locks p → n < 16 → now ≡ locks ++ l ∷ [] → l.boot ≡ boot → l.number ≡ n
    → IsOf l.lock.table.shared.table_id l.boot l.number v → v.log ≡ Begun boot n ∷ [] → v.own ≡ [] → q.shards ≡ slice_set p.shards n v → MadeBelow boot (n + 1) now q
made_more boot n locks now p q l v made low grown boot_is number_is home log own set_ =
    let count = made.count in
    let shards = made.shards in
    let there : at_shard q n ≡ v = now_at p q n v made.shards low set_ in
    let mine : IsOf l.lock.table.shared.table_id boot n v = subst (λ (k : ℕ). IsOf l.lock.table.shared.table_id boot k v) number_is (subst (λ (b : ℕ). IsOf l.lock.table.shared.table_id b l.number v) boot_is home) in
    let before : (s : ℕ) (k : ShardLock) → s < n → k ≡ slice_index_or now s k → k ≡ slice_index_or locks s k =
    λ s k less is. is ∙ (ap (λ xs. slice_index_or xs s k) grown ∙ index_front locks l s k (omega arith)) in
    let same : (k : ShardLock) → k ≡ slice_index_or now n k → l ≡ k = λ k is. last_is locks n l k made.count (is ∙ ap (λ xs. slice_index_or xs n k) grown) in
    record {
      count = ap length grown ∙ (length-append locks (l ∷ []) ∙ ap (λ (m : ℕ). m + 1) made.count);
      shards = ap length set_ ∙ (length_set p.shards n v ∙ made.shards);
      whose = λ s k less is. dite (ℕ_discrete s n)
          (λ (e : s ≡ n). let k_is = same k (subst (λ (j : ℕ). k ≡ slice_index_or now j k) e is) in
          (ap (λ (x : ShardLock). x.boot) (sym k_is) ∙ boot_is, ap (λ (x : ShardLock). x.number) (sym k_is) ∙ (number_is ∙ sym e)))
          (λ apart. made.whose s k (omega (arith, apart)) (before s k (omega (arith, apart)) is));
      of_it = λ s k less is. dite (ℕ_discrete s n)
          (λ (e : s ≡ n). let k_is = same k (subst (λ (j : ℕ). k ≡ slice_index_or now j k) e is) in
          subst (λ (j : ℕ). IsOf k.lock.table.shared.table_id boot j (at_shard q j)) (sym e)
          (subst (IsOf k.lock.table.shared.table_id boot n) (sym there) (subst (λ (x : ShardLock). IsOf x.lock.table.shared.table_id boot n v) k_is mine)))
          (λ apart. subst (IsOf k.lock.table.shared.table_id boot s) (sym (stays_at p q n v set_ s apart)) (made.of_it s k (omega (arith, apart)) (before s k (omega (arith, apart)) is)));
      empty = λ s less. dite (ℕ_discrete s n)
          (λ (e : s ≡ n). (
            ap (λ (j : ℕ). (at_shard q j).log) e ∙ (ap (λ (u : Seen). u.log) there ∙ (log ∙ ap (λ (j : ℕ). Begun boot j ∷ []) (sym e))),
            ap (λ (j : ℕ). (at_shard q j).own) e ∙ (ap (λ (u : Seen). u.own) there ∙ own),
          ))
          (λ apart. let old = made.empty s (omega (arith, apart)) in let stays = stays_at p q n v set_ s apart in (ap (λ (u : Seen). u.log) stays ∙ old.0, ap (λ (u : Seen). u.own) stays ∙ old.1));
    }

pub made_shards : (boot n : ℕ) (locks : List ShardLock) (p : Pass) → MadeBelow boot n locks p → n ≡ 16 → AreShards boot locks
made_shards boot n locks p made whole = record { count = made.count ∙ whole; whose = λ s l low is. made.whose s l (omega (arith, whole)) is }

-- SPLITTING

pub split_none : (h : Hub) (p other : Pass) → length other.shards ≡ 16 → SplitBelow h 0 p other
split_none h p other n = record { shards = n; of_it = λ s l low is. absurd (omega arith); half = λ s low. absurd (omega arith) }

pub split_kept : (n : ℕ) (p q r : Pass) (w : Seen) → ((s : ℕ) → at_shard q s ≡ at_shard p s) → At n q r (λ v u. (u ≡ v) × (w ≡ halved v)) → (s : ℕ) → at_shard r s ≡ at_shard p s
split_kept n p q r w kept did s = dite (ℕ_discrete s n)
    (λ (e : s ≡ n). ap (at_shard r) e ∙ (did.here.0 ∙ (kept n ∙ ap (at_shard p) (sym e))))
    (λ apart. did.others s apart ∙ kept s)

pub split_more : (h : Hub) (n : ℕ) (p q r other now : Pass) (w : Seen) → SplitBelow h n p other → ((s : ℕ) → at_shard q s ≡ at_shard p s) → n < 16 → At n q r (λ v u. (u ≡ v) × (w ≡ halved v))
    → ((l : ShardLock) → l ≡ slice_index_or h.shards.items n l → IsOf l.lock.table.shared.table_id h.boot n w) → now.shards ≡ slice_set other.shards n w → SplitBelow h (n + 1) p now
split_more h n p q r other now w so kept low did home set_ =
    let here : at_shard now n ≡ w = now_at other now n w so.shards low set_ in
    record {
      shards = ap length set_ ∙ (length_set other.shards n w ∙ so.shards);
      of_it = λ s k less is. dite (ℕ_discrete s n)
          (λ (e : s ≡ n).
          subst (λ (j : ℕ). IsOf k.lock.table.shared.table_id h.boot j (at_shard now j)) (sym e)
          (subst (IsOf k.lock.table.shared.table_id h.boot n) (sym here) (home k (subst (λ (j : ℕ). k ≡ slice_index_or h.shards.items j k) e is))))
          (λ apart. subst (IsOf k.lock.table.shared.table_id h.boot s) (sym (stays_at other now n w set_ s apart)) (so.of_it s k (omega (arith, apart)) is));
      half = λ s less. dite (ℕ_discrete s n)
          (λ (e : s ≡ n). ap (at_shard now) e ∙ (here ∙ (did.here.1 ∙ (ap halved (kept n) ∙ ap (λ (j : ℕ). halved (at_shard p j)) (sym e)))))
          (λ apart. stays_at other now n w set_ s apart ∙ so.half s (omega (arith, apart)));
    }

pub split_whole : (h : Hub) (n : ℕ) (p other : Pass) → SplitBelow h n p other → n ≡ 16 → IsPassOf h other
split_whole h n p other so whole = record { count = so.shards; each = λ s l low is. so.of_it s l (omega (arith, whole)) is }

-- JOINING

pub joined_none : (boot : ℕ) (p other : Pass) → length other.shards ≡ 16 → JoinedBelow boot 0 p other p other
joined_none boot p other n = record { shards = n; merges = λ s low. absurd (omega arith); ahead = λ s low. refl; rest = λ s low. refl }

pub joined_more : (boot n : ℕ) (p other q left now gone : Pass) (o : Seen) → JoinedBelow boot n p other q left → n < 16 → o ≡ at_shard left n → At n q now (λ v w. Merges boot n v o w) → length gone.shards ≡ 16
    → ((t : ℕ) → t ≢ n → at_shard gone t ≡ at_shard left t) → JoinedBelow boot (n + 1) p other now gone
joined_more boot n p other q left now gone o so low from did count others =
    let o_is : o ≡ at_shard other n = from ∙ so.rest n (omega arith) in
    let v_is : at_shard q n ≡ at_shard p n = so.ahead n (omega arith) in
    record {
      shards = count;
      merges = λ s less. dite (ℕ_discrete s n)
          (λ (e : s ≡ n). subst (λ (j : ℕ). Merges boot j (at_shard p j) (at_shard other j) (at_shard now j)) (sym e)
          (subst (λ (u : Seen). Merges boot n u (at_shard other n) (at_shard now n)) v_is (subst (λ (u : Seen). Merges boot n (at_shard q n) u (at_shard now n)) o_is did.here)))
          (λ apart. subst (Merges boot s (at_shard p s) (at_shard other s)) (sym (did.others s apart)) (so.merges s (omega (arith, apart))));
      ahead = λ s more. did.others s (λ e. absurd (omega (arith, e))) ∙ so.ahead s (omega arith);
      rest = λ s more. others s (λ e. absurd (omega (arith, e))) ∙ so.rest s (omega arith);
    }

-- what the other has there is of the shard's lock
pub rest_home : (h : Hub) (n : ℕ) (p other q left : Pass) (o : Seen) → IsPassOf h other → JoinedBelow h.boot n p other q left → n < 16 → o ≡ at_shard left n → (l : ShardLock) → l ≡ slice_index_or h.shards.items n l
    → IsOf l.lock.table.shared.table_id h.boot n o
rest_home h n p other q left o mine so low from l at = subst (IsOf l.lock.table.shared.table_id h.boot n) (sym (from ∙ so.rest n (omega arith))) (mine.each n l low at)
