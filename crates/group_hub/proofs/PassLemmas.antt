-- A call at one shard changes the pass there alone.
use Rattle.std.proofs.Common.{◌≡◌, ◌≢◌, ℕ, ◌<◌, length, slice_index_or, slice_set, sym, ap, ◌∙◌, subst, arith}
use mathlib.Core.Logic.{dite}
use native.Mathlib.Decide.{ℕ_discrete}
use Rattle.hub_story.specs.Passes.{Seen}
use Rattle.group_hub.specs.declared.lock.ShardLock.{ShardLock}
use Rattle.group_hub.specs.ShardPasses.{unseen, IsOf}
use Rattle.group_hub.specs.declared.hub.Hub.{Hub}
use Rattle.group_hub.specs.declared.pass.Pass.{Pass}
use Rattle.group_hub.specs.Passes.{at_shard, IsPassOf, At}
use Rattle.group_hub.proofs.ListLemmas.{index_same, index_set_same, index_set_other, length_set, one_item}

-- the shard s of the hub
pub record IsShard (h : Hub) (s : ℕ) (l : ShardLock) : Type 0 where
  pub low : s < 16
  pub is : l ≡ slice_index_or h.shards.items s l
  pub boot_is : l.boot ≡ h.boot
  pub number_is : l.number ≡ s

pub seen_at : (h : Hub) (p : Pass) (s : ℕ) (v : Seen) → IsPassOf h p → s < 16 → v ≡ slice_index_or p.shards s v → at_shard p s ≡ v
seen_at h p s v o low at = let n = o.count in index_same p.shards s unseen v (omega arith) at

-- it is a pass of the shard's lock
pub lock_pass : (h : Hub) (p : Pass) (s : ℕ) (l : ShardLock) (v : Seen) → IsPassOf h p → IsShard h s l → v ≡ slice_index_or p.shards s v → IsOf l.lock.table.shared.table_id l.boot l.number v
lock_pass h p s l v o there at =
    subst (λ (b : ℕ). IsOf l.lock.table.shared.table_id b l.number v) (sym there.boot_is) (subst (λ (n : ℕ). IsOf l.lock.table.shared.table_id h.boot n v) (sym there.number_is)
    (subst (IsOf l.lock.table.shared.table_id h.boot s) (seen_at h p s v o there.low at) (o.each s l there.low there.is)))

-- the other passes stay
pub stays_at : (p q : Pass) (s : ℕ) (w : Seen) → q.shards ≡ slice_set p.shards s w → (t : ℕ) → t ≢ s → at_shard q t ≡ at_shard p t
stays_at p q s w set_ t apart = ap (λ l. slice_index_or l t unseen) set_ ∙ index_set_other p.shards s t unseen w apart

pub now_at : (p q : Pass) (s : ℕ) (w : Seen) → length p.shards ≡ 16 → s < 16 → q.shards ≡ slice_set p.shards s w → at_shard q s ≡ w
now_at p q s w n low set_ = ap (λ l. slice_index_or l s unseen) set_ ∙ index_set_same p.shards s unseen w (omega arith)

-- the pass is of the hub as before
pub put_pass : (h : Hub) (p q : Pass) (s : ℕ) (l : ShardLock) (w : Seen) → IsPassOf h p → IsShard h s l → q.shards ≡ slice_set p.shards s w → length h.shards.items ≡ 16 → IsOf l.lock.table.shared.table_id l.boot l.number w → IsPassOf h q
put_pass h p q s l w o there set_ sixteen home =
    let mine : IsOf l.lock.table.shared.table_id h.boot s w = subst (λ (n : ℕ). IsOf l.lock.table.shared.table_id h.boot n w) there.number_is (subst (λ (b : ℕ). IsOf l.lock.table.shared.table_id b l.number w) there.boot_is home) in
    record {
      count = ap length set_ ∙ (length_set p.shards s w ∙ o.count);
      each = λ t k low at. dite (ℕ_discrete t s)
          (λ (e : t ≡ s).
          let same : l ≡ k = one_item h.shards.items s l k (let m = sixteen in let n = there.low in omega arith) there.is (subst (λ (j : ℕ). k ≡ slice_index_or h.shards.items j k) e at) in
          subst (λ (j : ℕ). IsOf k.lock.table.shared.table_id h.boot j (at_shard q j)) (sym e)
          (subst (IsOf k.lock.table.shared.table_id h.boot s) (sym (now_at p q s w o.count there.low set_)) (subst (λ (x : ShardLock). IsOf x.lock.table.shared.table_id h.boot s w) same mine)))
          (λ apart. subst (IsOf k.lock.table.shared.table_id h.boot t) (sym (stays_at p q s w set_ t apart)) (o.each t k low at));
    }

-- and what the call did there is what it did at the shard of its number
pub put_at : (h : Hub) (p q : Pass) (s : ℕ) (l : ShardLock) (v w : Seen) (Does : ℕ → ℕ → Seen → Seen → Type 0) → IsPassOf h p → IsShard h s l → v ≡ slice_index_or p.shards s v → q.shards ≡ slice_set p.shards s w → Does l.boot l.number v w
    → At s p q (Does h.boot s)
put_at h p q s l v w Does o there at set_ did = record {
  here = subst (λ (u : Seen). Does h.boot s u (at_shard q s)) (sym (seen_at h p s v o there.low at)) (subst (Does h.boot s v) (sym (now_at p q s w o.count there.low set_))
      (subst (λ (n : ℕ). Does h.boot n v w) there.number_is (subst (λ (b : ℕ). Does b l.number v w) there.boot_is did)));
  others = stays_at p q s w set_;
}

-- of the shard's lock, by the hub's words and by the lock's own
pub by_lock : (h : Hub) (s : ℕ) (l : ShardLock) (v : Seen) → IsShard h s l → IsOf l.lock.table.shared.table_id h.boot s v → IsOf l.lock.table.shared.table_id l.boot l.number v
by_lock h s l v there home =
    subst (λ (b : ℕ). IsOf l.lock.table.shared.table_id b l.number v) (sym there.boot_is) (subst (λ (n : ℕ). IsOf l.lock.table.shared.table_id h.boot n v) (sym there.number_is) home)

pub by_hub : (h : Hub) (s : ℕ) (l : ShardLock) (v : Seen) → IsShard h s l → length h.shards.items ≡ 16 → IsOf l.lock.table.shared.table_id l.boot l.number v
    → (k : ShardLock) → k ≡ slice_index_or h.shards.items s k → IsOf k.lock.table.shared.table_id h.boot s v
by_hub h s l v there sixteen home k at =
    let mine : IsOf l.lock.table.shared.table_id h.boot s v = subst (λ (n : ℕ). IsOf l.lock.table.shared.table_id h.boot n v) there.number_is (subst (λ (b : ℕ). IsOf l.lock.table.shared.table_id b l.number v) there.boot_is home) in
    let same : l ≡ k = one_item h.shards.items s l k (let m = sixteen in let n = there.low in omega arith) there.is at in
    subst (λ (x : ShardLock). IsOf x.lock.table.shared.table_id h.boot s v) same mine
