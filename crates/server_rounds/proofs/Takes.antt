-- The pass of a round takes in others.
use Rattle.std.proofs.Common.{◌≡◌, ◌∙◌, ℕ, ◌<◌, List, [], ◌∷◌, ◌++◌, refl, sym, ap, subst, append-nil}
use Rattle.std.specs.List.{AllByRecursion, flat_map}
use Rattle.std.proofs.lemmas.List.{flat_map_more}
use Rattle.turn_lock.specs.Histories.{StartsWith}
use Rattle.turn_lock.proofs.HistoryLemmas.{starts_self, starts_trans}
use Rattle.hub_story.specs.Passes.{Seen, halved}
use Rattle.group_hub.specs.ShardPasses.{Merges}
use Rattle.group_hub.specs.declared.pass.Pass.{Pass}
use Rattle.group_hub.specs.Passes.{at_shard}
use Rattle.server_rounds.specs.Passes.{StartsFrom, TakesIn}
use Rattle.server_rounds.proofs.Lists.{all_snoc, all_more}

pub takes_none : (p : Pass) → TakesIn p [] p
takes_none p = record {
  fronts = λ s low. starts_self (at_shard p s).log;
  theirs = λ s low. tt;
  own = λ s low. sym (append-nil (at_shard p s).own);
}

pub takes_same : (p q r : Pass) (others : List Pass) → TakesIn p others q → ((s : ℕ) → at_shard r s ≡ at_shard q s) → TakesIn p others r
takes_same p q r others t same = record {
  fronts = λ s low. subst (λ (v : Seen). StartsWith v.log (at_shard p s).log) (sym (same s)) (t.fronts s low);
  theirs = λ s low. subst (λ (v : Seen). AllByRecursion (λ o. StartsWith v.log (at_shard o s).log) others) (sym (same s)) (t.theirs s low);
  own = λ s low. ap (λ (v : Seen). v.own) (same s) ∙ t.own s low;
}

pub takes_more : (boot : ℕ) (p q o r : Pass) (others : List Pass) → TakesIn p others q → ((s : ℕ) → s < 16 → Merges boot s (at_shard q s) (at_shard o s) (at_shard r s)) → TakesIn p (others ++ o ∷ []) r
takes_more boot p q o r others t merges = record {
  fronts = λ s low. let m = merges s low in starts_trans (at_shard r s).log (at_shard q s).log (at_shard p s).log (m.between, m.log) (t.fronts s low);
  theirs = λ s low. let m = merges s low in
      all_snoc (λ x. StartsWith (at_shard r s).log (at_shard x s).log) others o
      (all_more (λ x. StartsWith (at_shard q s).log (at_shard x s).log) (λ x. StartsWith (at_shard r s).log (at_shard x s).log) others
      (λ x h. starts_trans (at_shard r s).log (at_shard q s).log (at_shard x s).log (m.between, m.log) h) (t.theirs s low)) m.other;
  own = λ s low. let m = merges s low in
      m.own ∙ ap (λ l. l ++ (at_shard o s).own) (t.own s low) ∙ flat_map_more (λ x. (at_shard x s).own) (at_shard p s).own others o;
}

pub starts_from : (p q r : Pass) (others : List Pass) → TakesIn p others q → ((s : ℕ) → s < 16 → at_shard r s ≡ halved (at_shard q s)) → StartsFrom p r
starts_from p q r others t half = record {
  fronts = λ s low. subst (λ (v : Seen). StartsWith v.log (at_shard p s).log) (sym (half s low)) (t.fronts s low);
  none = λ s low. ap (λ (v : Seen). v.own) (half s low);
}
