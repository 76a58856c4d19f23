-- A new shard.
use Rattle.std.proofs.Common.{◌≡◌, ℕ, zero, suc, ◌<◌, ◌≤◌, List, [], ◌∷◌, length, refl, sym, ◌∙◌, ap, arith}
use mathlib.Core.Option.{some, some-injective, some-ne-none}
use lib.ListN.{get_elem?}
use Rattle.handle_model.proofs.Steps.{empty_sound}
use Rattle.hub_story.specs.declared.item.Mark.TheVariants.{Retired}
use Rattle.hub_story.specs.declared.item.Item.TheVariants.{Begun, Listed}
use Rattle.hub_story.specs.Histories.{home_of, IsStory}
use Rattle.hub_story.specs.Directories.{opened_ids, open_ids}
use Rattle.hub_shard.specs.Shards.{ShardView, Told}

-- the history that says whose it is, and nothing else
pub story_begun : (boot s : ℕ) → IsStory boot s (Begun boot s ∷ [])
story_begun boot s = record {
  begins = ([], refl);
  sound = λ g. empty_sound (home_of boot g);
  ids = refl;
  few = omega arith;
  unopened = λ g no. refl;
  joined = λ g yes. absurd cc;
  ended = λ q g at. absurd (none boot s q g at);
}
  where
    none : (boot s q g : ℕ) → get_elem? (Begun boot s ∷ []) q ≡ some (Listed (Retired g)) → ⊥
    none boot s zero g at = let same : Begun boot s ≡ Listed (Retired g) = some-injective (Begun boot s) (Listed (Retired g)) at in absurd cc
    none boot s (suc q) g at = absurd (some-ne-none (Listed (Retired g)) (sym at))

pub told_first : (x : ShardView) → x.number < 16 → x.marks ≡ [] → x.groups ≡ [] → x.open_groups ≡ 0 → Told x (Begun x.boot x.number ∷ [])
told_first x small marks groups open_is = record {
  story = story_begun x.boot x.number;
  small = small;
  marks_are = marks;
  count = ap length groups ∙ ap (λ m. length (opened_ids m)) (sym marks);
  open_is = open_is ∙ ap (λ m. length (open_ids m)) (sym marks);
  groups_are = λ i low. absurd (let n = ap length groups in omega arith);
  flags_are = λ i low. absurd (let n = ap length groups in omega arith);
}
