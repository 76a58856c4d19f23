-- How far the journals have been added.
use Rattle.std.specs.Prelude.{◌≡◌, ℕ, ◌<◌, ◌≤◌, ◌==◌, Bool, true, false, List, ◌++◌, length, map, slice_index_or}
use Rattle.std.specs.List.{AllByRecursion, list_any}
use Rattle.group_hub.specs.declared.pass.Pass.{Pass}
use Rattle.group_hub.specs.Shards.{shard_of}
use Rattle.journal_text.specs.Histories.{journals_text}
use Rattle.server_command.specs.Logs.{Copy, ids_of, journal_of, AreRising, IsOpened, SeesOn, IsCopy}

-- the shard is known to have no further group
abbrev pub is_over : List Bool → ℕ → Bool
is_over over s = slice_index_or over s true

abbrev pub AllOver : List Bool → Type 0
AllOver over = (s : ℕ) → is_over over s ≡ true

abbrev pub Among : List Copy → ℕ → Type 0
Among copies g = list_any (λ h. h == g) (ids_of copies) ≡ true

-- Those below an id have been added: of a shard that isn't over all of them, and of one that is over all that were opened.
pub record Walked (boot : ℕ) (p q : Pass) (old new : List ℕ) (next : ℕ) (over : List Bool) : Type 0 where
  pub seen : SeesOn p q
  pub copies : List Copy
  pub text : new ≡ old ++ journals_text (map (journal_of boot) copies)
  pub rising : AreRising (ids_of copies)
  pub low : AllByRecursion (λ h. h < next) (ids_of copies)
  pub each : AllByRecursion (IsCopy boot p q) copies
  pub going : (g : ℕ) → 1 ≤ g → g < next → is_over over (shard_of g) ≡ false → Among copies g
  pub ended : (g : ℕ) → 1 ≤ g → is_over over (shard_of g) ≡ true → IsOpened q g → Among copies g
