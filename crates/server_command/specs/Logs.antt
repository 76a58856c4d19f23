-- The text of the journals of a hub's groups.
use Rattle.std.specs.Prelude.{◌≡◌, ℕ, ◌<◌, ◌≤◌, ◌^◌, ◌==◌, true, List, [], ◌∷◌, ◌++◌, map, ⊤}
use Rattle.std.specs.List.{AllByRecursion, list_any}
use Rattle.turn_lock.specs.Histories.{StartsWith}
use Rattle.handle_model.specs.Journal.{is_join}
use Rattle.handle_model.specs.History.{History, IsSound}
use Rattle.hub_story.specs.declared.item.Item.{Item}
use Rattle.hub_story.specs.Directories.{is_opened_id}
use Rattle.hub_story.specs.Histories.{marks_in, journal_in, IsStory}
use Rattle.hub_story.specs.Folded.{kept}
use Rattle.group_hub.specs.declared.pass.Pass.{Pass}
use Rattle.group_hub.specs.Shards.{shard_of}
use Rattle.group_hub.specs.Passes.{at_shard}
use Rattle.journal_text.specs.Histories.{journals_text}

-- what a pass has seen of the shard of an id, and whether the id was opened there
abbrev pub front_at : Pass → ℕ → List Item
front_at p g = (at_shard p (shard_of g)).log

abbrev pub IsOpened : Pass → ℕ → Type 0
IsOpened p g = is_opened_id (marks_in (front_at p g)) g ≡ true

-- the pass q has seen what p had seen
abbrev pub SeesOn : Pass → Pass → Type 0
SeesOn p q = (s : ℕ) → s < 16 → StartsWith (at_shard q s).log (at_shard p s).log

-- a group whose journal was copied, and the history of its shard as it then was
pub record Copy : Type 0 where
  pub id : ℕ
  pub front : List Item

abbrev pub ids_of : List Copy → List ℕ
ids_of = map (λ c. c.id)

-- the journal, as the group kept it
abbrev pub journal_of : ℕ → Copy → History
journal_of boot c = kept (journal_in boot c.id c.front)

-- each is above those before it
abbrev pub AreRising : List ℕ → Type 0
AreRising [] = ⊤
AreRising (g ∷ gs) = AllByRecursion (λ h. g < h) gs × AreRising gs

-- The copy was made behind what the pass had seen as p, and has been seen as it is q: of a group that was opened, whose journal is legal
-- and settled, and isn't empty: it has the Join of a connection.
pub record IsCopy (boot : ℕ) (p q : Pass) (c : Copy) : Type 0 where
  pub starts : StartsWith c.front (front_at p c.id)
  pub goes_on : StartsWith (front_at q c.id) c.front
  pub story : IsStory boot (shard_of c.id) c.front
  pub opened : is_opened_id (marks_in c.front) c.id ≡ true
  pub sound : IsSound (journal_of boot c)
  pub joined : list_any is_join (journal_of boot c).past ≡ true

-- The text of the journals of all groups that the pass has as opened, by rising id, was added.
pub record Logs (boot : ℕ) (p q : Pass) (old new : List ℕ) : Type 0 where
  pub sees : SeesOn p q
  pub copies : List Copy
  pub text : new ≡ old ++ journals_text (map (journal_of boot) copies)
  pub rising : AreRising (ids_of copies)
  pub each : AllByRecursion (IsCopy boot p q) copies
  pub all : (g : ℕ) → 1 ≤ g → g < 2 ^ 32 → IsOpened q g → list_any (λ h. h == g) (ids_of copies) ≡ true
