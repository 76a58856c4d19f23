-- The newest entries are the same as a group keeps its journal and in the whole one.
use Rattle.std.proofs.Common.{◌≡◌, List, [], ◌∷◌, ◌++◌, reverse, refl, sym, ap, ◌∙◌}
use Rattle.std.proofs.lemmas.List.{reverse-append}
use Rattle.std.proofs.lemmas.Grind.{common_steps}
use Rattle.handle_model.specs.declared.entry.Home.{Home}
use Rattle.handle_model.specs.declared.entry.Entry.{Entry}
use Rattle.handle_model.specs.declared.entry.Entry.TheVariants.{Join, Accept, Take, Deny, Cancel, Orphan, End, Leave, Shut}
use Rattle.hub_story.specs.Folded.{kept_since}
use Rattle.replay_groups.specs.Said.{said_by, said_last}

by_kept : (home : Home) (past : List Entry) → said_by (kept_since home past).past ≡ said_by past
by_kept home [] = refl
by_kept home (Join c ∷ past) = refl
by_kept home (End k results said ∷ past) = refl
by_kept home (Accept k a ∷ past) = refl
by_kept home (Take k cookies ∷ past) = refl
by_kept home (Deny k slot ∷ past) = refl
by_kept home (Cancel k ∷ past) = refl
by_kept home (Orphan k ∷ past) = refl
by_kept home (Leave c ∷ past) = refl
by_kept home (Shut items ∷ past) = refl

pub last_kept : (home : Home) (past : List Entry) → said_last (kept_since home past).past ≡ said_last past
last_kept home [] = refl
last_kept home (Join c ∷ past) = refl
last_kept home (End k results said ∷ past) = refl
last_kept home (Accept k a ∷ past) = refl
last_kept home (Take k cookies ∷ past) = refl
last_kept home (Deny k slot ∷ past) = refl
last_kept home (Cancel k ∷ past) = refl
last_kept home (Orphan k ∷ past) = refl
last_kept home (Leave c ∷ past) = refl
last_kept home (Shut items ∷ past) = by_kept home past

pub newest_first : (older : List Entry) (e : Entry) → reverse (older ++ e ∷ []) ≡ e ∷ reverse older
newest_first older e = reverse-append older (e ∷ [])

pub ruleset newest = (newest_first, common_steps)
