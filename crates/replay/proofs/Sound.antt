-- The journals as their groups keep them are legal and settled.
use Rattle.std.proofs.Common.{◌≡◌, ℕ, suc, List, [], ◌∷◌, inr, refl, subst, ◌∙◌}
use Rattle.std.specs.List.{AllByRecursion}
use Rattle.handle_model.specs.declared.entry.Home.{Home}
use Rattle.handle_model.specs.declared.entry.Entry.{Entry}
use Rattle.handle_model.specs.Bases.{empty_base}
use Rattle.handle_model.specs.History.{IsSound, since}
use Rattle.journal_tables.specs.Folding.{BaseBegun}
use Rattle.journal_tables.proofs.Alike.{folds_stand}
use Rattle.hub_story.specs.Folded.{kept_since}
use Rattle.hub_story.proofs.FoldLemmas.{kept_folds}
use Rattle.replay_world.specs.Worlds.{World}
use Rattle.replay_world.specs.Replays.{journals_from, journals_of}
use Rattle.replay_groups.specs.Keeps.{GroupsView, home_in, whole_of, AllSound, Keeps}

begun : BaseBegun empty_base
begun = inr refl

kept_sound : (home : Home) (past : List Entry) → IsSound (since home empty_base past) → IsSound (kept_since home past)
kept_sound home past s =
    let w = folds_stand (kept_since home past) (since home empty_base past) s.legal begun (kept_folds home past s.legal) in
    record { legal = w.legal; settled = w.due_same ∙ s.settled }

all_sound : (boot id : ℕ) (pasts : List (List Entry)) → AllSound boot id pasts → AllByRecursion IsSound (journals_from boot id pasts)
all_sound boot id [] h = tt
all_sound boot id (past ∷ more) h = (kept_sound (home_in boot id) past h.0, all_sound boot (suc id) more h.1)

pub journals_sound : {S : Type 0} (x : GroupsView) (w : World S) → Keeps x w.groups → x.boot ≡ w.boot → AllByRecursion IsSound (journals_of w)
journals_sound x w k e = subst (λ (b : ℕ). AllByRecursion IsSound (journals_from b 1 w.groups)) e (all_sound x.boot 1 w.groups k.sound)
