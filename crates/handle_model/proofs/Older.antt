-- What a legal history was at an earlier moment.
use Rattle.std.proofs.Common.{◌≡◌, true, List, [], ◌∷◌, ◌++◌, refl}
use Rattle.std.specs.List.{list_any}
use Rattle.handle_model.specs.declared.entry.Home.{Home}
use Rattle.handle_model.specs.declared.entry.DueItem.{DueItem}
use Rattle.handle_model.specs.declared.entry.Entry.{Entry}
use Rattle.handle_model.specs.declared.entry.Entry.TheVariants.{Shut}
use Rattle.handle_model.specs.declared.base.Base.{Base}
use Rattle.handle_model.specs.History.{History, since, with_entry}
use Rattle.handle_model.specs.Journal.{Legal, is_shut}
use Rattle.handle_model.proofs.Held.{or_right}
use Rattle.handle_model.specs.Further.{with_entries}

-- what stood before is legal
pub older_since : (home : Home) (base : Base) (newer older : List Entry) → Legal (since home base (newer ++ older)) → Legal (since home base older)
older_since home base [] older l = l
older_since home base (e ∷ newer) older l = older_since home base newer older l.1

pub older_legal : (j : History) (newer : List Entry) → Legal (with_entries j newer) → Legal j
older_legal j newer l = older_since j.home j.base newer j.past l

-- a Shut stays, and stands last
shut_there : (newer older : List Entry) (items : List DueItem) → list_any is_shut (newer ++ Shut items ∷ older) ≡ true
shut_there [] older items = refl
shut_there (e ∷ newer) older items = or_right (is_shut e) (list_any is_shut (newer ++ Shut items ∷ older)) (shut_there newer older items)

pub shut_is_last : (j : History) (newer : List Entry) (items : List DueItem) → Legal (with_entries (with_entry j (Shut items)) newer) → newer ≡ []
shut_is_last j [] items l = refl
shut_is_last j (e ∷ newer) items l = absurd (let there = shut_there newer j.past items in let none = l.0.before_shut in cc)
