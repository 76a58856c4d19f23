-- What the end of a call does to the live handles.
use Rattle.std.specs.Prelude.{ℕ, ◌+◌, Option, Some, None, List, [], ◌∷◌}
use Rattle.handle_model.specs.declared.entry.Home.{Home}
use Rattle.handle_model.specs.declared.entry.Slot.{Slot}
use Rattle.handle_model.specs.declared.entry.Outcome.{Outcome}
use Rattle.handle_model.specs.declared.entry.Outcome.TheVariants.{Keep, Close, Issue, Nothing}
use Rattle.handle_model.specs.declared.entry.DueItem.{DueItem}
use Rattle.handle_model.specs.Slots.{kind_of}
use Rattle.handle_table.specs.Handles.{with_item, without, with_cookie}
use Rattle.handle_table.specs.Uses.{item_named}

-- the handle that a slot names has another cookie, or goes
abbrev pub kept : ℕ → Option DueItem → List DueItem → List DueItem
kept cookie None items = items
kept cookie (Some i) items = with_cookie i.serial cookie items

abbrev pub closed : Option DueItem → List DueItem → List DueItem
closed None items = items
closed (Some i) items = without i.serial items

-- the result of a call at one slot
abbrev pub after_outcome : Home → Slot → Outcome → List DueItem → List DueItem
after_outcome home s (Issue serial cookie) items = with_item (record { serial = serial; kind = kind_of s; cookie = cookie }) items
after_outcome home s (Keep cookie) items = kept cookie (item_named home items s) items
after_outcome home s Close items = closed (item_named home items s) items
after_outcome home s Nothing items = items

-- the results of a call: of two that speak of one handle the first holds
abbrev pub ended : Home → List Slot → List Outcome → List DueItem → List DueItem
ended home (s ∷ ss) (o ∷ os) items = after_outcome home s o (ended home ss os items)
ended home [] os items = items
ended home (s ∷ ss) [] items = items

-- how many handles a result issues, and the results of a call
abbrev pub issues_one : Outcome → ℕ
issues_one (Issue serial cookie) = 1
issues_one _ = 0

abbrev pub issue_count : List Outcome → ℕ
issue_count [] = 0
issue_count (o ∷ os) = issues_one o + issue_count os
