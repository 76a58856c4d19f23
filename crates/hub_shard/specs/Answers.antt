-- What the acts of a shard ask of its history, what they answer, and what they add.
use Rattle.std.specs.Prelude.{◌≡◌, ℕ, ◌<◌, ◌≤◌, Bool, true, false, ◌&&◌, not, Option, Result, List, [], ◌∷◌, length}
use Rattle.std.specs.List.{list_any}
use Rattle.handle_model.specs.declared.entry.Asked.{Asked}
use Rattle.handle_model.specs.declared.entry.DueItem.{DueItem}
use Rattle.handle_model.specs.declared.entry.Entry.{Entry}
use Rattle.handle_model.specs.declared.entry.Entry.TheVariants as entry
use Rattle.handle_model.specs.Journal.{is_open, is_shut, runs, suit, slots}
use Rattle.handle_model.specs.History.{History}
use Rattle.handle_model.specs.Further.{with_entries}
use Rattle.call_table.specs.Ahead.{last_ahead}
use Rattle.group_core.specs.declared.answer.AcceptRefusal.{AcceptRefusal}
use Rattle.group_core.specs.declared.answer.Taking.{Taking}
use Rattle.group_core.specs.declared.answer.Cancelled.{Cancelled}
use Rattle.group_core.specs.declared.answer.Orphaned.{Orphaned}
use Rattle.group_core.specs.declared.answer.Stage.{Stage}
use Rattle.group_core.specs.declared.answer.Rest.TheVariants as rest
use Rattle.group_core.specs.Calls.{Accepts, Takes, Cancels, Orphans}
use Rattle.group_core.specs.Conns.{Settles}
use Rattle.group_core.specs.Stages.{stage_of, is_asked}
use Rattle.hub_story.specs.declared.item.Item.{Item}
use Rattle.hub_story.specs.Directories.{is_opened_id, is_retired_id}
use Rattle.hub_story.specs.Histories.{marks_in, past_in, journal_in, items_of}
use Rattle.hub_story.specs.Folded.{kept}
use Rattle.hub_shard.specs.declared.answer.HubRest.{HubRest}
use Rattle.hub_shard.specs.declared.answer.HubRest.TheVariants.{Stays, Shut}
use Rattle.hub_shard.specs.declared.calls.Accept.{Accept}
use Rattle.hub_shard.specs.declared.calls.Take.{Take}
use Rattle.hub_shard.specs.declared.calls.Cancel.{Cancel}
use Rattle.hub_shard.specs.declared.calls.Orphan.{Orphan}
use Rattle.hub_shard.specs.declared.calls.End.{End}
use Rattle.hub_shard.specs.declared.calls.Leave.{Leave}
use Rattle.hub_shard.specs.declared.calls.Stand.{Stand}
use Rattle.hub_shard.specs.declared.calls.Ask.{Ask}
use Rattle.hub_shard.specs.declared.calls.LastAhead.{LastAhead}

-- the items are entries of one group, which answers by its journal before and after them
abbrev pub Answers : ℕ → ℕ → List Item → List Item → (History → History → Type 0) → Type 0
Answers boot g log more Says = (es : List Entry) × (more ≡ items_of g es) × Says (journal_in boot g log) (with_entries (journal_in boot g log) es)

-- the group was opened, and goes on
abbrev pub GoesOn : ℕ → List Item → Type 0
GoesOn g log = (is_opened_id (marks_in log) g ≡ true) × (list_any is_shut (past_in g log) ≡ false)

abbrev pub asks_accept : Accept → ℕ → List Item → Type 0
asks_accept a boot log = (is_opened_id (marks_in log) a.group ≡ true) × (is_open (journal_in boot a.group log) a.asked.conn ≡ true) × (length a.asked.slots ≤ 4)

abbrev pub gives_accept : Accept → ℕ → ℕ → List Item → Result ℕ (Asked × AcceptRefusal) → List Item → Type 0
gives_accept a boot s log r more = Answers boot a.group log more (λ j k. Accepts j a.asked r k)

abbrev pub asks_take : Take → ℕ → List Item → Type 0
asks_take a boot log = GoesOn a.group log

abbrev pub gives_take : Take → ℕ → ℕ → List Item → Taking → List Item → Type 0
gives_take a boot s log r more = Answers boot a.group log more (λ j k. Takes j a.call r k)

abbrev pub asks_cancel : Cancel → ℕ → List Item → Type 0
asks_cancel a boot log = GoesOn a.group log

abbrev pub gives_cancel : Cancel → ℕ → ℕ → List Item → Cancelled → List Item → Type 0
gives_cancel a boot s log r more = Answers boot a.group log more (λ j k. Cancels j a.call r k)

abbrev pub asks_orphan : Orphan → ℕ → List Item → Type 0
asks_orphan a boot log = GoesOn a.group log

abbrev pub gives_orphan : Orphan → ℕ → ℕ → List Item → Orphaned → List Item → Type 0
gives_orphan a boot s log r more = Answers boot a.group log more (λ j k. Orphans j a.call r k)

-- an entry comes, and then the Shut where it is due, with the key of the group
abbrev pub SettlesWith : ℕ → Entry → HubRest → History → History → Type 0
SettlesWith g e Stays j k = Settles j e rest.Stays k
SettlesWith g e (Shut items key) j k = (key ≡ g) × Settles j e (rest.Shut items) k

abbrev pub asks_end : End → ℕ → List Item → Type 0
asks_end a boot log =
    (is_opened_id (marks_in log) a.group ≡ true) × (runs (journal_in boot a.group log) a.call ≡ true)
    × (suit (slots (journal_in boot a.group log) a.call) a.results ≡ true)

abbrev pub gives_end : End → ℕ → ℕ → List Item → HubRest → List Item → Type 0
gives_end a boot s log r more = Answers boot a.group log more (SettlesWith a.group (entry.End a.call a.results a.said) r)

abbrev pub asks_leave : Leave → ℕ → List Item → Type 0
asks_leave a boot log = (is_opened_id (marks_in log) a.group ≡ true) × (is_open (journal_in boot a.group log) a.conn ≡ true)

abbrev pub gives_leave : Leave → ℕ → ℕ → List Item → HubRest → List Item → Type 0
gives_leave a boot s log r more = Answers boot a.group log more (SettlesWith a.group (entry.Leave a.conn) r)

abbrev pub asks_stand : Stand → ℕ → List Item → Type 0
asks_stand a boot log = is_opened_id (marks_in log) a.group ≡ true

abbrev pub gives_stand : Stand → ℕ → ℕ → List Item → Stage → List Item → Type 0
gives_stand a boot s log r more = (more ≡ []) × (r ≡ stage_of (journal_in boot a.group log) a.call)

abbrev pub asks_ask : Ask → ℕ → List Item → Type 0
asks_ask a boot log = is_opened_id (marks_in log) a.group ≡ true

-- by the journal as the group keeps it; never of a group that was retired
abbrev pub gives_ask : Ask → ℕ → ℕ → List Item → Bool → List Item → Type 0
gives_ask a boot s log r more = (more ≡ []) × (r ≡ (not (is_retired_id (marks_in log) a.group) && is_asked (kept (journal_in boot a.group log)) a.call))

abbrev pub asks_ahead : LastAhead → ℕ → List Item → Type 0
asks_ahead a boot log = is_opened_id (marks_in log) a.group ≡ true

abbrev pub gives_ahead : LastAhead → ℕ → ℕ → List Item → Option ℕ → List Item → Type 0
gives_ahead a boot s log r more = (more ≡ []) × (r ≡ last_ahead (journal_in boot a.group log) a.call)
