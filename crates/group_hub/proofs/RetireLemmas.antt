-- What retiring a group enters, and that it may.
use Rattle.std.proofs.Common.{◌≡◌, ℕ, ◌<◌, Bool, true, false, ◌&&◌, not, List, [], ◌∷◌, ◌++◌, length, refl, sym, ◌∙◌, ap, subst}
use Rattle.std.specs.List.{list_any}
use Rattle.std.proofs.lemmas.Bool.{false_from_ne_true}
use Rattle.handle_model.specs.declared.entry.Entry.TheVariants as entry
use Rattle.handle_model.specs.Journal.{is_shut}
use Rattle.hub_story.specs.declared.item.Mark.TheVariants as mark
use Rattle.hub_story.specs.declared.item.Item.{Item}
use Rattle.hub_story.specs.declared.item.Item.TheVariants.{Listed}
use Rattle.hub_story.specs.Directories.{is_opened_id, is_retired_id, is_open_id}
use Rattle.hub_story.specs.Histories.{marks_in, past_in}
use Rattle.hub_story.specs.Passes.{Seen, HasShut}
use Rattle.hub_story.specs.Calls.{Met, TiesOwn, Enters}
use Rattle.hub_story.proofs.ItemLemmas.{exact_mark}
use Rattle.hub_story.proofs.OwnLemmas.{own_opened, never_retired, shut_there, retire_ties, ties_one}
use Rattle.hub_shard.specs.declared.answer.Retired.{Retired}
use Rattle.hub_shard.specs.declared.retiring.Retire.{Retire}
use Rattle.hub_shard.specs.Retirings.{gives_retire}
use Rattle.group_hub.specs.Turns.{IsSame, Ran}

live : (a b : Bool) → a ≡ true → b ≡ false → (a && not b) ≡ true
live a b h k = rw (h, k) refl

pub retire_asks : (boot s : ℕ) (v : Seen) (log : List Item) → Met boot s v log → (g : ℕ) → HasShut v g → (is_open_id (marks_in log) g ≡ true) × (list_any is_shut (past_in g log) ≡ true)
retire_asks boot s v log met g h = (
  live (is_opened_id (marks_in log) g) (is_retired_id (marks_in log) g) (own_opened boot s v log met g (entry.Shut h.items) h.shut) (false_from_ne_true (is_retired_id (marks_in log) g) (never_retired boot s v log met g h)),
  shut_there boot s v log met g h,
)

pub retire_may : (boot s : ℕ) (v : Seen) (log : List Item) → Met boot s v log → (a : Retire) (r : Retired) (more : List Item) → HasShut v a.key → gives_retire a boot s log r more → TiesOwn v log more
retire_may boot s v log met a r more h d = subst (TiesOwn v log) (sym d.1) (ties_one v log (Listed (mark.Retired a.key)) (retire_ties boot s v log met a.key h))

pub ran_retired : (boot s : ℕ) (a : Retire) (v w : Seen) (r : Retired) → Ran boot s v w (λ log more. gives_retire a boot s log r more) → (between : List Item) × Enters boot s v w between (Listed (mark.Retired a.key) ∷ [])
ran_retired boot s a v w r ran =
    (ran.between, subst (Enters boot s v w ran.between) (exact_mark (mark.Retired a.key) ran.entered (ran.same.count ∙ ap length ran.gives.1) (ran.same.marks ∙ ap marks_in ran.gives.1)) ran.enters)
