-- Where a call is, and whether it was asked to end.
use Rattle.std.specs.Prelude.{ℕ, Bool, ◌&&◌, ◌||◌, ◌==◌, List, [], ◌∷◌, if◌then◌else◌}
use Rattle.handle_model.specs.declared.entry.Entry.{Entry}
use Rattle.handle_model.specs.declared.entry.Entry.TheVariants.{Cancel}
use Rattle.handle_model.specs.declared.base.Base.{Base}
use Rattle.handle_model.specs.Bases.{taken_before, cancelled_before}
use Rattle.handle_model.specs.History.{History}
use Rattle.handle_model.specs.Journal.{any_since, takes, waits, runs}
use Rattle.group_core.specs.declared.answer.Stage.{Stage}
use Rattle.group_core.specs.declared.answer.Stage.TheVariants as stage

abbrev pub stage_of : History → ℕ → Stage
stage_of j k = if waits j k then stage.Waiting else (if runs j k then stage.Running else stage.Over)

-- a Cancel of the call stands after its Take, or the base marks it as cancelled
abbrev pub is_asked_since : Base → List Entry → ℕ → Bool
is_asked_since base [] k = cancelled_before base k
is_asked_since base (Cancel m ∷ past) k = m == k && any_since (taken_before base k) (takes k) past || is_asked_since base past k
is_asked_since base (_ ∷ past) k = is_asked_since base past k

abbrev pub is_asked : History → ℕ → Bool
is_asked j k = is_asked_since j.base j.past k
