-- Where a call is, by what its group says of its stage.
use Rattle.std.proofs.Common.{◌≡◌, ◌≢◌, ℕ, Bool, true, false, not, ◌&&◌, ◌||◌, if◌then◌else◌, Option, Some, None, refl, sym, ap, subst, ◌∙◌}
use Rattle.ndr_table.specs.Tables.{TableForm}
use Rattle.handle_model.specs.History.{History}
use Rattle.handle_model.specs.Journal.{Legal, waits, runs, is_taken}
use Rattle.handle_model.proofs.Stages.{waits_fresh}
use Rattle.group_core.specs.declared.answer.Stage.{Stage}
use Rattle.group_core.specs.declared.answer.Stage.TheVariants.{Waiting, Running, Over}
use Rattle.group_core.specs.Stages.{stage_of}
use Rattle.desk_service.specs.State.{Services}
use Rattle.replay_world.specs.declared.peer.Member.{Member}
use Rattle.replay_world.specs.Worlds.{World, journal}
use Rattle.replay_world.specs.Events.{is_call_over}
use Rattle.replay_groups.specs.Keeps.{Told, whole_of, past_at}
use Rattle.replay_groups.specs.declared.realm.Realm.{Realm}
use Rattle.replay_groups.specs.Holding.{Holds}
use Rattle.replay_events.specs.Lived.{is_end}

abbrev at_of : Bool → Bool → Stage
at_of a b = if a then Waiting else (if b then Running else Over)

if_running : (a b : Bool) → Running ≡ at_of a b → (a ≡ false) × (b ≡ true)
if_running true b e = absurd (cc)
if_running false true e = (refl, refl)
if_running false false e = absurd (cc)

if_over : (a b : Bool) → Over ≡ at_of a b → (a ≡ false) × (b ≡ false)
if_over true b e = absurd (cc)
if_over false true e = absurd (cc)
if_over false false e = (refl, refl)

if_waiting : (a b : Bool) → Waiting ≡ at_of a b → a ≡ true
if_waiting true b e = refl
if_waiting false true e = absurd (cc)
if_waiting false false e = absurd (cc)

pub stage_in : (echo : Option TableForm) (r : Realm) (w : World Services) (m : Member) (k : ℕ) (at : Stage) → Holds echo r w → Told r.groups m.group (λ j. at ≡ stage_of j k) → at ≡ stage_of (journal w m.group) k
stage_in echo r w m k at h told = subst (λ (b : ℕ). at ≡ stage_of (whole_of b m.group (past_at w.groups m.group)) k) h.boot (told w.groups h.keeps)

pub runs_now : (w : World Services) (m : Member) (k : ℕ) → Running ≡ stage_of (journal w m.group) k → runs (journal w m.group) k ≡ true
runs_now w m k e = (if_running (waits (journal w m.group) k) (runs (journal w m.group) k) e).1

waits_unrun : (j : History) (k : ℕ) → Legal j → waits j k ≡ true → runs j k ≡ false
waits_unrun j k legal w = rw (waits_fresh j k legal w).untaken refl

pub no_run : (w : World Services) (m : Member) (k : ℕ) (at : Stage) → at ≢ Running → Legal (journal w m.group) → at ≡ stage_of (journal w m.group) k → runs (journal w m.group) k ≡ false
no_run w m k Running other legal e = absurd (other refl)
no_run w m k Over other legal e = (if_over (waits (journal w m.group) k) (runs (journal w m.group) k) e).1
no_run w m k Waiting other legal e = waits_unrun (journal w m.group) k legal (if_waiting (waits (journal w m.group) k) (runs (journal w m.group) k) e)

pub no_wait : (w : World Services) (m : Member) (k : ℕ) (at : Stage) → at ≢ Waiting → at ≡ stage_of (journal w m.group) k → waits (journal w m.group) k ≡ false
no_wait w m k Waiting other e = absurd (other refl)
no_wait w m k Running other e = (if_running (waits (journal w m.group) k) (runs (journal w m.group) k) e).0
no_wait w m k Over other e = (if_over (waits (journal w m.group) k) (runs (journal w m.group) k) e).0

-- ---- whether it is over

over_by : (a b : Bool) (at : Stage) → at ≡ at_of a b → not (a || b) ≡ is_end at
over_by true b at e = ap is_end (sym e)
over_by false true at e = ap is_end (sym e)
over_by false false at e = ap is_end (sym e)

pub over_is : (r : Realm) (m : Member) (k : ℕ) (at : Stage) → Told r.groups m.group (λ j. at ≡ stage_of j k) → (echo : Option TableForm) (w : World Services) → Holds echo r w → is_call_over w (Some m) k ≡ is_end at
over_is r m k at told echo w h = over_by (waits (journal w m.group) k) (runs (journal w m.group) k) at (stage_in echo r w m k at h told)
