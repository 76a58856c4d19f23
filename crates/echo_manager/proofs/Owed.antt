-- The probe's answers are responses, and cancelled only where that was told.
use Rattle.std.proofs.Common.{◌≡◌, ℕ, Bool, true, false, Option, Some, None, List, [], ◌∷◌, refl, arith}
use Rattle.ndr_value.specs.Values.{Msg}
use Rattle.ndr_model.specs.declared.way.Way.TheVariants.{Response}
use Rattle.ndr_model.specs.Fits.{IsOfOp}
use Rattle.manager_api.specs.declared.answer.Kept.TheVariants.{Cookie, Null}
use Rattle.manager_api.specs.Answers.{Ans, AOut, Does, cancelled}
use Rattle.manager_api.specs.Arguments.{uint_at}
use Rattle.manager_api.specs.Responses.{handle_and_status}
use Rattle.manager_api.specs.Calls.{Owes}
use Rattle.desk_kit.proofs.Suits.{handle_and_status_is}
use Rattle.desk_kit.proofs.Owed.{for_op, does_owe, is_told, never}
use Rattle.echo_manager.specs.Table.{probe_table, open_form, close_form}
use Rattle.echo_manager.specs.ProbeSteps.{open_step, close_step}

open_answer : (asked : Msg) (handles : ℕ) (m : Msg) (told : Bool) → Owes probe_table 0 asked (open_step handles m told).answer
open_answer asked handles m true = tt
open_answer asked handles m false =
    (for_op probe_table 0 (λ o. IsOfOp [] o Response (Some asked) (handle_and_status 0)) open_form refl (handle_and_status_is [] open_form (Some asked) 0 0 refl (omega arith)), refl)

pub open_owes : (asked : Msg) (handles : ℕ) (m : Msg) (told : Bool) (a : Ans) (after : ℕ) → Does (open_step handles m told) handles a after → Owes probe_table 0 asked a
open_owes asked handles m told a after d = does_owe probe_table 0 asked (open_step handles m told) handles a after d (open_answer asked handles m told)

only_told : (handles : ℕ) (m : Msg) (told : Bool) → (open_step handles m told).answer ≡ cancelled → told ≡ true
only_told handles m true e = refl
only_told handles m false e = never false (handle_and_status 0) (Cookie (uint_at m 0) ∷ []) e

pub open_told : (handles : ℕ) (m : Msg) (told : Bool) (a : Ans) (after : ℕ) → Does (open_step handles m told) handles a after → a ≡ cancelled → told ≡ true
open_told handles m told a after d = is_told told (open_step handles m told) handles a after d (only_told handles m told)

pub close_owes : (asked : Msg) (handles : ℕ) (cookie : Option ℕ) (a : Ans) (after : ℕ) → Does (close_step handles cookie) handles a after → Owes probe_table 1 asked a
close_owes asked handles cookie a after d =
    does_owe probe_table 1 asked (close_step handles cookie) handles a after d
    (for_op probe_table 1 (λ o. IsOfOp [] o Response (Some asked) (handle_and_status 0)) close_form refl (handle_and_status_is [] close_form (Some asked) 0 0 refl (omega arith)), refl)

pub close_told : (handles : ℕ) (told : Bool) (cookie : Option ℕ) (a : Ans) (after : ℕ) → Does (close_step handles cookie) handles a after → a ≡ cancelled → told ≡ true
close_told handles told cookie a after d = is_told told (close_step handles cookie) handles a after d (never told (handle_and_status 0) (Null ∷ []))
