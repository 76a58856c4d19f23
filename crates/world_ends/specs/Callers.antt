-- A caller's end of a program, and the caller's end of the world that it is.
use Rattle.std.specs.Prelude.{◌≡◌, ℕ, Bool, true, false, Option, Some, None, List, [], ◌∷◌, map}
use Rattle.ndr_value.specs.Values.{msg}
use Rattle.client_core.specs.State.{state}
use Rattle.client_core.specs.States.{Outcome}
use Rattle.client_core.specs.States.Outcome.{TDone, TFault}
use Rattle.world_laws.specs.Moves.{Fate}
use Rattle.world_laws.specs.Moves.{Fate as fates}
use Rattle.world_laws.specs.Ends.{Row, CallerEnd}
use Rattle.world_ends.specs.declared.fate.Fate.{Fate as Told}
use Rattle.world_ends.specs.declared.fate.Fate.TheVariants as told
use Rattle.world_ends.specs.declared.caller.Caller.{Caller}

abbrev pub fate_of : Told → Fate
fate_of told.Open = fates.Open
fate_of (told.Done m) = fates.Done (msg m)
fate_of (told.Fault status not_run) = fates.Fault status not_run
fate_of told.Lost = fates.Lost

abbrev pub fate_in : Row → Fate
fate_in r = r.fate

-- The client is in its state, the octets are held, and of each call it is known what was told.
pub record IsCaller (t : Caller) (c : CallerEnd) : Type 0 where
  pub state_is : c.state ≡ state t.client
  pub rest_is : c.rest ≡ t.rest.items
  pub fates_are : map fate_in c.rows ≡ map fate_of t.fates.items

-- the last of these is that
abbrev pub with_last : Fate → List Fate → List Fate
with_last fate [] = []
with_last fate (f ∷ []) = fate ∷ []
with_last fate (f ∷ g ∷ more) = f ∷ with_last fate (g ∷ more)

abbrev pub set_if : Bool → Fate → List Fate → List Fate
set_if true fate fs = with_last fate fs
set_if false fate fs = fs

-- what an outcome makes of the fates
abbrev pub told_so : Bool → Option Outcome → List Fate → List Fate
told_so out (Some (TDone m)) fs = set_if out (fates.Done m) fs
told_so out (Some (TFault status not_run)) fs = set_if out (fates.Fault status not_run) fs
told_so out _ fs = fs
