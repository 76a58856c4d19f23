-- What a replay leaves once it is closed.
use Rattle.std.specs.Prelude.{◌≡◌, ℕ, Option, List}
use Rattle.std.specs.List.{AllByRecursion}
use Rattle.handle_model.specs.History.{IsSound}
use Rattle.ndr_table.specs.Tables.{TableForm}
use Rattle.desk_service.specs.State.{Services}
use Rattle.replay_world.specs.Worlds.{World}
use Rattle.replay_world.specs.Printing.{out_text}
use Rattle.replay_world.specs.Replays.{LosesAll, FinishesAll, Closes, names_of, journals_of, log_text}
use Rattle.replay_world.specs.Moments.{AreSound}
use Rattle.replay_groups.specs.Service.{service_of}
use Rattle.replay_events.specs.declared.player.Player.{Player}
use Rattle.replay_events.specs.Standing.{Stands}

-- of connections of these names those that are there are lost; their running calls end
abbrev pub LosesNames : List ℕ → Option TableForm → World Services → World Services → Type 0
LosesNames names echo w v = LosesAll (service_of echo) w names v

abbrev pub FinishesNames : List ℕ → Option TableForm → World Services → World Services → Type 0
FinishesNames names echo w v = FinishesAll (service_of echo) w names v

-- all connections that are there are lost, by rising name; all running calls end, in the same order
abbrev pub AllLost : Option TableForm → World Services → World Services → Type 0
AllLost echo w v = LosesAll (service_of echo) w (names_of w) v

abbrev pub AllFinished : Option TableForm → World Services → World Services → Type 0
AllFinished echo w v = FinishesAll (service_of echo) w (names_of w) v

-- both, one after the other
abbrev pub AllEnded : Option TableForm → World Services → World Services → Type 0
AllEnded echo w v = Closes (service_of echo) w v

-- what was printed and is logged where a replay is closed, from each world that the player stood for
pub record LeavesAt (echo : Option TableForm) (w : World Services) (out log : List ℕ) : Type 0 where
  pub end : World Services
  pub closes : Closes (service_of echo) w end
  pub printed : out ≡ out_text end.out
  pub logged : log ≡ log_text end
  pub sound : AllByRecursion IsSound (journals_of end)
  pub whole : AreSound end

abbrev pub IsLeft : Player → List ℕ → List ℕ → Type 0
IsLeft p out log = (echo : Option TableForm) (w : World Services) → Stands echo p w → LeavesAt echo w out log
