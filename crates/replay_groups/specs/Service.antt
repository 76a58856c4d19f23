-- The built-in services as what answers the calls of a script.
use Rattle.std.specs.Prelude.{◌≡◌, ℕ, Option, Some, None, List, ⊤}
use Rattle.ndr_table.specs.Tables.{TableForm}
use Rattle.desk_service.specs.State.{Services, tables_with}
use Rattle.desk_service.specs.Start.{at_start}
use Rattle.desk_service.specs.Calls.{May}
use Rattle.desk_service.specs.Rundowns.{iface_in, without}
use Rattle.replay_world.specs.Services.{Service, IsWhole, IsDetermined}
use Rattle.replay_world.specs.Replays.{Replays}

-- with an echo of that interface, or without: what they keep and may answer as the desks do, one after the other
abbrev pub service_of : Option TableForm → Service
service_of echo = record {
  tables = tables_with echo;
  State = Services;
  start = at_start echo;
  may = λ old numbers call told answer new. (old.echo ≡ echo) × May old numbers call told answer new;
  runs_down = λ old item new. new ≡ without old (iface_in item.kind);
}

-- what holds of the interface of an echo, if there is one
abbrev pub IsEcho : Option TableForm → Type 0
IsEcho None = ⊤
IsEcho (Some t) = IsWhole t

-- one answer follows from what the desks keep and are asked
abbrev pub EachIsDetermined : Type 0
EachIsDetermined = (echo : Option TableForm) → IsEcho echo → IsDetermined (service_of echo)

-- a text has one replay with them
abbrev pub OneReplayWith : Type 0
OneReplayWith =
    (echo : Option TableForm) → IsEcho echo → (text out log out' log' : List ℕ) → Replays (service_of echo) text out log
    → Replays (service_of echo) text out' log' → (out ≡ out') × (log ≡ log')
