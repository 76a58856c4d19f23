use Rattle.std.proofs.Common.{◌≡◌, Option, length}
use Rattle.ndr_table.specs.Tables.{TableForm}
use Rattle.desk_service.specs.State.{Services}
use Rattle.desk_service.specs.Views.{services}
use Rattle.replay_world.specs.Services.{AreRunDown}
use Rattle.replay_groups.specs.Service.{service_of}
use Rattle.replay_groups.proofs.rundown.run_down.Given as goal

-- where those that are left are run down, all are
abbrev pub invariant-loop-due : goal.invariant-loop-due
invariant-loop-due l =
    ((echo : Option TableForm) (last : Services) → AreRunDown (service_of echo) (services l.desks) l.items last
    → AreRunDown (service_of echo) (services l.initial.desks) l.fn.items last)
    × ((services l.desks).echo ≡ (services l.initial.desks).echo)

abbrev pub decreases-loop-due : goal.decreases-loop-due
decreases-loop-due l = length l.items
