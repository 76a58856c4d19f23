use Rattle.std.proofs.Common.{subst, sym, Option}
use Rattle.replay_world.specs.declared.peer.Member.{Member}
use Rattle.replay_world.specs.Events.{LeavesIts}
use Rattle.replay_groups.specs.Service.{service_of}
use Rattle.replay_groups.specs.Holding.{Moves}
use Rattle.replay_events.proofs.marked.leave.Goals as goal

pub returns-in_ok-leave-in-Some : goal.returns-in_ok-leave-in-Some
returns-in_ok-leave-in-Some c =
    subst (λ (o : Option Member). Moves c.args.realm.now (λ echo w v. LeavesIts (service_of echo) o w v) c.leave.new.self) (sym c.in-Some.is) c.in_ok-leave-in-Some.ensures
