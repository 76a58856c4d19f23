use Rattle.std.proofs.Common.{refl, subst}
use Rattle.group_core.specs.declared.answer.Taking.{Taking}
use Rattle.group_core.specs.Calls as calls
use Rattle.world_server.specs.Servers.{seen}
use Rattle.world_server.proofs.Going.{waits_unshut, takes_run, takes_denied, takes_dropped, takes_wait}
use Rattle.world_server.proofs.server.Server.take.Goals as goal

pub returns-in_ok-push_newest-in-Run : goal.returns-in_ok-push_newest-in-Run
returns-in_ok-push_newest-in-Run c =
    let s = seen c.args.self.now in
    takes_run s (seen c.push_newest.new.self) c.take_of.new.group c.requires.is_whole c.take_of.ensures.sound c.args.call (waits_unshut s.past c.args.call c.requires.is_whole.sound c.requires.waits) c.in-Run.row c.in-Run.serial
    c.in-Run.ensures.takes c.in_ok-push_newest-in-Run.ensures

pub returns-in_ok-push-in-Denied : goal.returns-in_ok-push-in-Denied
returns-in_ok-push-in-Denied c =
    let s = seen c.args.self.now in
    takes_denied s (seen c.push.new.self) c.take_of.new.group c.requires.is_whole c.take_of.ensures.sound c.args.call (waits_unshut s.past c.args.call c.requires.is_whole.sound c.requires.waits) c.in-Denied.slot
    c.in-Denied.ensures.takes c.in_ok-push-in-Denied.ensures

pub returns-in-Dropped : goal.returns-in-Dropped
returns-in-Dropped c =
    let s = seen c.args.self.now in
    takes_dropped s _ c.take_of.new.group c.requires.is_whole c.take_of.ensures.sound c.args.call (waits_unshut s.past c.args.call c.requires.is_whole.sound c.requires.waits)
    (subst (λ (r : Taking). calls.Takes s.group c.args.call r c.take_of.new.group) c.in-Dropped.is c.take_of.ensures.takes) refl

pub returns-in-Wait : goal.returns-in-Wait
returns-in-Wait c =
    let s = seen c.args.self.now in
    takes_wait s _ c.take_of.new.group c.requires.is_whole c.take_of.ensures.sound c.args.call (waits_unshut s.past c.args.call c.requires.is_whole.sound c.requires.waits) c.in-Wait.other c.in-Wait.ensures.takes refl
