use Rattle.std.proofs.Common.{subst, sym}
use Rattle.group_core.specs.Calls.{Orphans}
use Rattle.replay_groups.specs.Holding.{Moves, Going}
use Rattle.replay_events.proofs.Marking.{orphan_drops, orphan_runs, orphan_late}
use Rattle.replay_events.proofs.marked.orphaned.Goals as goal

pub returns-in-Dropped : goal.returns-in-Dropped
returns-in-Dropped c =
    orphan_drops c.args.realm.now c.orphan.new.self c.args.member c.args.call c.requires.low
    (subst (λ a. Moves c.args.realm.now (Going c.args.member.group (λ old new. Orphans old c.args.call a new)) c.orphan.new.self) c.in-Dropped.is c.in_ok-answer.ensures)

pub returns-in-Running : goal.returns-in-Running
returns-in-Running c =
    orphan_runs c.args.realm.now c.orphan.new.self c.args.member c.args.call c.requires.low
    (subst (λ a. Moves c.args.realm.now (Going c.args.member.group (λ old new. Orphans old c.args.call a new)) c.orphan.new.self) c.in-Running.is c.in_ok-answer.ensures)

pub returns-in-Late : goal.returns-in-Late
returns-in-Late c =
    orphan_late c.args.realm.now c.orphan.new.self c.args.member c.args.call c.requires.low
    (subst (λ a. Moves c.args.realm.now (Going c.args.member.group (λ old new. Orphans old c.args.call a new)) c.orphan.new.self) c.in-Late.is c.in_ok-answer.ensures)
