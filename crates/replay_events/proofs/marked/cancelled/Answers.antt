use Rattle.std.proofs.Common.{subst, sym}
use Rattle.group_core.specs.Calls.{Cancels}
use Rattle.replay_groups.specs.Holding.{Moves, Going}
use Rattle.replay_events.proofs.Marking.{cancel_ends, cancel_flags, cancel_late}
use Rattle.replay_events.proofs.marked.cancelled.Goals as goal

pub returns-in-Ended : goal.returns-in-Ended
returns-in-Ended c =
    cancel_ends c.args.realm.now c.cancel.new.self c.args.member c.args.call c.requires.low
    (subst (λ a. Moves c.args.realm.now (Going c.args.member.group (λ old new. Cancels old c.args.call a new)) c.cancel.new.self) c.in-Ended.is c.in_ok-answer.ensures)

pub returns-in-Flagged : goal.returns-in-Flagged
returns-in-Flagged c =
    cancel_flags c.args.realm.now c.cancel.new.self c.args.member c.args.call c.requires.low
    (subst (λ a. Moves c.args.realm.now (Going c.args.member.group (λ old new. Cancels old c.args.call a new)) c.cancel.new.self) c.in-Flagged.is c.in_ok-answer.ensures)

pub returns-in-Late : goal.returns-in-Late
returns-in-Late c =
    cancel_late c.args.realm.now c.cancel.new.self c.args.member c.args.call c.requires.low
    (subst (λ a. Moves c.args.realm.now (Going c.args.member.group (λ old new. Cancels old c.args.call a new)) c.cancel.new.self) c.in-Late.is c.in_ok-answer.ensures)
