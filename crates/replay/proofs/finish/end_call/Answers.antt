use Rattle.std.proofs.Common.{refl}
use Rattle.replay_events.specs.Hands.{EndsIn}
use Rattle.replay.proofs.Hands.{still}
use Rattle.replay.proofs.Each.{ended, not_running, not_ended}
use Rattle.replay.proofs.finish.end_call.Goals as goal

pub follow-requires : goal.follow-requires
follow-requires c =
    still (EndsIn c.args.member c.args.call) c.args.player.now c.finish_call.new.self c.args.played.now c.finish_call.new.played c.requires.hand (rw c.if-not-branch.false at c.in_ok-finish_call.ensures)

pub returns-then-not-branch : goal.returns-then-not-branch
returns-then-not-branch c =
    not_ended c.args.player.now c.finish_call.new.self c.args.played.now c.finish_call.new.played c.args.member c.args.call c.requires.member c.requires.call (rw c.if-not-branch.true at c.in_ok-finish_call.ensures)

pub returns : goal.returns
returns c =
    ended c.args.player.now c.finish_call.new.self c.follow.new.player c.args.played.now c.finish_call.new.played c.follow.new.played c.args.member c.args.call c.args.played.now.standing refl
    c.requires.member c.requires.call (rw c.if-not-branch.false at c.in_ok-finish_call.ensures) c.in_ok-follow.ensures
