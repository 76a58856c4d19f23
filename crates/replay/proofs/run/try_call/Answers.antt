use Rattle.replay_events.specs.Hands.{TakesIn}
use Rattle.replay.proofs.Hands.{still}
use Rattle.replay.proofs.Each.{tried}
use Rattle.replay.proofs.run.try_call.Goals as goal

pub follow-requires : goal.follow-requires
follow-requires c =
    still (TakesIn c.args.member c.args.call c.in_ok-answer.answer) c.args.player.now c.take_call.new.self c.args.played.now c.take_call.new.played c.requires.hand c.in_ok-answer.ensures

pub returns : goal.returns
returns c =
    tried c.args.player.now c.take_call.new.self c.follow.new.player c.args.played.now c.take_call.new.played c.follow.new.played c.args.member c.args.call c.in_ok-answer.answer
    c.requires.member c.requires.call c.in_ok-answer.ensures c.in_ok-follow.ensures
