use Rattle.replay.proofs.Hands.{in_hand, plays_by}
use Rattle.replay.proofs.AtEnd.{loses_named}
use Rattle.replay.proofs.closing.lose_one.Goals as goal

pub lose_if_there-requires : goal.lose_if_there-requires
lose_if_there-requires c = in_hand c.args.player.now c.pick.new.self c.args.name c.in-Some.played c.requires (rw c.in-Some.is at c.pick.ensures)

pub returns : goal.returns
returns c =
    loses_named c.args.name c.args.player.now c.pick.new.self c.lose_if_there.new.player c.put_back.new.self c.in-Some.played c.lose_if_there.new.played
    (rw c.in-Some.is at c.pick.ensures) c.in_ok-lose_if_there.ensures c.in_ok-put_back.ensures
