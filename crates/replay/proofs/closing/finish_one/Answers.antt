use Rattle.replay.proofs.Hands.{in_hand}
use Rattle.replay.proofs.AtEnd.{finishes_named}
use Rattle.replay.proofs.closing.finish_one.Goals as goal

pub end-requires : goal.end-requires
end-requires c = in_hand c.args.player.now c.pick.new.self c.args.name c.in-Some.played c.requires (rw c.in-Some.is at c.pick.ensures)

pub returns : goal.returns
returns c =
    finishes_named c.args.name c.in_ok-end.field-0 c.args.player.now c.pick.new.self c.end.new.player c.put_back.new.self c.in-Some.played c.end.new.played
    (rw c.in-Some.is at c.pick.ensures) c.in_ok-end.ensures c.in_ok-put_back.ensures
