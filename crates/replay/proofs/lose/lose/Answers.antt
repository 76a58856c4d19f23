use Rattle.replay_script.specs.declared.line.Line.TheVariants as lines
use Rattle.replay.proofs.Hands.{in_hand}
use Rattle.replay.proofs.Each.{absent_lose, lost_lose, plays_named}
use Rattle.replay.proofs.lose.lose.Goals as goal

pub lose_it-requires : goal.lose_it-requires
lose_it-requires c = in_hand c.args.player.now c.pick.new.self c.args.name c.in-Some.played c.requires (rw c.in-Some.is at c.pick.ensures)

pub returns-in_default : goal.returns-in_default
returns-in_default c = absent_lose c.args.player.now c.pick.new.self c.args.name (rw c.in_default.is at c.pick.ensures)

pub returns-then-not-branch : goal.returns-then-not-branch
returns-then-not-branch c = lost_lose c.args.player.now c.pick.new.self c.args.name c.in-Some.played (rw c.in-Some.is at c.pick.ensures) (rw c.if-not-branch.true at c.in_ok-lose_it.ensures)

pub returns : goal.returns
returns c =
    plays_named lines.Lose c.args.name c.args.player.now c.pick.new.self c.lose_it.new.player c.put_back.new.self c.in-Some.played c.lose_it.new.played
    (rw c.in-Some.is at c.pick.ensures) (rw c.if-not-branch.false at c.in_ok-lose_it.ensures) c.in_ok-put_back.ensures
