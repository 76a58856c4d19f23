use Rattle.std.proofs.Common.{ℕ, List}
use Rattle.replay_script.specs.declared.line.Line.{Line}
use Rattle.replay_script.specs.declared.line.Line.TheVariants as lines
use Rattle.replay.proofs.Hands.{in_hand}
use Rattle.replay.proofs.Each.{absent_send, lost_send, plays_named}
use Rattle.replay.proofs.send.send.Goals as goal

pub send_to-requires : goal.send_to-requires
send_to-requires c = in_hand c.args.player.now c.pick.new.self c.args.name c.in-Some.played c.requires (rw c.in-Some.is at c.pick.ensures)

pub returns-in_default : goal.returns-in_default
returns-in_default c = absent_send c.args.player.now c.pick.new.self c.args.name c.args.octets.now (rw c.in_default.is at c.pick.ensures)

pub returns-then-not-branch : goal.returns-then-not-branch
returns-then-not-branch c = lost_send c.args.player.now c.pick.new.self c.args.name c.in-Some.played c.args.octets.now (rw c.in-Some.is at c.pick.ensures) (rw c.if-not-branch.true at c.in_ok-send_to.ensures)

pub returns : goal.returns
returns c =
    plays_named (λ n. lines.Send n c.args.octets.now) c.args.name c.args.player.now c.pick.new.self c.send_to.new.player c.put_back.new.self c.in-Some.played c.send_to.new.played
    (rw c.in-Some.is at c.pick.ensures) (rw c.if-not-branch.false at c.in_ok-send_to.ensures) c.in_ok-put_back.ensures
