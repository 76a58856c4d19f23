use Rattle.std.proofs.Common.{Bool, subst}
use Rattle.replay.specs.Lines.{Comes}
use Rattle.replay.proofs.Stepping.{one_line_more, world_behind}
use Rattle.replay.proofs.playing.+play_lines.Goals as goal

pub play_line-requires : goal.play_line-requires
play_line-requires n c = world_behind c.pop.new.self.items c.args.player.now c.play_lines.new.player c.in_ok-play_lines.ensures c.requires

pub returns-then-branch : goal.returns-then-branch
returns-then-branch n c =
    one_line_more c.args.lines.items c.pop.new.self.items c.in-Some.last c.args.player.now c.play_lines.new.player c.play_line.new.player c.in-Some.ensures.items c.in_ok-play_lines.ensures
    (subst (λ (b : Bool). Comes c.play_lines.new.player c.in-Some.last b c.play_line.new.player) c.if-branch.true c.in_ok-play_line.ensures)
