use Rattle.std.proofs.Common.{ℕ, List, ◌++◌, ap, ◌∙◌}
use Rattle.replay_world.specs.Replays.{log_text}
use Rattle.replay.proofs.AtEnd.{closed}
use Rattle.replay.proofs.closing.close.Goals as goal

pub returns : goal.returns
returns c =
    closed c.args.player c.end_all.new.player c.log.new.into.items c.in_ok-end_all.ensures (λ echo w h. c.in_ok-log.ensures echo w h ∙ ap (λ (x : List ℕ). x ++ log_text w) c.new-log.ensures.items)
