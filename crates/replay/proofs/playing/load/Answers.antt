use Rattle.replay.proofs.Stepping.{summed}
use Rattle.replay.proofs.playing.load.Goals as goal

pub returns : goal.returns
returns c =
    summed c.args.number c.args.steps c.in_ok-player.player c.end_all.new.player c.counts.result.now c.new-text.result.items c.summary.new.into.items c.in_ok-player.ensures c.in_ok-end_all.ensures
    (λ echo w s. c.counts.ensures echo w s.holds) c.new-text.ensures.items c.in_ok-summary.ensures
