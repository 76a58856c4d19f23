use Rattle.std.proofs.Common.{◌∙◌}
use Rattle.replay.proofs.AtEnd.{all_lost}
use Rattle.replay.proofs.closing.lose_all.Goals as goal

pub returns : goal.returns
returns c =
    all_lost c.as_slice.result.now c.args.player.now c.lose_names.new.player (λ ps s. c.as_slice.ensures.value ∙ c.in_ok-names.ensures ps s) c.in_ok-lose_names.ensures
