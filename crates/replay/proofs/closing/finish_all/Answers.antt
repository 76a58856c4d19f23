use Rattle.std.proofs.Common.{◌∙◌}
use Rattle.replay.proofs.AtEnd.{all_finished}
use Rattle.replay.proofs.closing.finish_all.Goals as goal

pub returns : goal.returns
returns c =
    all_finished c.as_slice.result.now c.args.player.now c.finish_names.new.player (λ ps s. c.as_slice.ensures.value ∙ c.in_ok-names.ensures ps s) c.in_ok-finish_names.ensures
