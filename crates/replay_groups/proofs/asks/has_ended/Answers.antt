use Rattle.std.proofs.Common.{ap, ◌∙◌}
use Rattle.std.specs.List.{list_any}
use Rattle.handle_model.specs.History.{History}
use Rattle.handle_model.specs.Entries.{is_shut}
use Rattle.replay_groups.proofs.Asking.{ended_told}
use Rattle.replay_groups.proofs.asks.has_ended.Goals as goal

pub returns : goal.returns
returns c =
    ended_told c.args.groups.now c.args.id c.has_shut.result c.requires (c.has_shut.ensures ∙ ap (λ (j : History). list_any is_shut j.past) c.group_of.ensures)
