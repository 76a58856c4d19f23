use Rattle.std.proofs.Common.{rules}
use Rattle.std.proofs.lemmas.Fn.{filter_same}
use Rattle.client_core.specs.States.{is_other}
use Rattle.client_core.proofs.hearing.drop_id.Goals as goal

pub returns : goal.returns
returns c = filter_same _ (is_other c.args.call_id) _ (λ x b f' k. search rules) _ _ c.retain.ensures.filtered
