use Rattle.std.proofs.Common.{◌∙◌}
use Rattle.replay_groups.proofs.Asking.{open_is, open_none}
use Rattle.replay_groups.proofs.asks.goes_on.Goals as goal

pub returns-then-has-clause-told : goal.returns-then-has-clause-told
returns-then-has-clause-told c = λ pasts k. open_is c.args.groups.now c.args.id c.has_ended.result (c.has.ensures.0 c.if-has.true) c.has_ended.ensures pasts k

pub returns-else-has-clause-told : goal.returns-else-has-clause-told
returns-else-has-clause-told c = λ pasts k.
    c.if-has.false ∙ open_none c.args.groups.now c.args.id (λ h. let t = c.has.ensures.1 h in let f = c.if-has.false in cc) pasts k
