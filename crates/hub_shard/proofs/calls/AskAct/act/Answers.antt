use Rattle.std.proofs.Common.{refl, ◌∙◌}
use Rattle.hub_shard.specs.Answers.{gives_ask}
use Rattle.hub_shard.proofs.TellLemmas.{opened_has, acted_none}
use Rattle.hub_shard.proofs.CallLemmas.{asked_there}
use Rattle.hub_shard.proofs.calls.AskAct.act.Goals as goal

pub asked-requires : goal.asked-requires
asked-requires c = opened_has c.args.shard.now c.requires.0 c.args.self.group c.requires.1 c.requires.2

pub returns : goal.returns
returns c = λ log t o.
    acted_none c.args.shard.now log (gives_ask c.args.self c.args.shard.now.boot c.args.shard.now.number log c.asked.result) t
    (refl, c.asked.ensures ∙ asked_there c.args.shard.now log c.args.self.group t o c.args.self.call)
