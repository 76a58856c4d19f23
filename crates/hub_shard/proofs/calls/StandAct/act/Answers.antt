use Rattle.std.proofs.Common.{refl, ◌∙◌}
use Rattle.hub_shard.specs.Answers.{gives_stand}
use Rattle.hub_shard.proofs.TellLemmas.{opened_has, acted_none}
use Rattle.hub_shard.proofs.CallLemmas.{stage_there}
use Rattle.hub_shard.proofs.calls.StandAct.act.Goals as goal

pub stage-requires : goal.stage-requires
stage-requires c = opened_has c.args.shard.now c.requires.0 c.args.self.group c.requires.1 c.requires.2

pub returns : goal.returns
returns c = λ log t o.
    acted_none c.args.shard.now log (gives_stand c.args.self c.args.shard.now.boot c.args.shard.now.number log c.stage.result) t
    (refl, c.stage.ensures ∙ stage_there c.args.shard.now log c.args.self.group t o c.args.self.call)
