use Rattle.std.proofs.Common.{refl, ◌∙◌}
use Rattle.hub_shard.specs.Answers.{gives_ahead}
use Rattle.hub_shard.proofs.TellLemmas.{opened_has, acted_none}
use Rattle.hub_shard.proofs.CallLemmas.{last_there}
use Rattle.hub_shard.proofs.calls.LastAheadAct.act.Goals as goal

pub last_in_way-requires : goal.last_in_way-requires
last_in_way-requires c = opened_has c.args.shard.now c.requires.0 c.args.self.group c.requires.1 c.requires.2

pub returns : goal.returns
returns c = λ log t o.
    acted_none c.args.shard.now log (gives_ahead c.args.self c.args.shard.now.boot c.args.shard.now.number log c.last_in_way.result) t
    (refl, c.last_in_way.ensures ∙ last_there c.args.shard.now log c.args.self.group t o c.args.self.call)
