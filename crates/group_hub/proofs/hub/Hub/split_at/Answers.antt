use Rattle.group_hub.proofs.PassLemmas.{by_hub}
use Rattle.group_hub.proofs.hub.Hub.split_at.Goals as goal

pub returns-clause-other : goal.returns-clause-other
returns-clause-other c =
    by_hub c.args.self.now c.args.number c.shard.result.now c.split.result
    (record { low = c.requires.small; is = c.shard.ensures.is; boot_is = c.shard.ensures.whose.0; number_is = c.shard.ensures.whose.1 }) c.args.self.now.whole.count c.split.ensures.pass
