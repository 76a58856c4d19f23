use Rattle.std.proofs.Common.{refl}
use Rattle.group_hub.proofs.PassLemmas.{put_pass}
use Rattle.group_hub.proofs.hub.Hub.last_in_way.Goals as goal

pub returns-clause-pass : goal.returns-clause-pass
returns-clause-pass g c =
    put_pass c.args.self.now c.args.pass.now _ c.shard_of-number.result c.shard.result.now _ c.requires.pass
    (record { low = c.shard_of-number.ensures.small; is = c.shard.ensures.is; boot_is = c.shard.ensures.whose.0; number_is = c.shard.ensures.whose.1 }) refl c.args.self.now.whole.count c.last_in_way.ensures.pass
