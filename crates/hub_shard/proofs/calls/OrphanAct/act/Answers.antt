use Rattle.std.proofs.Common.{sym, subst}
use Rattle.hub_shard.specs.Shards.{Acted}
use Rattle.hub_shard.specs.Answers.{gives_orphan}
use Rattle.hub_shard.proofs.TellLemmas.{opened_has}
use Rattle.hub_shard.proofs.CallLemmas.{acts_orphan}
use Rattle.hub_shard.proofs.calls.OrphanAct.act.Goals as goal

pub orphan-orphaned-requires : goal.orphan-orphaned-requires
orphan-orphaned-requires c = opened_has c.args.shard.now c.requires.0 c.args.self.group c.requires.1 c.requires.2.0

pub returns : goal.returns
returns c = λ log t o.
    let d = c.orphan-orphaned.ensures in
    subst (λ n. Acted c.args.shard.now c.orphan-orphaned.new.self log n (gives_orphan c.args.self c.args.shard.now.boot c.args.shard.now.number log c.orphan-orphaned.result)) (sym c.entries_dropped-added.ensures)
    (acts_orphan c.args.shard.now c.orphan-orphaned.new.self log c.args.self.group d.0 c.args.self.call c.orphan-orphaned.result t o d.1 d.2)
