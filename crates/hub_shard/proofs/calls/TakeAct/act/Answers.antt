use Rattle.std.proofs.Common.{sym, subst}
use Rattle.hub_shard.specs.Shards.{Acted}
use Rattle.hub_shard.specs.Answers.{gives_take}
use Rattle.hub_shard.proofs.TellLemmas.{opened_has}
use Rattle.hub_shard.proofs.CallLemmas.{acts_take}
use Rattle.hub_shard.proofs.calls.TakeAct.act.Goals as goal

pub take-taking-requires : goal.take-taking-requires
take-taking-requires c = opened_has c.args.shard.now c.requires.0 c.args.self.group c.requires.1 c.requires.2.0

pub returns : goal.returns
returns c = λ log t o.
    let d = c.take-taking.ensures in
    subst (λ n. Acted c.args.shard.now c.take-taking.new.self log n (gives_take c.args.self c.args.shard.now.boot c.args.shard.now.number log c.take-taking.result)) (sym c.entries_taken-added.ensures)
    (acts_take c.args.shard.now c.take-taking.new.self log c.args.self.group d.0 c.args.self.call c.take-taking.result t o d.1 d.2)
