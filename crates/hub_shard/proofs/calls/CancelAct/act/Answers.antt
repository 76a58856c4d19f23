use Rattle.std.proofs.Common.{sym, subst}
use Rattle.hub_shard.specs.Shards.{Acted}
use Rattle.hub_shard.specs.Answers.{gives_cancel}
use Rattle.hub_shard.proofs.TellLemmas.{opened_has}
use Rattle.hub_shard.proofs.CallLemmas.{acts_cancel}
use Rattle.hub_shard.proofs.calls.CancelAct.act.Goals as goal

pub cancel-cancelled-requires : goal.cancel-cancelled-requires
cancel-cancelled-requires c = opened_has c.args.shard.now c.requires.0 c.args.self.group c.requires.1 c.requires.2.0

pub returns : goal.returns
returns c = λ log t o.
    let d = c.cancel-cancelled.ensures in
    subst (λ n. Acted c.args.shard.now c.cancel-cancelled.new.self log n (gives_cancel c.args.self c.args.shard.now.boot c.args.shard.now.number log c.cancel-cancelled.result)) (sym c.entries_marked-added.ensures)
    (acts_cancel c.args.shard.now c.cancel-cancelled.new.self log c.args.self.group d.0 c.args.self.call c.cancel-cancelled.result t o d.1 d.2)
