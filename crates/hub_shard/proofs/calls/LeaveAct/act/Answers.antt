use Rattle.std.proofs.Common.{refl}
use Rattle.handle_model.specs.declared.entry.Entry.TheVariants as entry
use Rattle.hub_shard.proofs.TellLemmas.{opened_has}
use Rattle.hub_shard.proofs.CallLemmas.{acts_stay, acts_shut, open_there}
use Rattle.hub_shard.proofs.calls.LeaveAct.act.Goals as goal

pub leave-requires-clause-there : goal.leave-requires-clause-there
leave-requires-clause-there c = opened_has c.args.shard.now c.requires.0 c.args.self.group c.requires.1 c.requires.2.0

pub leave-requires-clause-open : goal.leave-requires-clause-open
leave-requires-clause-open c = open_there c.args.shard.now c.requires.0 c.args.self.group c.requires.1 c.requires.2.0 c.args.self.conn c.requires.2.1

pub returns-in-Stays : goal.returns-in-Stays
returns-in-Stays c = λ log t o.
    let d = c.in-Stays.ensures in
    acts_stay c.args.shard.now c.leave.new.self log c.args.self.group d.0 (entry.Leave c.args.self.conn) (λ z. refl) t o.0 d.1 d.2

pub returns-in-Shut : goal.returns-in-Shut
returns-in-Shut c = λ log t o.
    let d = c.in-Shut.ensures in
    acts_shut c.args.shard.now c.leave.new.self log c.args.self.group d.0 (entry.Leave c.args.self.conn) c.in-Shut.due c.args.self.group refl (λ z. refl) t o.0 d.1 d.2
