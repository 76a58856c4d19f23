use Rattle.std.proofs.Common.{refl}
use Rattle.handle_model.specs.declared.entry.Entry.TheVariants as entry
use Rattle.hub_shard.proofs.TellLemmas.{opened_has}
use Rattle.hub_shard.proofs.CallLemmas.{acts_stay, acts_shut, runs_there, suit_there}
use Rattle.hub_shard.proofs.calls.EndAct.act.Goals as goal

pub end-requires-clause-there : goal.end-requires-clause-there
end-requires-clause-there c = opened_has c.args.shard.now c.requires.0 c.args.self.group c.requires.1 c.requires.2.0

pub end-requires-clause-runs : goal.end-requires-clause-runs
end-requires-clause-runs c = runs_there c.args.shard.now c.requires.0 c.args.self.group c.requires.1 c.requires.2.0 c.args.self.call c.requires.2.1

pub end-requires-clause-suit : goal.end-requires-clause-suit
end-requires-clause-suit c = suit_there c.args.shard.now c.requires.0 c.args.self.group c.requires.1 c.requires.2.0 c.args.self.call c.args.self.results c.requires.2.1 c.requires.2.2

pub returns-in-Stays : goal.returns-in-Stays
returns-in-Stays c = λ log t o.
    let d = c.in-Stays.ensures in
    acts_stay c.args.shard.now c.end.new.self log c.args.self.group d.0 (entry.End c.args.self.call c.args.self.results c.args.self.said) (λ z. refl) t o.0 d.1 d.2

pub returns-in-Shut : goal.returns-in-Shut
returns-in-Shut c = λ log t o.
    let d = c.in-Shut.ensures in
    acts_shut c.args.shard.now c.end.new.self log c.args.self.group d.0 (entry.End c.args.self.call c.args.self.results c.args.self.said) c.in-Shut.due c.args.self.group refl (λ z. refl) t o.0 d.1 d.2
