use Rattle.handle_model.specs.declared.entry.Entry.TheVariants.{End}
use Rattle.replay_groups.proofs.Keeping.{settled_is, end_step, runs_at, runs_goes}
use Rattle.replay_groups.proofs.groups.Groups.end.Goals as goal

pub end_at-requires-clause-runs : goal.end_at-requires-clause-runs
end_at-requires-clause-runs c = (runs_at c.args.self.now c.args.id c.args.call c.args.results c.requires.there c.requires.runs).0

pub end_at-requires-clause-suit : goal.end_at-requires-clause-suit
end_at-requires-clause-suit c = (runs_at c.args.self.now c.args.id c.args.call c.args.results c.requires.there c.requires.runs).1

pub returns : goal.returns
returns c =
    let d = c.end_at.ensures in
    settled_is c.args.self.now c.end_at.new.self c.args.id (End c.args.call c.args.results c.args.said) d.0 c.end_at.result c.requires.there
    (runs_goes c.args.self.now c.args.id c.args.call c.args.results c.requires.there c.requires.runs) (end_step c.args.call c.args.results c.args.said) d.1 d.2 d.3
