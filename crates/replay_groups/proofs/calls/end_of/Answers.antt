use Rattle.std.proofs.Common.{rules, subst, List}
use Rattle.handle_model.specs.declared.entry.Outcome.{Outcome}
use Rattle.handle_model.specs.declared.entry.Entry.TheVariants.{End}
use Rattle.replay_script.specs.Counting.{Adds}
use Rattle.group_core.specs.Conns.{Settles}
use Rattle.replay_groups.proofs.calls.end_of.Goals as goal

pub returns-clause-counted : goal.returns-clause-counted
returns-clause-counted c =
    let settles : Settles c.args.group.now (End c.args.call c.args.results c.args.said) c.end-rest.result c.end-rest.new.self = search rules in (
      c.ended.new.self,
      subst (λ (rs : List Outcome). Adds (End c.args.call rs c.args.said) c.args.counts.now c.ended.new.self) c.as_slice.ensures (c.ended.ensures c.args.call c.args.said),
      c.count_rest.ensures c.args.group.now (End c.args.call c.args.results c.args.said) settles,
    )
