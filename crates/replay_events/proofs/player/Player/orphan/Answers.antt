use Rattle.std.proofs.Common.{subst, sym, ap, ◌∙◌, Option}
use Rattle.conn_asks.specs.declared.events.Act.TheVariants as acts
use Rattle.replay_events.specs.declared.played.Kept.{Kept}
use Rattle.replay_events.specs.Marked.{with_orphan}
use Rattle.replay_events.specs.Lived.{Means}
use Rattle.replay_events.proofs.Offing.{low_orphan, orphans}
use Rattle.replay_events.proofs.player.Player.orphan.Goals as goal

pub orphaned-requires-clause-low : goal.orphaned-requires-clause-low
orphaned-requires-clause-low c = low_orphan c.args.self.now c.args.played.now c.in-Some.member c.in-Call.call c.in-Some.is c.in-Call.is c.requires.0 c.requires.1

pub returns : goal.returns
returns c id =
    let x = c.args.self.now in
    let t = c.args.played.now in
    subst (λ (o : Option Kept). Means (acts.Orphan id) x t (record x { realm = c.orphaned.new.realm; told = c.in_ok-told.told }) (record t { call = o })) (sym (c.with_orphan.ensures ∙ ap (with_orphan c.in_ok-told.now) c.take-kept.ensures.value))
    (orphans x t c.in-Some.member c.in-Call.call c.in-Some.is c.in-Call.is id c.orphaned.new.realm c.in_ok-told.told c.in_ok-told.now c.in_ok-told.ensures)
