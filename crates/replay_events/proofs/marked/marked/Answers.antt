use Rattle.std.proofs.Common.{subst, sym, Bool}
use Rattle.replay_groups.specs.Holding.{Moves}
use Rattle.replay_events.specs.Marked.{MarksAs}
use Rattle.replay_events.proofs.marked.marked.Goals as goal

pub returns : goal.returns
returns c =
    subst (λ (b : Bool). Moves c.args.realm.now (MarksAs b c.args.member c.args.call c.in_ok-told.told) c.cancelled.new.realm) (sym c.if-not-cancel.false) c.in_ok-told.ensures
