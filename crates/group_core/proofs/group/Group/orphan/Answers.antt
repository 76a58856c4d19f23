use Rattle.std.proofs.Common.{◌≡◌, ◌∙◌, sym, subst, true, false, refl, arith}
use Rattle.handle_model.specs.declared.entry.Entry.TheVariants.{Orphan}
use Rattle.handle_model.specs.Journal.{waits, runs}
use Rattle.handle_model.specs.History.{History}
use Rattle.handle_model.proofs.Tests.{and_left}
use Rattle.group_core.specs.declared.answer.Orphaned.TheVariants as orphaned
use Rattle.group_core.specs.Calls.{Orphans, is_orphanable}
use Rattle.group_core.proofs.Keeping.{over_room, dropped_kept, unanswered_room, unanswered_kept}
use Rattle.group_core.proofs.Telling.{waits_is, drops_is, runs_there, adds_one}
use Rattle.group_core.specs.Kept.{logged}
use Rattle.group_core.proofs.group.Group.orphan.Goals as goal

pub add-requires-clause-room : goal.add-requires-clause-room
add-requires-clause-room c =
    let j = logged c.self.inside.home c.self.inside.log in
    let w : waits j c.args.call ≡ true = sym (waits_is _ _ _ _ _ c.args.call c.self.invariant) ∙ (rw c.in-Dropped.is at c.judge_orphan-found.ensures) in
    over_room _ _ _ _ _ _ c.self.invariant w

pub invariant_of-self : goal.invariant_of-self
invariant_of-self c =
    let j = logged c.self.inside.home c.self.inside.log in
    let w : waits j c.args.call ≡ true = sym (waits_is _ _ _ _ _ c.args.call c.self.invariant) ∙ (rw c.in-Dropped.is at c.judge_orphan-found.ensures) in
    dropped_kept _ _ _ _ _ _ _ _ c.self.invariant w c.add.ensures.entries (omega (arith, c.add.ensures.spare)) c.end.ensures.rows

pub orphan-requires : goal.orphan-requires
orphan-requires c =
    let j = logged c.self.inside.home c.self.inside.log in
    let t : is_orphanable j c.args.call ≡ true = sym (drops_is _ _ _ _ _ c.args.call c.self.invariant) ∙ (rw c.in-Running.is at c.judge_orphan-found.ensures) in
    runs_there _ _ _ _ _ c.args.call c.self.invariant ∙ and_left (runs j c.args.call) _ t

pub add-requires-in-Running-clause-room : goal.add-requires-in-Running-clause-room
add-requires-in-Running-clause-room c =
    let j = logged c.self.inside.home c.self.inside.log in
    let t : is_orphanable j c.args.call ≡ true = sym (drops_is _ _ _ _ _ c.args.call c.self.invariant) ∙ (rw c.in-Running.is at c.judge_orphan-found.ensures) in
    unanswered_room _ _ _ _ _ _ c.self.invariant t

pub invariant_of-self-in-Running : goal.invariant_of-self-in-Running
invariant_of-self-in-Running c =
    let j = logged c.self.inside.home c.self.inside.log in
    let t : is_orphanable j c.args.call ≡ true = sym (drops_is _ _ _ _ _ c.args.call c.self.invariant) ∙ (rw c.in-Running.is at c.judge_orphan-found.ensures) in
    unanswered_kept _ _ _ _ _ _ _ _ c.self.invariant t c.add-in-Running.ensures.entries (omega (arith, c.add-in-Running.ensures.spare)) c.orphan.ensures.rows

pub returns-in-Dropped : goal.returns-in-Dropped
returns-in-Dropped c =
    let j = logged c.self.inside.home c.self.inside.log in
    let w : waits j c.args.call ≡ true = sym (waits_is _ _ _ _ _ c.args.call c.self.invariant) ∙ (rw c.in-Dropped.is at c.judge_orphan-found.ensures) in
    rw c.in-Dropped.is
    (subst (λ (h : History). Orphans h c.args.call orphaned.Dropped (logged c.self.inside.home c.add.new.self)) c.self.view_is
    (w, adds_one c.self.inside.home c.self.inside.log c.add.new.self (Orphan c.args.call) c.add.ensures.entries))

pub returns-in-Running : goal.returns-in-Running
returns-in-Running c =
    let j = logged c.self.inside.home c.self.inside.log in
    let t : is_orphanable j c.args.call ≡ true = sym (drops_is _ _ _ _ _ c.args.call c.self.invariant) ∙ (rw c.in-Running.is at c.judge_orphan-found.ensures) in
    rw c.in-Running.is
    (subst (λ (h : History). Orphans h c.args.call orphaned.Running (logged c.self.inside.home c.add-in-Running.new.self)) c.self.view_is
    (t, adds_one c.self.inside.home c.self.inside.log c.add-in-Running.new.self (Orphan c.args.call) c.add-in-Running.ensures.entries))

pub returns-in-Late : goal.returns-in-Late
returns-in-Late c =
    let j = logged c.self.inside.home c.self.inside.log in
    let v = rw c.in-Late.is at c.judge_orphan-found.ensures in
    let w : waits j c.args.call ≡ false = sym (waits_is _ _ _ _ _ c.args.call c.self.invariant) ∙ v.0 in
    let t : is_orphanable j c.args.call ≡ false = sym (drops_is _ _ _ _ _ c.args.call c.self.invariant) ∙ v.1 in
    rw c.in-Late.is (subst (λ (h : History). Orphans h c.args.call orphaned.Late h) c.self.view_is (w, t, refl))
