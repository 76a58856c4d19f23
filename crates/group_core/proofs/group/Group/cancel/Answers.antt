use Rattle.std.proofs.Common.{◌≡◌, ◌∙◌, sym, subst, true, false, refl, arith}
use Rattle.handle_model.specs.declared.entry.Entry.TheVariants.{Cancel}
use Rattle.handle_model.specs.Journal.{waits, runs}
use Rattle.handle_model.specs.History.{History}
use Rattle.handle_model.proofs.Tests.{and_left}
use Rattle.call_table.proofs.Calls.{runs_taken, taken_within}
use Rattle.group_core.specs.declared.answer.Cancelled.TheVariants as cancelled
use Rattle.group_core.specs.Calls.{Cancels, is_cancellable}
use Rattle.group_core.proofs.Owing.{waits_untaken}
use Rattle.group_core.proofs.Keeping.{over_room, ended_kept, flagged_room, flagged_kept}
use Rattle.group_core.proofs.Telling.{waits_is, tells_is, runs_there, adds_one}
use Rattle.group_core.specs.Kept.{logged}
use Rattle.group_core.proofs.group.Group.cancel.Goals as goal

pub add-requires-clause-room : goal.add-requires-clause-room
add-requires-clause-room g c =
    let j = logged c.self.inside.home c.self.inside.log in
    let w : waits j c.args.call ≡ true = sym (waits_is _ _ _ _ _ c.args.call c.self.invariant) ∙ (rw c.in-Ended.is at c.judge_cancel-found.ensures) in
    over_room _ _ _ _ _ _ c.self.invariant w

pub add-requires-clause-quiet : goal.add-requires-clause-quiet
add-requires-clause-quiet g c =
    let j = logged c.self.inside.home c.self.inside.log in
    let w : waits j c.args.call ≡ true = sym (waits_is _ _ _ _ _ c.args.call c.self.invariant) ∙ (rw c.in-Ended.is at c.judge_cancel-found.ensures) in
    rw (waits_untaken j c.args.call w) refl

pub invariant_of-self : goal.invariant_of-self
invariant_of-self g c =
    let j = logged c.self.inside.home c.self.inside.log in
    let w : waits j c.args.call ≡ true = sym (waits_is _ _ _ _ _ c.args.call c.self.invariant) ∙ (rw c.in-Ended.is at c.judge_cancel-found.ensures) in
    ended_kept _ _ _ _ _ _ _ _ c.self.invariant w c.add.ensures.entries (omega (arith, c.add.ensures.spare)) c.end_counted.ensures.rows

pub cancel-requires : goal.cancel-requires
cancel-requires g c =
    let j = logged c.self.inside.home c.self.inside.log in
    let t : is_cancellable j c.args.call ≡ true = sym (tells_is _ _ _ _ _ c.args.call c.self.invariant) ∙ (rw c.in-Flagged.is at c.judge_cancel-found.ensures) in
    runs_there _ _ _ _ _ c.args.call c.self.invariant ∙ and_left (runs j c.args.call) _ t

pub flag-requires-clause-room : goal.flag-requires-clause-room
flag-requires-clause-room g c =
    let j = logged c.self.inside.home c.self.inside.log in
    let t : is_cancellable j c.args.call ≡ true = sym (tells_is _ _ _ _ _ c.args.call c.self.invariant) ∙ (rw c.in-Flagged.is at c.judge_cancel-found.ensures) in
    flagged_room _ _ _ _ _ _ c.self.invariant t

pub flag-requires-clause-taken : goal.flag-requires-clause-taken
flag-requires-clause-taken g c =
    let j = logged c.self.inside.home c.self.inside.log in
    let t : is_cancellable j c.args.call ≡ true = sym (tells_is _ _ _ _ _ c.args.call c.self.invariant) ∙ (rw c.in-Flagged.is at c.judge_cancel-found.ensures) in
    runs_taken j c.args.call (and_left (runs j c.args.call) _ t)

pub flag-requires-clause-known : goal.flag-requires-clause-known
flag-requires-clause-known g c =
    let j = logged c.self.inside.home c.self.inside.log in
    let t : is_cancellable j c.args.call ≡ true = sym (tells_is _ _ _ _ _ c.args.call c.self.invariant) ∙ (rw c.in-Flagged.is at c.judge_cancel-found.ensures) in
    taken_within j c.args.call c.self.invariant.sound.legal (runs_taken j c.args.call (and_left (runs j c.args.call) _ t))

pub invariant_of-self-in-Flagged : goal.invariant_of-self-in-Flagged
invariant_of-self-in-Flagged g c =
    let j = logged c.self.inside.home c.self.inside.log in
    let t : is_cancellable j c.args.call ≡ true = sym (tells_is _ _ _ _ _ c.args.call c.self.invariant) ∙ (rw c.in-Flagged.is at c.judge_cancel-found.ensures) in
    flagged_kept _ _ _ _ _ _ _ _ c.self.invariant t c.flag.ensures.entries (omega (arith, c.flag.ensures.spare)) c.cancel.ensures.rows

pub returns-in-Ended-clause-call : goal.returns-in-Ended-clause-call
returns-in-Ended-clause-call g c =
    let j = logged c.self.inside.home c.self.inside.log in
    let w : waits j c.args.call ≡ true = sym (waits_is _ _ _ _ _ c.args.call c.self.invariant) ∙ (rw c.in-Ended.is at c.judge_cancel-found.ensures) in
    rw c.in-Ended.is
    (subst (λ (h : History). Cancels h c.args.call cancelled.Ended (logged c.self.inside.home c.add.new.self)) c.self.view_is
    (w, adds_one c.self.inside.home c.self.inside.log c.add.new.self (Cancel c.args.call) c.add.ensures.entries))

pub returns-in-Flagged-clause-call : goal.returns-in-Flagged-clause-call
returns-in-Flagged-clause-call g c =
    let j = logged c.self.inside.home c.self.inside.log in
    let t : is_cancellable j c.args.call ≡ true = sym (tells_is _ _ _ _ _ c.args.call c.self.invariant) ∙ (rw c.in-Flagged.is at c.judge_cancel-found.ensures) in
    rw c.in-Flagged.is
    (subst (λ (h : History). Cancels h c.args.call cancelled.Flagged (logged c.self.inside.home c.flag.new.self)) c.self.view_is
    (t, adds_one c.self.inside.home c.self.inside.log c.flag.new.self (Cancel c.args.call) c.flag.ensures.entries))

pub returns-in-Late-clause-call : goal.returns-in-Late-clause-call
returns-in-Late-clause-call g c =
    let j = logged c.self.inside.home c.self.inside.log in
    let v = rw c.in-Late.is at c.judge_cancel-found.ensures in
    let w : waits j c.args.call ≡ false = sym (waits_is _ _ _ _ _ c.args.call c.self.invariant) ∙ v.0 in
    let t : is_cancellable j c.args.call ≡ false = sym (tells_is _ _ _ _ _ c.args.call c.self.invariant) ∙ v.1 in
    rw c.in-Late.is (subst (λ (h : History). Cancels h c.args.call cancelled.Late h) c.self.view_is (w, t, refl))
