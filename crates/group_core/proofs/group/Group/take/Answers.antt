use Rattle.std.proofs.Common.{◌∙◌, ap, sym, subst, refl, List, Option, ℕ, [], ◌∷◌, ◌++◌, arith}
use Rattle.handle_model.specs.declared.entry.Entry.TheVariants.{Take}
use Rattle.handle_model.specs.Journal.{cookies_for, slots}
use Rattle.handle_model.specs.History.{History}
use Rattle.group_core.specs.declared.answer.Taking.TheVariants as taking
use Rattle.group_core.specs.declared.judge.Judged.TheVariants.{Free, AtFault, Blocked, NotWaiting}
use Rattle.group_core.specs.Calls.{Takes}
use Rattle.group_core.proofs.Keeping.{take_room, take_kept, over_room, deny_kept}
use Rattle.group_core.proofs.Telling.{waits_is, waits_there, few_there, few_blanks, judged, handed, adds_one}
use Rattle.group_core.specs.Kept.{logged, Came}
use Rattle.group_core.proofs.group.Group.take.Goals as goal

pub judge-judged-requires-clause-waits : goal.judge-judged-requires-clause-waits
judge-judged-requires-clause-waits c =
    λ h. waits_there _ _ _ _ _ c.args.call c.self.invariant ∙ (sym (waits_is _ _ _ _ _ c.args.call c.self.invariant) ∙ h)

pub judge-judged-requires-clause-few : goal.judge-judged-requires-clause-few
judge-judged-requires-clause-few c = few_there _ _ _ _ _ c.args.call c.self.invariant

pub start-requires : goal.start-requires
start-requires c =
    let v = judged c.self.inside.home c.self.inside.log c.self.inside.handles c.self.inside.calls c.self.inside.counts c.args.call (Free c.in-Free.row c.in-Free.serial) c.self.invariant (rw c.in-Free.is at c.judge-judged.ensures) in
    waits_there _ _ _ _ _ c.args.call c.self.invariant ∙ v.0.0

pub entered-cookies-requires : goal.entered-cookies-requires
entered-cookies-requires c =
    let v = judged c.self.inside.home c.self.inside.log c.self.inside.handles c.self.inside.calls c.self.inside.counts c.args.call (Free c.in-Free.row c.in-Free.serial) c.self.invariant (rw c.in-Free.is at c.judge-judged.ensures) in
    few_blanks _ _ _ _ _ c.args.call c.start.result c.self.invariant v.0.0 c.start.ensures.cookies

pub add-requires-clause-room : goal.add-requires-clause-room
add-requires-clause-room c =
    let v = judged c.self.inside.home c.self.inside.log c.self.inside.handles c.self.inside.calls c.self.inside.counts c.args.call (Free c.in-Free.row c.in-Free.serial) c.self.invariant (rw c.in-Free.is at c.judge-judged.ensures) in
    take_room _ _ _ _ _ _ c.self.invariant v.0.0

pub invariant_of-self : goal.invariant_of-self
invariant_of-self c =
    let j = logged c.self.inside.home c.self.inside.log in
    let cs = cookies_for j (slots j c.args.call) in
    let v = judged c.self.inside.home c.self.inside.log c.self.inside.handles c.self.inside.calls c.self.inside.counts c.args.call (Free c.in-Free.row c.in-Free.serial) c.self.invariant (rw c.in-Free.is at c.judge-judged.ensures) in
    let cookies = handed _ _ _ _ _ c.args.call c.in-Free.row c.start.result c.entered-cookies.result c.self.invariant v.0.0 v.1 c.start.ensures.cookies c.entered-cookies.ensures in
    let entries : Came c.self.inside.log (Take c.args.call (cookies_for (logged c.self.inside.home c.self.inside.log) (slots (logged c.self.inside.home c.self.inside.log) c.args.call))) c.add.new.self = (c.add.ensures.entries.0, c.add.ensures.entries.1 ∙ ap (λ (os : List (Option ℕ)). c.self.inside.log.entries ++ Take c.args.call os ∷ []) cookies) in
    take_kept c.self.inside.home c.self.inside.log c.add.new.self c.args.call cs c.self.inside.handles c.self.inside.calls c.start.new.self
    c.self.inside.counts c.self.invariant v.0 entries (omega (arith, c.add.ensures.spare)) c.start.ensures.rows

pub add-requires-in-AtFault-clause-room : goal.add-requires-in-AtFault-clause-room
add-requires-in-AtFault-clause-room c =
    let v = judged c.self.inside.home c.self.inside.log c.self.inside.handles c.self.inside.calls c.self.inside.counts c.args.call (AtFault c.in-AtFault.slot) c.self.invariant (rw c.in-AtFault.is at c.judge-judged.ensures) in
    over_room _ _ _ _ _ _ c.self.invariant v.0

pub invariant_of-self-in-AtFault : goal.invariant_of-self-in-AtFault
invariant_of-self-in-AtFault c =
    let v = judged c.self.inside.home c.self.inside.log c.self.inside.handles c.self.inside.calls c.self.inside.counts c.args.call (AtFault c.in-AtFault.slot) c.self.invariant (rw c.in-AtFault.is at c.judge-judged.ensures) in
    deny_kept _ _ _ _ _ _ _ _ _ c.self.invariant v c.add-in-AtFault.ensures.entries (omega (arith, c.add-in-AtFault.ensures.spare)) c.end.ensures.rows

pub returns-in-Free : goal.returns-in-Free
returns-in-Free c =
    let v = judged c.self.inside.home c.self.inside.log c.self.inside.handles c.self.inside.calls c.self.inside.counts c.args.call (Free c.in-Free.row c.in-Free.serial) c.self.invariant (rw c.in-Free.is at c.judge-judged.ensures) in
    let cookies = handed _ _ _ _ _ c.args.call c.in-Free.row c.start.result c.entered-cookies.result c.self.invariant v.0.0 v.1 c.start.ensures.cookies c.entered-cookies.ensures in
    let entries : Came c.self.inside.log (Take c.args.call (cookies_for (logged c.self.inside.home c.self.inside.log) (slots (logged c.self.inside.home c.self.inside.log) c.args.call))) c.add.new.self = (c.add.ensures.entries.0, c.add.ensures.entries.1 ∙ ap (λ (os : List (Option ℕ)). c.self.inside.log.entries ++ Take c.args.call os ∷ []) cookies) in
    subst (λ (h : History). Takes h c.args.call (taking.Run c.in-Free.row c.in-Free.serial) (logged c.self.inside.home c.add.new.self)) c.self.view_is
    (v.0.0, v.0.1, v.0.2, v.1, v.2, adds_one c.self.inside.home c.self.inside.log c.add.new.self _ entries)

pub returns-in-AtFault : goal.returns-in-AtFault
returns-in-AtFault c =
    let v = judged c.self.inside.home c.self.inside.log c.self.inside.handles c.self.inside.calls c.self.inside.counts c.args.call (AtFault c.in-AtFault.slot) c.self.invariant (rw c.in-AtFault.is at c.judge-judged.ensures) in
    subst (λ (h : History). Takes h c.args.call (taking.Denied c.in-AtFault.slot) (logged c.self.inside.home c.add-in-AtFault.new.self)) c.self.view_is
    (v.0, v.1, v.2, adds_one c.self.inside.home c.self.inside.log c.add-in-AtFault.new.self _ c.add-in-AtFault.ensures.entries)

pub returns-in-Blocked : goal.returns-in-Blocked
returns-in-Blocked c =
    let v = judged c.self.inside.home c.self.inside.log c.self.inside.handles c.self.inside.calls c.self.inside.counts c.args.call (Blocked c.in-Blocked.other) c.self.invariant (rw c.in-Blocked.is at c.judge-judged.ensures) in
    subst (λ (h : History). Takes h c.args.call (taking.Wait c.in-Blocked.other) h) c.self.view_is (v.0, v.1, refl)

pub returns-in-NotWaiting : goal.returns-in-NotWaiting
returns-in-NotWaiting c =
    let v = judged c.self.inside.home c.self.inside.log c.self.inside.handles c.self.inside.calls c.self.inside.counts c.args.call NotWaiting c.self.invariant (rw c.in-NotWaiting.is at c.judge-judged.ensures) in
    subst (λ (h : History). Takes h c.args.call taking.Dropped h) c.self.view_is (v, refl)
