use Rattle.std.proofs.Common.{◌≡◌, ◌∙◌, ap, subst, true, arith}
use Rattle.handle_model.specs.declared.entry.Entry.TheVariants.{End}
use Rattle.handle_model.specs.Journal.{runs, suit, slots}
use Rattle.handle_model.specs.History.{History}
use Rattle.group_core.specs.Conns.{Settles}
use Rattle.group_core.proofs.Telling.{left_is}
use Rattle.group_core.proofs.Going.{end_room, end_issues, end_mid, mid_room, closed_kept, closed_settles}
use Rattle.group_core.specs.Kept.{logged}
use Rattle.group_core.proofs.group.Group.end.Goals as goal

pub settle-freed-requires : goal.settle-freed-requires
settle-freed-requires c =
    let j = logged c.self.inside.home c.self.inside.log in
    let r : runs j c.args.call ≡ true = ap (λ h. runs h c.args.call) c.self.view_is ∙ c.requires.runs in
    let s : suit (slots j c.args.call) c.args.results ≡ true = ap (λ h. suit (slots h c.args.call) c.args.results) c.self.view_is ∙ c.requires.suit in
    rw c.as_slice.ensures (end_issues _ _ c.args.call _ _ _ _ c.self.invariant r s)

pub add-requires-clause-room : goal.add-requires-clause-room
add-requires-clause-room c =
    let j = logged c.self.inside.home c.self.inside.log in
    let r : runs j c.args.call ≡ true = ap (λ h. runs h c.args.call) c.self.view_is ∙ c.requires.runs in
    let freed = c.settle-freed.ensures.freed ∙ left_is _ _ _ _ _ c.args.call c.self.invariant r in
    omega (arith, freed, end_room _ _ c.args.call c.args.results c.args.said _ _ _ c.self.invariant r)

pub close-requires : goal.close-requires
close-requires c =
    let j = logged c.self.inside.home c.self.inside.log in
    let r : runs j c.args.call ≡ true = ap (λ h. runs h c.args.call) c.self.view_is ∙ c.requires.runs in
    let s : suit (slots j c.args.call) c.args.results ≡ true = ap (λ h. suit (slots h c.args.call) c.args.results) c.self.view_is ∙ c.requires.suit in
    let freed = c.settle-freed.ensures.freed ∙ left_is _ _ _ _ _ c.args.call c.self.invariant r in
    let items = rw c.as_slice.ensures at c.settle-freed.ensures.items in
    let room = rw c.as_slice.ensures at c.settle-freed.ensures.room in
    let mid = end_mid c.self.inside.home c.self.inside.log c.add.new.self c.args.call c.args.results c.args.said c.settle-freed.result c.self.inside.handles
    c.settle-freed.new.handles c.self.inside.calls c.settle-freed.new.calls c.self.inside.counts c.self.invariant (r, s) c.add.ensures.entries freed
    c.add.ensures.spare c.settle-freed.ensures.home items room c.settle-freed.ensures.rows in
    mid_room _ _ _ _ _ _ _ mid

pub invariant_of-self : goal.invariant_of-self
invariant_of-self c =
    let j = logged c.self.inside.home c.self.inside.log in
    let r : runs j c.args.call ≡ true = ap (λ h. runs h c.args.call) c.self.view_is ∙ c.requires.runs in
    let s : suit (slots j c.args.call) c.args.results ≡ true = ap (λ h. suit (slots h c.args.call) c.args.results) c.self.view_is ∙ c.requires.suit in
    let freed = c.settle-freed.ensures.freed ∙ left_is _ _ _ _ _ c.args.call c.self.invariant r in
    let items = rw c.as_slice.ensures at c.settle-freed.ensures.items in
    let room = rw c.as_slice.ensures at c.settle-freed.ensures.room in
    let mid = end_mid c.self.inside.home c.self.inside.log c.add.new.self c.args.call c.args.results c.args.said c.settle-freed.result c.self.inside.handles
    c.settle-freed.new.handles c.self.inside.calls c.settle-freed.new.calls c.self.inside.counts c.self.invariant (r, s) c.add.ensures.entries freed
    c.add.ensures.spare c.settle-freed.ensures.home items room c.settle-freed.ensures.rows in
    closed_kept _ _ _ _ _ _ _ _ _ _ mid (rw c.any_runs-running.ensures at c.close.ensures)

pub returns : goal.returns
returns c =
    let j = logged c.self.inside.home c.self.inside.log in
    let r : runs j c.args.call ≡ true = ap (λ h. runs h c.args.call) c.self.view_is ∙ c.requires.runs in
    let s : suit (slots j c.args.call) c.args.results ≡ true = ap (λ h. suit (slots h c.args.call) c.args.results) c.self.view_is ∙ c.requires.suit in
    let freed = c.settle-freed.ensures.freed ∙ left_is _ _ _ _ _ c.args.call c.self.invariant r in
    let items = rw c.as_slice.ensures at c.settle-freed.ensures.items in
    let room = rw c.as_slice.ensures at c.settle-freed.ensures.room in
    let mid = end_mid c.self.inside.home c.self.inside.log c.add.new.self c.args.call c.args.results c.args.said c.settle-freed.result c.self.inside.handles
    c.settle-freed.new.handles c.self.inside.calls c.settle-freed.new.calls c.self.inside.counts c.self.invariant (r, s) c.add.ensures.entries freed
    c.add.ensures.spare c.settle-freed.ensures.home items room c.settle-freed.ensures.rows in
    subst (λ (h : History). Settles h (End c.args.call c.args.results c.args.said) c.close.result (logged c.self.inside.home c.close.new.log)) c.self.view_is
    (closed_settles _ _ _ _ _ _ _ _ _ _ mid (rw c.any_runs-running.ensures at c.close.ensures))
