use Rattle.std.proofs.Common.{◌≡◌, ◌∙◌, ap, subst, true}
use Rattle.handle_model.specs.declared.entry.Entry.TheVariants.{Leave}
use Rattle.handle_model.specs.Journal.{is_open}
use Rattle.handle_model.specs.History.{History}
use Rattle.group_core.specs.Conns.{Settles}
use Rattle.group_core.proofs.Going.{leave_room, leave_mid, mid_room, closed_kept, closed_settles}
use Rattle.group_core.specs.Kept.{logged}
use Rattle.group_core.proofs.group.Group.leave.Goals as goal

pub add-requires-clause-room : goal.add-requires-clause-room
add-requires-clause-room c =
    let o : is_open (logged c.self.inside.home c.self.inside.log) c.args.conn ≡ true = ap (λ h. is_open h c.args.conn) c.self.view_is ∙ c.requires in
    leave_room _ _ c.args.conn _ _ _ c.self.invariant o c.leave-freed.result (rw c.leave-freed.ensures.rows at c.leave-freed.ensures.freed)

pub close-requires : goal.close-requires
close-requires c =
    let o : is_open (logged c.self.inside.home c.self.inside.log) c.args.conn ≡ true = ap (λ h. is_open h c.args.conn) c.self.view_is ∙ c.requires in
    let mid = leave_mid c.self.inside.home c.self.inside.log c.add.new.self c.args.conn c.self.inside.handles c.self.inside.calls c.leave-freed.new.self
    c.self.inside.counts c.leave.new.self c.leave-freed.result c.self.invariant o c.add.ensures.entries c.leave-freed.ensures.freed c.add.ensures.spare c.leave-freed.ensures.rows c.leave.ensures.conns in
    mid_room _ _ _ _ _ _ _ mid

pub invariant_of-self : goal.invariant_of-self
invariant_of-self c =
    let o : is_open (logged c.self.inside.home c.self.inside.log) c.args.conn ≡ true = ap (λ h. is_open h c.args.conn) c.self.view_is ∙ c.requires in
    let mid = leave_mid c.self.inside.home c.self.inside.log c.add.new.self c.args.conn c.self.inside.handles c.self.inside.calls c.leave-freed.new.self
    c.self.inside.counts c.leave.new.self c.leave-freed.result c.self.invariant o c.add.ensures.entries c.leave-freed.ensures.freed c.add.ensures.spare c.leave-freed.ensures.rows c.leave.ensures.conns in
    closed_kept _ _ _ _ _ _ _ _ _ _ mid (rw c.any_runs-running.ensures at c.close.ensures)

pub returns : goal.returns
returns c =
    let o : is_open (logged c.self.inside.home c.self.inside.log) c.args.conn ≡ true = ap (λ h. is_open h c.args.conn) c.self.view_is ∙ c.requires in
    let mid = leave_mid c.self.inside.home c.self.inside.log c.add.new.self c.args.conn c.self.inside.handles c.self.inside.calls c.leave-freed.new.self
    c.self.inside.counts c.leave.new.self c.leave-freed.result c.self.invariant o c.add.ensures.entries c.leave-freed.ensures.freed c.add.ensures.spare c.leave-freed.ensures.rows c.leave.ensures.conns in
    subst (λ (h : History). Settles h (Leave c.args.conn) c.close.result (logged c.self.inside.home c.close.new.log)) c.self.view_is
    (closed_settles _ _ _ _ _ _ _ _ _ _ mid (rw c.any_runs-running.ensures at c.close.ensures))
