use Rattle.std.proofs.Common.{◌≡◌, ◌∙◌, ap, sym, refl, arith, None}
use Rattle.std.specs.List.{list_any}
use Rattle.handle_model.specs.Journal.{is_shut}
use Rattle.handle_model.specs.History.{History}
use Rattle.handle_model.specs.Limits.{join_limit}
use Rattle.group_core.specs.Kept.{logged}
use Rattle.group_core.proofs.Limits.{join_limit_is}
use Rattle.group_core.proofs.Keeping.{place_is}
use Rattle.group_core.proofs.Joining.{unready_kept, joined_kept}
use Rattle.group_core.proofs.group.Group.join.Goals as goal

pub make_way-requires-clause-unshut : goal.make_way-requires-clause-unshut
make_way-requires-clause-unshut c = ap (λ (h : History). list_any is_shut h.past) c.self.view_is ∙ c.requires.unshut

pub invariant_of-self : goal.invariant_of-self
invariant_of-self c = unready_kept _ _ _ _ _ _ _ c.self.invariant c.in_err-make_way.ensures.err

pub invariant_of-self-2 : goal.invariant_of-self-2
invariant_of-self-2 c =
    let j = logged c.self.inside.home c.self.inside.log in
    let free : join_limit j ≡ None = sym ((rw (c.in-None.is, c.len.ensures) at c.join_limit.ensures) ∙ join_limit_is _ _ _ _ _ c.self.invariant) in
    let place = place_is c.self.inside.home c.make_way.new.log c.make_way.new.log c.size-place.result (refl, refl) (rw c.journal.ensures at c.size-place.ensures) in
    joined_kept c.self.inside.home c.self.inside.log c.make_way.new.log c.add.new.self c.self.inside.handles c.self.inside.calls c.self.inside.counts
    c.make_way.new.counts c.join.new.self c.size-place.result c.in_ok-make_way.ensures.ok free c.self.invariant.shows.joined_is place c.join.ensures.conns c.add.ensures.entries (omega (arith, c.add.ensures.spare))
