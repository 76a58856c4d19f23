use Rattle.std.proofs.Common.{◌≡◌, ◌∷◌, ap, subst, arith, rules}
use denote.Param.Weighed.{most}
use Rattle.idl_tree.proofs.spec.Attr.TheLaws.{the_size}
use Rattle.idl_tree.specs.Trees.{spec_pieces, attr_pieces, member_pieces, arm_pieces}
use Rattle.idl_print.specs.Prints.{Prints}
use Rattle.idl_print.proofs.Printing.{each_step, comma_step, prints_join}
use Rattle.idl_print.proofs.types.+specs.Goals as goal

pub members-loop-one-preserved : goal.members-loop-one-preserved
members-loop-one-preserved t c = each_step member_pieces _ _ _ _ _ _ (omega arith) c.one-item.is c.loop-one.invariant c.in_ok-member.ensures

pub arms-loop-one-preserved : goal.arms-loop-one-preserved
arms-loop-one-preserved t c = each_step arm_pieces _ _ _ _ _ _ (omega arith) c.one-item.is c.loop-one.invariant c.in_ok-arm.ensures

pub more_attrs-loop-one-preserved : goal.more_attrs-loop-one-preserved
more_attrs-loop-one-preserved t c = comma_step attr_pieces _ _ _ _ _ _ _ (omega arith) c.one-item.is c.loop-one.invariant c.in_ok-mark.ensures c.in_ok-attr.ensures

pub attrs-more_attrs-requires : goal.attrs-more_attrs-requires
attrs-more_attrs-requires t c =
    let cut : c.args.attrs.now ≡ c.in-Some.first.now ∷ c.in-Some.others.now = search rules in
    let least = ap (most (λ x. the_size x)) cut in
    search (rules, least)

pub switch-returns : goal.switch-returns
switch-returns t c =
    let own = subst (λ s. Prints (spec_pieces s) c.open.new.page c.spec.new.page) c.deref.ensures c.in_ok-spec.ensures in
    let inside = prints_join _ _ _ _ _ own c.in_ok-name.ensures in
    let round = prints_join _ _ _ _ _ c.in_ok-open.ensures (prints_join _ _ _ _ _ inside c.in_ok-shut.ensures) in
    prints_join _ _ _ _ _ c.in_ok-word.ensures (prints_join _ _ _ _ _ round c.in_ok-name_if.ensures)
