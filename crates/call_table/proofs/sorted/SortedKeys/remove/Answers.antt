use Rattle.std.proofs.Common.{◌+◌, sym, ◌∙◌, ap, subst, arith}
use Rattle.std.specs.List.Sorted.{IsNonDecreasing}
use Rattle.call_table.specs.Sorted.{one, held}
use Rattle.call_table.proofs.Ordered.{found, sorted_remove, held_remove}
use Rattle.call_table.proofs.sorted.SortedKeys.remove.Goals as goal

pub unwrap-requires : goal.unwrap-requires
unwrap-requires c =
    let same = ap (λ v. held c.args.key v.keys) c.self.view_is in
    let at = found c.self.inside.keys.items c.args.key c.below-at.result c.self.invariant.rise c.below-at.ensures (omega (arith, c.requires, same)) in
    c.remove.ensures.variant.1 (omega (arith, at.within))

pub invariant_of-self : goal.invariant_of-self
invariant_of-self c =
    let same = ap (λ v. held c.args.key v.keys) c.self.view_is in
    let at = found c.self.inside.keys.items c.args.key c.below-at.result c.self.invariant.rise c.below-at.ensures (omega (arith, c.requires, same)) in
    let places = c.self.invariant.places in
    let len = rw c.unwrap.ensures at c.remove.ensures.len in
    let items = rw c.unwrap.ensures at c.remove.ensures.items in
    let cap = c.remove.ensures.capacity in
    record {
      rise = subst IsNonDecreasing (sym items) (sorted_remove c.self.inside.keys.items c.below-at.result at.within c.self.invariant.rise);
      places = omega arith;
    }

pub returns-clause-keys : goal.returns-clause-keys
returns-clause-keys c n =
    let same = ap (λ v. held c.args.key v.keys) c.self.view_is in
    let at = found c.self.inside.keys.items c.args.key c.below-at.result c.self.invariant.rise c.below-at.ensures (omega (arith, c.requires, same)) in
    let items = rw c.unwrap.ensures at c.remove.ensures.items in
    ap (λ ks. held n ks + one n c.args.key) items
    ∙ (held_remove n c.args.key c.below-at.result c.self.inside.keys.items at ∙ ap (λ v. held n v.keys) c.self.view_is)
