use Rattle.std.proofs.Common.{◌≡◌, ◌∙◌, ap, sym, subst, arith, rules}
use Rattle.handle_table.specs.Cells.{Climb, fresh}
use Rattle.handle_table.proofs.Started.{items_rise}
use Rattle.handle_table.proofs.Found.{climb_fresh}
use Rattle.handle_table.proofs.table.HandleTable.of.Goals as goal

pub invariant_of-result : goal.invariant_of-result
invariant_of-result c =
    let made : c.in_ok-index.index.cells ≡ fresh c.args.base.now.handles = c.in_ok-index.ensures ∙ ap fresh c.as_slice.ensures in
    let rise = items_rise c.args.base.now.opens c.args.base.now.handles c.requires.rise c.requires.counted c.requires.small in
    record {
      rises = subst (Climb 0) (sym made) (climb_fresh 0 _ rise);
      places = omega arith;
      due_places = search rules;
      given_places = search rules;
      no_due = search rules;
      no_given = search rules;
    }
