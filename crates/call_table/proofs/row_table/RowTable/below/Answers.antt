use Rattle.std.proofs.Common.{sym, subst}
use Rattle.call_table.specs.Kept.{Rises}
use Rattle.call_table.specs.Sought.{IsPlace}
use Rattle.call_table.proofs.Keyed.{keys_rise, place_in}
use Rattle.call_table.proofs.row_table.RowTable.below.Goals as goal

pub below-requires : goal.below-requires
below-requires c =
    keys_rise 0 c.self.inside.rows c.self.inside.index.items c.self.invariant.stand (subst (λ v. Rises 0 v.items) (sym c.self.view_is) c.requires)

pub returns : goal.returns
returns c =
    subst (λ v. IsPlace v.items c.args.call c.below.result) c.self.view_is
    (place_in c.self.inside.rows c.self.inside.index.items c.args.call c.below.result c.self.invariant.stand c.below.ensures)
