use Rattle.std.proofs.Common.{sym, subst}
use Rattle.handle_table.specs.Cells.{Climb, IsPlace}
use Rattle.handle_table.proofs.Serials.{places_rise, place_in}
use Rattle.handle_table.proofs.serial_index.SerialIndex.below.Goals as goal

pub below-requires : goal.below-requires
below-requires c = rw c.as_slice.ensures.value (places_rise 0 c.self.inside.handles c.self.inside.places.items c.self.invariant.stand (subst (λ v. Climb 0 v.cells) (sym c.self.view_is) c.requires))

pub returns : goal.returns
returns c =
    subst (λ v. IsPlace v.cells c.args.serial c.below.result) c.self.view_is
    (place_in c.self.inside.handles c.self.inside.places.items c.args.serial c.below.result c.self.invariant.stand (rw c.as_slice.ensures.value at c.below.ensures))
