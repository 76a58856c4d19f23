use Rattle.std.proofs.Common.{arith}
use Rattle.handle_table.proofs.Serials.{split_place}
use Rattle.handle_table.proofs.places.splits.Goals as goal
use Rattle.handle_table.proofs.places.splits.Goals.{else-at-gt0-via-then-at-gt0+else-places-at, else-at-gt0-via-else-at-gt0, else-at-places-via-then-at-places+else-places-at-2, else-at-places-via-else-at-places}

pub returns : goal.returns
returns c = λ t. split_place _ _ _ c.requires.rise c.requires.within
    (elim c.else-at-gt0.branch [
      | else-at-gt0-via-then-at-gt0+else-places-at w ↦ λ lt. omega (arith, w.if-places-at.false)
      | else-at-gt0-via-else-at-gt0 w ↦ λ lt. absurd (omega (arith, w.if-at-gt0.false))
    ])
    (elim c.else-at-places.branch [
      | else-at-places-via-then-at-places+else-places-at-2 w ↦ λ lt. omega (arith, w.if-places-at-2.false)
      | else-at-places-via-else-at-places w ↦ λ lt. absurd (omega (arith, w.if-at-places.false))
    ])
