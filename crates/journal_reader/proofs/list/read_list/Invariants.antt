use Rattle.std.proofs.Common.{length}
use Rattle.journal_reader.proofs.Listing.{Listed}
use Rattle.journal_reader.proofs.list.read_list.Given as goal

-- these items were read, and the rest is left
abbrev pub invariant-loop-piece : goal.invariant-loop-piece
invariant-loop-piece g l = Listed g.T.Item.fits_item g.T.Item.text_of l.fn.text l.items l.rest

abbrev pub decreases-loop-piece : goal.decreases-loop-piece
decreases-loop-piece g l = length l.rest
