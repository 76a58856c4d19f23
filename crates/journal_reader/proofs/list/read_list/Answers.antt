use Rattle.journal_reader.proofs.Listing.{stuck, step, last_stuck}
use Rattle.journal_reader.proofs.list.read_list.Goals as goal

pub returns-in_default-read : goal.returns-in_default-read
returns-in_default-read g c =
    let cut = c.in-Some.ensures in
    stuck g.T.Item.fits_item g.T.Item.text_of c.args.text.now c.loop-piece.items c.loop-piece.rest.now c.in-Some.piece.now c.in-Some.later.now c.requires c.loop-piece.invariant cut.0 cut.1 c.in_default-read.ensures

pub loop-piece-preserved : goal.loop-piece-preserved
loop-piece-preserved g c =
    let cut = c.in-Some.ensures in
    let read = c.in-Some-read.ensures in
    rw c.in_ok-push.ensures.ok (step g.T.Item.fits_item g.T.Item.text_of c.args.text.now c.loop-piece.items c.loop-piece.rest.now c.in-Some.piece.now c.in-Some.later.now c.in-Some-read.item c.requires c.loop-piece.invariant cut.0 cut.1 read.0 read.1)

pub returns-in_default-read-2 : goal.returns-in_default-read-2
returns-in_default-read-2 g c =
    last_stuck g.T.Item.fits_item g.T.Item.text_of c.args.text.now c.loop-piece.items c.loop-piece.rest.now c.loop-piece.invariant c.in_default.ensures c.in_default-read-2.ensures
