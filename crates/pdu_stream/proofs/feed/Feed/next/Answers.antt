use Rattle.pdu_stream.proofs.Takes.{next_given}
use Rattle.pdu_stream.proofs.feed.Feed.next.Goals as goal

pub returns-in-Ok-Some : goal.returns-in-Ok-Some
returns-in-Ok-Some c =
    let f = c.self.inside in
    next_given f.octets.items f.start f.fault c.args.self.now c.held.result.now c.in-Ok-Some.pdu c.in-Ok-Some.size c.self.view_is c.held.ensures c.in_default.is (rw c.in-Ok-Some.field-0-is at c.in-Ok-Some.ensures)
