use Rattle.std.proofs.Common.{sym, subst}
use Rattle.server_counts.specs.Counting.{Counts}
use Rattle.server_counts.proofs.Links.{counts_bell}
use Rattle.server_counts.proofs.link.CountLinkLink.bell.Goals as goal

pub invariant_of-result : goal.invariant_of-result
invariant_of-result g c = subst (Counts (g.K.Link.shows c.in-Some.link)) (sym c.new.ensures) (counts_bell (g.K.Link.shows c.in-Some.link) c.in-Some.ensures)
