use Rattle.std.proofs.Common.{subst}
use Rattle.server_counts.specs.Counting.{Counts}
use Rattle.server_counts.proofs.Links.{tells}
use Rattle.server_counts.proofs.link.CountLink.counts.Goals as goal

pub returns : goal.returns
returns g c = tells (g.K.Link.shows c.args.self.now) c.self.inside.counting c.read.result (subst (λ k. Counts (g.K.Link.shows k) c.self.inside.counting) c.self.view_is c.self.invariant) c.read.ensures
