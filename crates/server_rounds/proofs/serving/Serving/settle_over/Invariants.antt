use Rattle.std.specs.Prelude.{◌≡◌}
use Rattle.std.specs.VecDeque.{deque_len}
use Rattle.server_rounds.specs.Serving.{IsServing, HasRoom, Keeps, links_of}
use Rattle.server_rounds.specs.Desks.{ServingHad}
use Rattle.server_rounds.proofs.serving.Serving.settle_over.Given as goal

abbrev pub invariant-loop-self : goal.invariant-loop-self
invariant-loop-self g l =
    IsServing g.K.Link.shows g.S.Manager.may g.S.Manager.tables l.hub l.self
    × Keeps l.initial.self l.self
    × (links_of l.self ≡ links_of l.initial.self)
    × ServingHad g.S.Manager.tables g.S.Manager.is_pass g.S.Manager.enters g.S.Manager.runs_down g.S.Manager.splits g.S.Manager.joins l.hub l.self
    × (HasRoom l.initial.self → HasRoom l.self)

abbrev pub decreases-loop-self : goal.decreases-loop-self
decreases-loop-self g l = deque_len l.self.running
