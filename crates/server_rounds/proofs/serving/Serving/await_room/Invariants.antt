use Rattle.std.specs.Prelude.{◌≡◌}
use Rattle.server_rounds.specs.Serving.{IsServing, Keeps, links_of}
use Rattle.server_rounds.specs.Desks.{ServingHad}
use Rattle.server_rounds.proofs.serving.Serving.await_room.Given as goal

abbrev pub invariant-loop : goal.invariant-loop
invariant-loop g l =
    IsServing g.K.Link.shows g.S.Manager.may g.S.Manager.tables l.hub l.self
    × Keeps l.initial.self l.self
    × (links_of l.self ≡ links_of l.initial.self)
    × ServingHad g.S.Manager.tables g.S.Manager.is_pass g.S.Manager.enters g.S.Manager.runs_down g.S.Manager.splits g.S.Manager.joins l.hub l.self
