use Rattle.std.specs.Prelude.{◌≡◌, length}
use Rattle.std.specs.Arc.{arc_value}
use Rattle.server_rounds.specs.Rounds.{HandsOutAll}
use Rattle.server_rounds.specs.Serving.{IsServing, Keeps, links_of}
use Rattle.server_rounds.specs.Desks.{ServingHad}
use Rattle.server_rounds.proofs.round.«Serving+S+CountLink+K».accept_all.Given as goal

abbrev pub invariant-loop-count : goal.invariant-loop-count
invariant-loop-count g l =
    IsServing g.K.Link.shows g.S.Manager.may g.S.Manager.tables (arc_value l.hub) l.self
    × Keeps l.initial.self l.self
    × HandsOutAll (g.D.Door.shows l.initial.door) (g.D.Door.shows l.door) (links_of l.self)
    × (length (links_of l.self) ≡ l.count)
    × ServingHad g.S.Manager.tables g.S.Manager.is_pass g.S.Manager.enters g.S.Manager.runs_down g.S.Manager.splits g.S.Manager.joins (arc_value l.hub) l.self
