use Rattle.std.specs.VecDeque.{deque_len}
use Rattle.server_rounds.proofs.Servings.{Swept}
use Rattle.server_rounds.proofs.Desks.{SweptHad}
use Rattle.server_rounds.proofs.serving.Serving.sweep.Given as goal

abbrev pub invariant-loop-running : goal.invariant-loop-running
invariant-loop-running g l =
    Swept g.K.Link.shows g.S.Manager.may g.S.Manager.tables l.hub l.fn.self l.self l.waiting.items (deque_len l.waiting)
    × SweptHad g.S.Manager.tables g.S.Manager.is_pass g.S.Manager.enters g.S.Manager.runs_down g.S.Manager.splits g.S.Manager.joins l.hub l.fn.self l.self l.waiting.items

abbrev pub decreases-loop-running : goal.decreases-loop-running
decreases-loop-running g l = deque_len l.waiting
