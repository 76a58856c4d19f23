use Rattle.std.proofs.Common.{◌∙◌}
use Rattle.server_rounds.specs.Serving.{links_of}
use Rattle.server_rounds.proofs.Doors.{stays_on}
use Rattle.server_rounds.proofs.round.«Serving+S+CountLink+K».accept_all.Goals as goal

pub loop-count-preserved : goal.loop-count-preserved
loop-count-preserved g c =
    let was = c.loop-count.invariant in
    let on = stays_on (g.D.Door.shows c.args.door.now) (g.D.Door.shows c.loop-count.door) (g.D.Door.shows c.accept_next.new.door) (links_of c.loop-count.self) (links_of c.tidy.new.self)
    (links_of c.accept_next.new.self) c.loop-count.count was.2 was.3 c.tidy.ensures.links c.in-None.ensures.goes in (
      c.accept_next.ensures.serving,
      record { service = c.accept_next.ensures.keeps.service ∙ (c.tidy.ensures.keeps.service ∙ was.1.service); first = c.accept_next.ensures.keeps.first ∙ (c.tidy.ensures.keeps.first ∙ was.1.first); first_desks = c.accept_next.ensures.keeps.first_desks ∙ (c.tidy.ensures.keeps.first_desks ∙ was.1.first_desks) },
      on.0,
      on.1,
      c.accept_next.ensures.had,
    )
