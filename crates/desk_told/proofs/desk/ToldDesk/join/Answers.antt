use Rattle.desk_told.proofs.PassLemmas.{seen_more, of_joined}
use Rattle.desk_told.proofs.desk.ToldDesk.join.Goals as goal

pub returns-clause-pass : goal.returns-clause-pass
returns-clause-pass g c =
    let at = c.join.ensures in
    of_joined g.D.Desk.may g.D.Rundown.runs_down c.args.self.now.lock.table.shared.table_id c.args.self.now.first.value c.args.pass.now c.join.new.pass at.told.0 c.requires.pass at.pass at.front.0 at.told.1 at.places.0 at.places.2

pub returns-clause-seen : goal.returns-clause-seen
returns-clause-seen g c = (seen_more c.args.pass.now c.join.new.pass c.join.ensures.front.0, seen_more c.args.other c.join.new.pass c.join.ensures.front.1)
