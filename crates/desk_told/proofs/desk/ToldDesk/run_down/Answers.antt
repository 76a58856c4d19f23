use Rattle.std.proofs.Common.{subst, IsSomeAnd}
use Rattle.turn_lock.specs.Passes.{front}
use Rattle.desk_told.specs.Deeds.{ran_down}
use Rattle.desk_told.proofs.PassLemmas.{Told, may_enter, enters, of_entered}
use Rattle.desk_told.proofs.desk.ToldDesk.run_down.Goals as goal

pub commit-requires-clause-adds : goal.commit-requires-clause-adds
commit-requires-clause-adds g c =
    let may = g.D.Desk.may in
    let downs = g.D.Rundown.runs_down in
    let at = c.enter-held.ensures in
    let told = subst (λ o. IsSomeAnd o (λ x. Told may downs x (front c.enter-held.result.pass))) c.value.ensures.value at.value in
    may_enter may downs c.enter-held.result.pass.me.0 c.value.result.now c.run_down.new.self told c.run_down.ensures.does

pub returns-clause-pass : goal.returns-clause-pass
returns-clause-pass g c =
    let may = g.D.Desk.may in
    let downs = g.D.Rundown.runs_down in
    let at = c.enter-held.ensures in
    let told = subst (λ o. IsSomeAnd o (λ x. Told may downs x (front c.enter-held.result.pass))) c.value.ensures.value at.value in
    let deed = ran_down c.args.due in
    let entered = enters may downs c.args.self.now.first.value c.requires.pass.now c.args.pass c.exit.result c.enter-held.result.pass.me.0 c.commit.new.self.pass.me.0 c.value.result.now c.run_down.new.self deed c.requires.pass.is
    at.front at.own.0 told c.run_down.ensures.last c.run_down.ensures.does c.exit.ensures.front c.exit.ensures.own c.commit.ensures.adds in
    of_entered may downs c.args.self.now.lock.table.shared.table_id c.enter-held.result.lock.now.table.shared.table_id c.commit.new.self.lock.now.table.shared.table_id c.args.self.now.first.value c.args.pass c.exit.result deed c.requires.pass
    c.exit.ensures.pass c.commit.ensures.lock at.lock entered

pub returns-clause-done : goal.returns-clause-done
returns-clause-done g c =
    let may = g.D.Desk.may in
    let downs = g.D.Rundown.runs_down in
    let at = c.enter-held.ensures in
    let told = subst (λ o. IsSomeAnd o (λ x. Told may downs x (front c.enter-held.result.pass))) c.value.ensures.value at.value in
    let deed = ran_down c.args.due in
    let entered = enters may downs c.args.self.now.first.value c.requires.pass.now c.args.pass c.exit.result c.enter-held.result.pass.me.0 c.commit.new.self.pass.me.0 c.value.result.now c.run_down.new.self deed c.requires.pass.is
    at.front at.own.0 told c.run_down.ensures.last c.run_down.ensures.does c.exit.ensures.front c.exit.ensures.own c.commit.ensures.adds in
    entered
