use Rattle.std.proofs.Common.{subst, IsSomeAnd}
use Rattle.turn_lock.specs.Passes.{front}
use Rattle.ndr_value.specs.Values.{msg}
use Rattle.manager_api.specs.Answers.{ans}
use Rattle.desk_told.specs.Deeds.{called}
use Rattle.desk_told.proofs.PassLemmas.{Told, may_enter, enters, of_entered}
use Rattle.desk_told.proofs.desk.ToldDesk.answer.Goals as goal

pub commit-requires-clause-adds : goal.commit-requires-clause-adds
commit-requires-clause-adds g c =
    let may = g.D.Desk.may in
    let downs = g.D.Rundown.runs_down in
    let at = c.enter-held.ensures in
    let told = subst (λ o. IsSomeAnd o (λ x. Told may downs x (front c.enter-held.result.pass))) c.value.ensures.value at.value in
    may_enter may downs c.enter-held.result.pass.me.0 c.value.result.now c.answer-answer.new.self told c.answer-answer.ensures.does

pub returns-clause-pass : goal.returns-clause-pass
returns-clause-pass g c =
    let may = g.D.Desk.may in
    let downs = g.D.Rundown.runs_down in
    let at = c.enter-held.ensures in
    let told = subst (λ o. IsSomeAnd o (λ x. Told may downs x (front c.enter-held.result.pass))) c.value.ensures.value at.value in
    let deed = called (record { iface = c.args.iface; op = c.args.op; message = msg c.args.message; cookies = c.args.cookies }) (g.P.Probe.told c.answer-answer.new.probe) (ans c.answer-answer.result) in
    let entered = enters may downs c.args.self.now.first.value c.requires.pass.now c.args.pass c.exit.result c.enter-held.result.pass.me.0 c.commit.new.self.pass.me.0 c.value.result.now c.answer-answer.new.self deed c.requires.pass.is
    at.front at.own.0 told c.answer-answer.ensures.last c.answer-answer.ensures.does c.exit.ensures.front c.exit.ensures.own c.commit.ensures.adds in
    of_entered may downs c.args.self.now.lock.table.shared.table_id c.enter-held.result.lock.now.table.shared.table_id c.commit.new.self.lock.now.table.shared.table_id c.args.self.now.first.value c.args.pass c.exit.result deed c.requires.pass
    c.exit.ensures.pass c.commit.ensures.lock at.lock entered

pub returns-clause-may : goal.returns-clause-may
returns-clause-may g c =
    let may = g.D.Desk.may in
    let downs = g.D.Rundown.runs_down in
    let at = c.enter-held.ensures in
    let told = subst (λ o. IsSomeAnd o (λ x. Told may downs x (front c.enter-held.result.pass))) c.value.ensures.value at.value in
    let deed = called (record { iface = c.args.iface; op = c.args.op; message = msg c.args.message; cookies = c.args.cookies }) (g.P.Probe.told c.answer-answer.new.probe) (ans c.answer-answer.result) in
    let entered = enters may downs c.args.self.now.first.value c.requires.pass.now c.args.pass c.exit.result c.enter-held.result.pass.me.0 c.commit.new.self.pass.me.0 c.value.result.now c.answer-answer.new.self deed c.requires.pass.is
    at.front at.own.0 told c.answer-answer.ensures.last c.answer-answer.ensures.does c.exit.ensures.front c.exit.ensures.own c.commit.ensures.adds in
    entered
