use Rattle.std.proofs.Common.{subst}
use Rattle.turn_lock.specs.Histories.{StartsWith}
use Rattle.desk_told.specs.Passes.{history}
use Rattle.desk_told.proofs.PassLemmas.{compares}
use Rattle.desk_told.proofs.desk.ToldDesk.compare.Goals as goal

pub returns-clause-compare : goal.returns-clause-compare
returns-clause-compare g c =
    let whole = history c.join.new.pass in
    let seen = c.join.ensures.seen in
    compares whole (history c.args.one.now) (history c.args.other.now)
    (subst (λ l. StartsWith whole l) c.split-all.ensures.fresh.0 seen.0)
    (subst (λ l. StartsWith whole l) c.split-theirs.ensures.fresh.0 seen.1)
