use Rattle.std.proofs.Common.{◌≡◌, ◌≢◌, List, Option, ℕ, refl, sym, subst, ap, ◌∙◌}
use Rattle.handle_model.specs.declared.entry.Home.{Home}
use Rattle.handle_model.specs.declared.entry.Said.{Said}
use Rattle.desk_counts.specs.Numbers.{Numbers}
use Rattle.replay_groups.specs.Rows.{AreIn, MayAnswer}
use Rattle.conn_histories.specs.Ends.{Meets}
use Rattle.manager_api.specs.Served.{tables_in}
use Rattle.desk_service.specs.Views.{services}
use Rattle.replay_groups.specs.Ends.{EndsIn}
use Rattle.replay_groups.specs.Holding.{Moves}
use Rattle.replay_groups.proofs.BindLaws.{kept}
use Rattle.replay_groups.proofs.Ending.{IsOf, ended}
use Rattle.replay_groups.proofs.realm.Realm.finish.Goals as goal

pub goes_on-requires : goal.goes_on-requires
goes_on-requires c = kept c.args.self.now (IsOf c.args.member c.args.call c.args.asked.now) c.requires.runs

pub returns-clause-ends : goal.returns-clause-ends
returns-clause-ends c =
    let old = c.args.self.now in
    let e = c.in_ok-ended.ended in
    let new = record old { groups = c.end-rest.new.self; desks = c.settle.new.desks } in
    let home : Home = record { boot = c.boot.result; group = c.args.member.group } in
    subst (λ (s : Said). Moves old (EndsIn c.args.member c.args.call c.args.asked.now c.args.row.now c.args.numbers.now s) new) (sym c.in_ok-said.ensures)
    (ended old c.args.member c.args.call c.args.asked.now c.requires.runs new c.args.row.now c.args.numbers.now home c.is_asked-cancelled.result e.results e.said c.end-rest.result
    (services c.finish.new.desks) refl (λ i. record { boot = c.boot.ensures i; group = c.args.member.group })
    (c.goes_on.ensures.known c.if-not-goes_on.false).0 c.is_asked-cancelled.ensures
    (λ given i. subst (λ (n : Numbers). Meets home (tables_in old.served) (MayAnswer (services old.desks) n c.is_asked-cancelled.result (services c.finish.new.desks)) c.args.asked.now given c.is_asked-cancelled.result e.results e.said) c.same_numbers.ensures (c.in_ok-ended.ensures.meets given i))
    c.in_ok-ended.ensures.memory c.in_ok-ended.ensures.echo c.end-rest.ensures c.settle.ensures.down c.settle.ensures.echo)
