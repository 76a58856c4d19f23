use Rattle.std.proofs.Common.{sym, subst}
use Rattle.group_core.specs.declared.answer.Taking.{Taking}
use Rattle.group_core.specs.declared.answer.Taking.TheVariants as taking
use Rattle.replay_events.specs.Hands.{Leads}
use Rattle.replay.specs.Hands.{TriesIn}
use Rattle.replay.proofs.Each.{followed_run}
use Rattle.replay.proofs.run.follow.Goals as goal

pub returns-in-Run : goal.returns-in-Run
returns-in-Run c =
    let x = c.args.player.now in
    let t = c.args.played.now in
    subst (λ (a : Taking). Leads (TriesIn t.name a) x t x t) (sym c.in-Run.is) (followed_run x t c.in-Run.field-0 c.in-Run.field-1)

pub returns-in_ok-go_on-in-Denied : goal.returns-in_ok-go_on-in-Denied
returns-in_ok-go_on-in-Denied c =
    let x = c.args.player.now in
    let t = c.args.played.now in
    subst (λ (a : Taking). Leads (TriesIn t.name a) x t c.go_on.new.self c.go_on.new.played) (sym c.in-Denied.is) c.in_ok-go_on-in-Denied.ensures

pub returns-in_ok-say_waits-in-Wait : goal.returns-in_ok-say_waits-in-Wait
returns-in_ok-say_waits-in-Wait c =
    let x = c.args.player.now in
    let t = c.args.played.now in
    subst (λ (a : Taking). Leads (TriesIn t.name a) x t c.say_waits.new.player t) (sym c.in-Wait.is) c.in_ok-say_waits-in-Wait.ensures

pub returns-in_ok-say_idle-in-Dropped : goal.returns-in_ok-say_idle-in-Dropped
returns-in_ok-say_idle-in-Dropped c =
    let x = c.args.player.now in
    let t = c.args.played.now in
    subst (λ (a : Taking). Leads (TriesIn t.name a) x t c.say_idle.new.player t) (sym c.in-Dropped.is) c.in_ok-say_idle-in-Dropped.ensures
