use Rattle.std.proofs.Common.{true, Option, sym, subst, ◌∙◌}
use Rattle.replay_events.specs.declared.played.Kept.{Kept}
use Rattle.replay_events.specs.Hands.{EndsAs}
use Rattle.replay_events.proofs.Ending.{known_runs, served_is, slots_are, slots_few, cookies_are, known_at, ends}
use Rattle.replay_events.proofs.player.Player.end_call.Goals as goal

pub finish-requires-clause-runs : goal.finish-requires-clause-runs
finish-requires-clause-runs c =
    known_runs c.args.self.now c.args.played.now c.args.member c.args.call c.requires.member c.requires.call c.in-Some.kept c.in-Some-cookies.row (sym c.take-taken.ensures.value ∙ c.in-Some.is) c.in-Some-cookies.is c.requires.hand c.requires.runs

pub finish-requires-clause-served : goal.finish-requires-clause-served
finish-requires-clause-served c =
    served_is c.args.self.now c.args.played.now c.args.member c.args.call c.requires.member c.requires.call c.in-Some.kept c.in-Some-cookies.row (sym c.take-taken.ensures.value ∙ c.in-Some.is) c.in-Some-cookies.is c.requires.hand

pub finish-requires-clause-slots : goal.finish-requires-clause-slots
finish-requires-clause-slots c =
    slots_are c.args.self.now c.args.played.now c.args.member c.args.call c.requires.member c.requires.call c.in-Some.kept c.in-Some-cookies.row (sym c.take-taken.ensures.value ∙ c.in-Some.is) c.in-Some-cookies.is c.requires.hand

pub finish-requires-clause-few : goal.finish-requires-clause-few
finish-requires-clause-few c =
    slots_few c.args.self.now c.args.played.now c.args.member c.args.call c.requires.member c.requires.call c.in-Some.kept c.in-Some-cookies.row (sym c.take-taken.ensures.value ∙ c.in-Some.is) c.in-Some-cookies.is c.requires.hand

pub finish-requires-clause-cookies : goal.finish-requires-clause-cookies
finish-requires-clause-cookies c =
    cookies_are c.args.self.now c.args.played.now c.args.member c.args.call c.requires.member c.requires.call c.in-Some.kept c.in-Some-cookies.row (sym c.take-taken.ensures.value ∙ c.in-Some.is) c.in-Some-cookies.is c.requires.hand

pub returns : goal.returns
returns c =
    let x = c.args.self.now in
    let t = c.args.played.now in
    let has = sym c.take-taken.ensures.value ∙ c.in-Some.is in
    subst (λ (o : Option Kept). EndsAs c.args.member c.args.call true x t (record x { realm = c.finish.new.self; told = c.told_at.result }) (record t { call = o })) has
    (ends x t c.args.member c.args.call c.requires.member c.requires.call c.in-Some.kept c.in-Some-cookies.row has c.in-Some-cookies.is c.finish.new.self c.in_ok-said.said c.told_at.result c.requires.runs c.in_ok-said.ensures.ends
    (λ reply e. known_at t.standing c.in-Some.kept.orphaned c.in_ok-said.said reply (sym c.told_at.ensures ∙ e)))
