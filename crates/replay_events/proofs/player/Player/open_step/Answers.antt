use Rattle.std.proofs.Common.{true, false, subst}
use Rattle.replay_events.specs.Living.{event_of}
use Rattle.replay_events.specs.Lived.{Lived}
use Rattle.replay_events.proofs.Wording.{is_played, due_as}
use Rattle.replay_events.proofs.Walking.{says, pauses, is_midway, does}
use Rattle.replay_events.proofs.player.Player.open_step.Goals as goal

pub word-requires-clause-due : goal.word-requires-clause-due
word-requires-clause-due c = due_as c.args.self.now c.args.played.now c.in_ok-due.due true c.if-due.true c.in_ok-due.ensures

pub returns-then-due : goal.returns-then-due
returns-then-due c = says c.args.self.now c.word.new.self c.args.played.now c.word.new.played c.in_ok-word.ensures

pub next_act-requires : goal.next_act-requires
next_act-requires c = is_played c.args.self.now c.args.played.now c.requires.hand

pub act-requires : goal.act-requires
act-requires c =
    is_midway c.args.self.now c.next_act.new.self c.args.played.now c.next_act.new.played c.in-Some.act c.requires.open (due_as c.args.self.now c.args.played.now c.in_ok-due.due false c.if-due.false c.in_ok-due.ensures)
    (subst (λ o. Lived c.args.self.now c.args.played.now (event_of o) c.next_act.new.self c.next_act.new.played) c.in-Some.is c.in_ok-next.ensures) c.requires.hand

pub returns-in_ok-act-in-Some : goal.returns-in_ok-act-in-Some
returns-in_ok-act-in-Some c =
    does c.args.self.now c.next_act.new.self c.args.played.now c.next_act.new.played c.in-Some.act c.requires.open (due_as c.args.self.now c.args.played.now c.in_ok-due.due false c.if-due.false c.in_ok-due.ensures)
    (subst (λ o. Lived c.args.self.now c.args.played.now (event_of o) c.next_act.new.self c.next_act.new.played) c.in-Some.is c.in_ok-next.ensures) c.act.new.self c.act.new.played c.in_ok-act-in-Some.ensures

pub returns-in-None : goal.returns-in-None
returns-in-None c =
    pauses c.args.self.now c.next_act.new.self c.args.played.now c.next_act.new.played c.requires.open (due_as c.args.self.now c.args.played.now c.in_ok-due.due false c.if-due.false c.in_ok-due.ensures)
    (subst (λ o. Lived c.args.self.now c.args.played.now (event_of o) c.next_act.new.self c.next_act.new.played) c.in-None.is c.in_ok-next.ensures)
