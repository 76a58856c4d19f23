use Rattle.replay_events.proofs.Wording.{not_due, bind_due, refused_due, over_due}
use Rattle.replay_events.proofs.player.Player.is_due.Goals as goal

pub returns-in-Nothing : goal.returns-in-Nothing
returns-in-Nothing c = not_due c.args.self.now c.args.played.now c.in-Nothing.is

pub returns-in-Bind : goal.returns-in-Bind
returns-in-Bind c = bind_due c.args.self.now c.args.played.now c.in-Bind.field-0 c.in-Bind.is

pub returns-in-Refused : goal.returns-in-Refused
returns-in-Refused c = refused_due c.args.self.now c.args.played.now c.in-Refused.field-0 c.in-Refused.is

pub returns-in_ok-over-in-Call : goal.returns-in_ok-over-in-Call
returns-in_ok-over-in-Call c = over_due c.args.self.now c.args.played.now c.in-Call.call c.in_ok-over-in-Call.over c.in-Call.is c.in_ok-over-in-Call.ensures
