use Rattle.replay_events.proofs.Offing.{known_cancel, low_cancel, cancels}
use Rattle.replay_events.proofs.player.Player.cancel.Goals as goal

pub cancelled-requires-clause-low : goal.cancelled-requires-clause-low
cancelled-requires-clause-low c = low_cancel c.args.self.now c.args.played.now c.in-Some.member c.in-Call.call c.in-Some.is c.in-Call.is c.requires.0 c.requires.1

pub returns : goal.returns
returns c id = cancels c.args.self.now c.args.played.now c.in-Some.member c.in-Call.call c.in-Some.is c.in-Call.is id c.cancelled.new.realm c.in_ok-told.told c.in_ok-told.ensures
