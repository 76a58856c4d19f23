use Rattle.std.proofs.Common.{refl}
use Rattle.conn_histories.specs.Histories.Decision.{ToGroup}
use Rattle.replay_events.proofs.Living.{lived_word, played_without}
use Rattle.replay_events.proofs.player.Player.bound.Goals as goal

pub bound-requires-clause-played : goal.bound-requires-clause-played
bound-requires-clause-played c = played_without c.args.played.now c.take-call.new.self c.requires

pub returns : goal.returns
returns c =
    lived_word c.args.self.now (record c.args.self.now { totals = c.bound.new.totals; out = c.bound.new.out }) c.args.played.now c.bound.new.self c.take-call.new.self c.take-call.result (ToGroup c.args.group) c.requires refl
    c.take-call.ensures.value c.in_ok-bound.ensures
