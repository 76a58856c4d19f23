use Rattle.std.proofs.Common.{refl}
use Rattle.conn_histories.specs.Histories.Decision.{RefuseGroup}
use Rattle.replay_events.proofs.Living.{lived_word, played_without}
use Rattle.replay_events.proofs.player.Player.nak.Goals as goal

pub nak-requires-clause-played : goal.nak-requires-clause-played
nak-requires-clause-played c = played_without c.args.played.now c.take-call.new.self c.requires

pub returns : goal.returns
returns c =
    lived_word c.args.self.now (record c.args.self.now { totals = c.nak.new.totals; out = c.nak.new.out }) c.args.played.now c.nak.new.self c.take-call.new.self c.take-call.result (RefuseGroup c.args.reason) c.requires refl
    c.take-call.ensures.value c.in_ok-nak.ensures
