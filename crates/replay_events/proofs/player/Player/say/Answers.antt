use Rattle.std.proofs.Common.{refl}
use Rattle.std.specs.Option.{option_copied}
use Rattle.conn_histories.specs.Histories.Decision.{Reply as Answer}
use Rattle.replay_events.proofs.Living.{lived_word, played_without}
use Rattle.replay_events.proofs.player.Player.say.Goals as goal

pub reply-requires-clause-played : goal.reply-requires-clause-played
reply-requires-clause-played c = played_without c.args.played.now c.take-call.new.self c.requires

pub returns : goal.returns
returns c =
    lived_word c.args.self.now (record c.args.self.now { totals = c.reply.new.totals; out = c.reply.new.out }) c.args.played.now c.reply.new.self c.take-call.new.self c.take-call.result
    (Answer (option_copied c.args.said) c.args.executed) c.requires refl c.take-call.ensures.value c.in_ok-reply.ensures
