use Rattle.std.proofs.Common.{refl, sym, ◌∙◌}
use Rattle.replay_events.proofs.Wording.{is_played, said_call}
use Rattle.replay_events.proofs.player.Player.replied.Goals as goal

pub reply-requires : goal.reply-requires
reply-requires c = is_played c.args.self.now c.args.played.now c.requires.hand

pub returns : goal.returns
returns c =
    said_call c.args.self.now c.reply.new.self c.args.played.now c.reply.new.played c.requires.open c.in-Some.reply c.take.new.self c.in_ok-reply.ensures c.requires.call.0 (sym c.take.ensures.value ∙ c.in-Some.is) c.requires.call.1
    c.requires.due
