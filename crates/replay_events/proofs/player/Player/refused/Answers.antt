use Rattle.std.proofs.Common.{refl}
use Rattle.handle_model.specs.declared.reply.Reply.TheVariants.{Never}
use Rattle.replay_events.proofs.Wording.{is_played, said_refused}
use Rattle.replay_events.proofs.player.Player.refused.Goals as goal

pub reply-requires : goal.reply-requires
reply-requires c = is_played c.args.self.now c.args.played.now c.requires.hand

pub returns : goal.returns
returns c =
    said_refused c.args.self.now c.reply.new.self c.args.played.now c.reply.new.played c.requires.open (Never c.args.status) c.args.self.now.told c.in_ok-reply.ensures c.args.status refl c.requires.status
