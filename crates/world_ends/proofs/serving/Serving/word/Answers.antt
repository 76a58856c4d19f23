use Rattle.std.proofs.Common.{ap}
use Rattle.world_server.specs.Servers.{seen}
use Rattle.world_ends.specs.Servings.{waiting_of}
use Rattle.world_ends.proofs.Binding.{never_leads, reply_leads}
use Rattle.world_ends.proofs.serving.Serving.word.Goals as goal

pub returns-in-Refused : goal.returns-in-Refused
returns-in-Refused c =
    never_leads (seen c.args.server.now) c.args.self.now c.reply.new.self c.in-Refused.status c.reply.result c.requires.is_whole (ap waiting_of c.in-Refused.is) c.reply.ensures

pub returns-in_ok-reply-in-Call : goal.returns-in_ok-reply-in-Call
returns-in_ok-reply-in-Call c =
    reply_leads (seen c.args.server.now) c.args.self.now c.reply-in-Call-2.new.self c.in-Call.call c.in_ok-reply-in-Call.reply c.reply-in-Call-2.result c.requires.is_whole c.requires.due (ap waiting_of c.in-Call.is)
    c.in_ok-reply-in-Call.ensures c.reply-in-Call-2.ensures
