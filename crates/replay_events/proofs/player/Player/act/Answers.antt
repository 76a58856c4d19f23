use Rattle.std.proofs.Common.{sym, subst}
use Rattle.conn_asks.specs.declared.events.Act.{Act}
use Rattle.replay_world.specs.declared.peer.Unanswered.TheVariants.{Bind}
use Rattle.replay_events.specs.Lived.{Means}
use Rattle.replay_events.proofs.Acting.{answered, grouped}
use Rattle.replay_events.proofs.player.Player.act.Goals as goal

pub returns-in-Answer : goal.returns-in-Answer
returns-in-Answer c = subst (λ (a : Act). Means a c.args.self.now c.args.played.now c.args.self.now c.args.played.now) (sym c.in-Answer.is) (answered c.in-Answer.field-0 c.args.self.now c.args.played.now)

pub returns-in-Group : goal.returns-in-Group
returns-in-Group c =
    subst (λ (a : Act). Means a c.args.self.now c.args.played.now c.args.self.now (record c.args.played.now { unanswered = Bind c.in-Group.asked })) (sym c.in-Group.is)
    (grouped c.in-Group.asked c.args.self.now c.args.played.now)

pub returns-in-Call : goal.returns-in-Call
returns-in-Call c = subst (λ (a : Act). Means a c.args.self.now c.args.played.now c.request.new.self c.request.new.played) (sym c.in-Call.is) c.in_ok-request-in-Call.ensures

pub returns-in-Cancel : goal.returns-in-Cancel
returns-in-Cancel c = subst (λ (a : Act). Means a c.args.self.now c.args.played.now c.cancel.new.self c.cancel.new.played) (sym c.in-Cancel.is) (c.in_ok-cancel-in-Cancel.ensures c.in-Cancel.field-0)

pub returns-in-Orphan : goal.returns-in-Orphan
returns-in-Orphan c = subst (λ (a : Act). Means a c.args.self.now c.args.played.now c.orphan.new.self c.orphan.new.played) (sym c.in-Orphan.is) (c.in_ok-orphan-in-Orphan.ensures c.in-Orphan.field-0)

pub returns : goal.returns
returns c =
    subst (λ (a : Act). Means a c.args.self.now c.args.played.now c.close.new.self c.close.new.played) (sym c.in-Close.is)
    (c.in_ok-close-in-Close.ensures c.in-Close.field-0 c.in-Close.field-1)
