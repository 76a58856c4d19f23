use Rattle.std.proofs.Common.{false, true, Some, None, ap}
use Rattle.handle_model.specs.declared.entry.Said.TheVariants.{Fault}
use Rattle.conn_histories.specs.Events.{word_of, has_run}
use Rattle.server_steps.proofs.Saying.{says_so}
use Rattle.server_steps.proofs.line.Line.answer.Goals as goal

pub say-requires-after_bounds : goal.say-requires-after_bounds
say-requires-after_bounds g c κs within =
    says_so g.K.Link.shows (g.M.Manager.may c.args.manager.now) (g.M.Manager.tables c.args.manager.now) c.args.hub.now c.args.self.now c.args.reply.now (Some (Fault c.in-Never.status)) false c.requires.settled c.requires.fits
    (ap word_of c.in-Never.is) (ap has_run c.in-Never.is)

pub say-requires-in-Ran-after_bounds : goal.say-requires-in-Ran-after_bounds
say-requires-in-Ran-after_bounds g c κs within =
    says_so g.K.Link.shows (g.M.Manager.may c.args.manager.now) (g.M.Manager.tables c.args.manager.now) c.args.hub.now c.args.self.now c.args.reply.now (Some c.in-Ran.said) true c.requires.settled c.requires.fits
    (ap word_of c.in-Ran.is) (ap has_run c.in-Ran.is)

pub say-requires-in-Dropped-after_bounds : goal.say-requires-in-Dropped-after_bounds
say-requires-in-Dropped-after_bounds g c κs within =
    says_so g.K.Link.shows (g.M.Manager.may c.args.manager.now) (g.M.Manager.tables c.args.manager.now) c.args.hub.now c.args.self.now c.args.reply.now None false c.requires.settled c.requires.fits
    (ap word_of c.in-Dropped.is) (ap has_run c.in-Dropped.is)
