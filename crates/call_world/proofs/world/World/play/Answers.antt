use Rattle.std.proofs.Common.{true, ap}
use Rattle.call_world.specs.Moves.{move_of}
use Rattle.call_world.proofs.Playing.{if_ok, as_step}
use Rattle.call_world.proofs.world.World.play.Goals as goal

pub returns-in-Open : goal.returns-in-Open
returns-in-Open c = if_ok c.open.result _ _ (λ done tried. as_step c.args.step _ c.args.self.now c.open.new.self done (ap move_of c.in-Open.is) tried) c.open.ensures

pub returns-in-Start : goal.returns-in-Start
returns-in-Start c = if_ok c.start.result _ _ (λ done tried. as_step c.args.step _ c.args.self.now c.start.new.self done (ap move_of c.in-Start.is) tried) c.start.ensures

pub returns-in-ToServer : goal.returns-in-ToServer
returns-in-ToServer c = if_ok c.to_server.result _ _ (λ done tried. as_step c.args.step _ c.args.self.now c.to_server.new.self done (ap move_of c.in-ToServer.is) tried) c.to_server.ensures

pub returns-in-ToCaller : goal.returns-in-ToCaller
returns-in-ToCaller c = if_ok c.to_caller.result _ _ (λ done tried. as_step c.args.step _ c.args.self.now c.to_caller.new.self done (ap move_of c.in-ToCaller.is) tried) c.to_caller.ensures

pub returns-in-Cancel : goal.returns-in-Cancel
returns-in-Cancel c = if_ok c.cancel.result _ _ (λ done tried. as_step c.args.step _ c.args.self.now c.cancel.new.self done (ap move_of c.in-Cancel.is) tried) c.cancel.ensures

pub returns-in-Lose : goal.returns-in-Lose
returns-in-Lose c = if_ok c.lose.result _ _ (λ done tried. as_step c.args.step _ c.args.self.now c.lose.new.self done (ap move_of c.in-Lose.is) tried) c.lose.ensures

pub returns-in-Take : goal.returns-in-Take
returns-in-Take c = if_ok c.take.result _ _ (λ done tried. as_step c.args.step _ c.args.self.now c.take.new.self done (ap move_of c.in-Take.is) tried) c.take.ensures

pub returns-in-Finish : goal.returns-in-Finish
returns-in-Finish c = if_ok c.finish.result _ _ (λ done tried. as_step c.args.step _ c.args.self.now c.finish.new.self done (ap move_of c.in-Finish.is) tried) c.finish.ensures

pub returns-in_ok-restart-in-Restart : goal.returns-in_ok-restart-in-Restart
returns-in_ok-restart-in-Restart c = as_step c.args.step _ c.args.self.now c.restart.new.self true (ap move_of c.in-Restart.is) c.in_ok-restart-in-Restart.ensures
