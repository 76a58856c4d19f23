use Rattle.std.proofs.lemmas.Result.{err_from_is_err_and}
use Rattle.client_script.proofs.LineLemmas.{has_index, wait_ready, touched_within, waited, waited_not, wait_barred}
use Rattle.client_script.proofs.player.Player.wait.Goals as goal

pub calling-requires-after_bounds : goal.calling-requires-after_bounds
calling-requires-after_bounds g c κs within = has_index g.K.Link.shows c.args.self.now c.requires

pub wait_at-answer-requires-after_bounds : goal.wait_at-answer-requires-after_bounds
wait_at-answer-requires-after_bounds g c κs within = wait_ready g.K.Link.shows c.args.self.now c.args.name c.in-Some.at c.requires c.in-Some.ensures

pub answered-requires-clause-place : goal.answered-requires-clause-place
answered-requires-clause-place g c κs within = touched_within g.K.Link.shows c.args.self.now c.wait_at-answer.new.self c.in-Some.at c.wait_at-answer.ensures.touches

pub returns-in_err-answered : goal.returns-in_err-answered
returns-in_err-answered g c =
    let p = err_from_is_err_and c.from_residual.result c.from_residual.ensures.1 in
    rw (p.1, p.2)
    (waited_not g.K.Link.shows c.args.self.now c.wait_at-answer.new.self c.answered.new.self c.args.name c.in-Some.at c.wait_at-answer.result c.in-Some.ensures c.wait_at-answer.ensures.touches c.in_err-answered.field-0.0 c.in_err-answered.ensures)

pub returns : goal.returns
returns g c =
    waited g.K.Link.shows c.args.self.now c.wait_at-answer.new.self c.answered.new.self c.args.name c.in-Some.at c.wait_at-answer.result c.in-Some.ensures c.wait_at-answer.ensures.touches c.in_ok-answered.field-0 c.in_ok-answered.ensures

pub returns-in_default : goal.returns-in_default
returns-in_default g c = wait_barred g.K.Link.shows c.args.self.now c.args.name (rw c.in_default.is at c.calling.ensures)
