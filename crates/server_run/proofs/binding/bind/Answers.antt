use Rattle.server_run.proofs.Having.{joined_quiet}
use Rattle.server_run.proofs.binding.bind.Goals as goal

pub returns-in-Ok-bound-clause-quiet : goal.returns-in-Ok-bound-clause-quiet
returns-in-Ok-bound-clause-quiet g c = joined_quiet c.args.hub.now.boot c.args.asked c.args.pass c.in-Ok.line c.bound.new.self c.in-Ok.ensures.joined.0 c.in-Ok.ensures.joined.2.joined c.bound.ensures.stays

pub returns-in-Err-bound-clause-quiet : goal.returns-in-Err-bound-clause-quiet
returns-in-Err-bound-clause-quiet g c = joined_quiet c.args.hub.now.boot c.args.asked c.args.pass c.in-Ok.line c.bound.new.self c.in-Ok.ensures.joined.0 c.in-Ok.ensures.joined.2.joined c.bound.ensures.stays
