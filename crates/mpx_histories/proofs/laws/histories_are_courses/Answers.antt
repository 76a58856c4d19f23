use Rattle.mpx_histories.proofs.Tracing.{histories_are_courses}
use Rattle.mpx_histories.proofs.laws.histories_are_courses.Goals as goal

pub returns : goal.returns
returns c = histories_are_courses
