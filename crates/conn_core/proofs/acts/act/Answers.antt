use Rattle.conn_core.proofs.Fits.{nothing_offered}
use Rattle.conn_core.proofs.acts.act.Goals as goal

pub returns-in_ok-call-in-Call-clause-acts : goal.returns-in_ok-call-in-Call-clause-acts
returns-in_ok-call-in-Call-clause-acts c = rw c.in-Call.is (c.in_ok-call-in-Call.ensures.calls, nothing_offered _)

pub returns-in_ok-close-in-Broken-clause-acts : goal.returns-in_ok-close-in-Broken-clause-acts
returns-in_ok-close-in-Broken-clause-acts c = rw c.in-Broken.is (c.in_ok-close-in-Broken.ensures.closes, nothing_offered _)
