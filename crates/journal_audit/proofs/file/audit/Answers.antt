use Rattle.journal_audit.proofs.Read.{auditing_more}
use Rattle.journal_audit.proofs.file.audit.Goals as goal

pub loop-rest-preserved : goal.loop-rest-preserved
loop-rest-preserved c =
    rw c.in_ok-push.ensures.ok (auditing_more c.args.text.now c.loop-rest.verdicts c.loop-rest.line c.loop-rest.rest.now c.in_ok-verdict.verdict c.in_ok-verdict.last c.in_ok-verdict.later.now c.loop-rest.invariant c.in_ok-verdict.ensures.exact c.in_ok-verdict.ensures.room)
