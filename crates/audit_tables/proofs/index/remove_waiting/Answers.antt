use Rattle.audit_tables.proofs.Using.{waiting_taken}
use Rattle.audit_tables.proofs.index.remove_waiting.Goals as goal

pub returns-then-not-row : goal.returns-then-not-row
returns-then-not-row c = waiting_taken c.args.waiting.now c.remove.new.self c.args.row.now c.if-not-row.true c.remove.ensures.updates.0
