use Rattle.audit_tables.proofs.Using.{waiting_added}
use Rattle.audit_tables.proofs.index.add_waiting.Goals as goal

pub returns : goal.returns
returns c = waiting_added c.args.waiting.now c.insert.new.self c.args.row.now c.if-row.false c.in_ok-insert.ensures.updates.0
