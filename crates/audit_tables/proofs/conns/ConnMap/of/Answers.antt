use Rattle.audit_tables.proofs.Started.{conn_free, conn_step}
use Rattle.audit_tables.proofs.conns.ConnMap.of.Goals as goal

pub join-requires : goal.join-requires
join-requires c =
    conn_free c.args.home c.args.base.now c.loop-conn.all c.as_slice-conn-items.result.now c.loop-conn.conn-index 0 c.requires c.as_slice-conn-items.ensures c.loop-conn-test.true c.loop-conn.invariant

pub loop-conn-preserved : goal.loop-conn-preserved
loop-conn-preserved c =
    conn_step c.args.base.now c.loop-conn.all c.join.new.self c.as_slice-conn-items.result.now c.loop-conn.conn-index 0 c.from.result c.as_slice-conn-items.ensures c.loop-conn-test.true c.loop-conn.invariant c.from.ensures c.in_ok-join.ensures
