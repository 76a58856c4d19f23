use Rattle.conn_core.proofs.Causes.{pushed}
use Rattle.mpx_conn.proofs.conn.MpxConn.feed.Goals as goal

pub invariant_of-self : goal.invariant_of-self
invariant_of-self c =
    (pushed c.self.inside.feed c.push.new.self c.args.piece.now c.push.result c.push.ensures.ok c.push.ensures.err c.self.invariant.0, c.self.invariant.1, c.self.invariant.2)
