use Rattle.std.proofs.Common.{refl, ap}
use Rattle.pdu_stream.specs.Cuts.{Fed}
use Rattle.mpx_conn.proofs.Turns.{begins}
use Rattle.mpx_conn.proofs.conn.MpxConn.new.Goals as goal

pub returns : goal.returns
returns c = begins _ c.args.ids.now c.in_ok-new.ensures (ap (λ (f : Fed). f.rest) c.new.ensures) refl refl c.new-2.ensures refl refl c.new-4.ensures
