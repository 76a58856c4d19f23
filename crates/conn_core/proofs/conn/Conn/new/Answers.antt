use Rattle.std.proofs.Common.{refl, ap}
use Rattle.pdu_stream.specs.Cuts.{Fed}
use Rattle.conn_core.proofs.Turns.{starts}
use Rattle.conn_core.proofs.conn.Conn.new.Goals as goal

pub returns : goal.returns
returns c = starts _ c.args.ids.now c.in_ok-new.ensures (ap (λ (f : Fed). f.rest) c.new.ensures) refl refl c.new-2.ensures refl
