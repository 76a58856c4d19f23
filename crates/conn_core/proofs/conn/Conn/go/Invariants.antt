use Rattle.std.proofs.Common.{List, length}
use Rattle.pdu_codec.specs.declared.pdu.Pdu.{Pdu}
use Rattle.conn_asks.specs.States.{ConnState, SkipsAll}
use Rattle.conn_core.specs.Fields.{IsAt}
use Rattle.conn_core.specs.Steps.{Passes}
use Rattle.conn_core.proofs.conn.Conn.go.Given as goal

-- some PDUs were skipped
abbrev pub invariant-loop-act : goal.invariant-loop-act
invariant-loop-act l = record {
  passes : Passes l.initial.self l.self;
  goes : (m : ConnState) → IsAt l.initial.self m → (skipped : List Pdu) × (n : ConnState) × SkipsAll m skipped n × IsAt l.self n;
}

abbrev pub decreases-loop-act : goal.decreases-loop-act
decreases-loop-act l = length l.self.fed.rest
