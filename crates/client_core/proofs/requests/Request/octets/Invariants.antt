use Rattle.std.proofs.Common.{◌-◌, suc, length}
use Rattle.pdu_codec.specs.Constants.{stub_offset}
use Rattle.pdu_stream.specs.Pieces.{piece_size}
use Rattle.client_core.proofs.Putting.{PutSoFar}
use Rattle.client_core.proofs.requests.Request.octets.Given as goal

-- the first k pieces were put
abbrev pub invariant-loop-start : goal.invariant-loop-start
invariant-loop-start l = record {
  put : PutSoFar l.self (piece_size l.most stub_offset) l.k l.left l.octets.items l.stub;
}

abbrev pub decreases-loop-start : goal.decreases-loop-start
decreases-loop-start l = suc (length l.stub) - l.k
