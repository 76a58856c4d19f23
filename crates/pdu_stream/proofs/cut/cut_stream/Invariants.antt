use Rattle.std.proofs.Common.{ℕ, List, take}
use Rattle.std.specs.List.{flat_map}
use Rattle.pdu_stream.specs.Cuts.{IsCutSoFar}
use Rattle.pdu_stream.proofs.cut.cut_stream.Given as goal

abbrev pub invariant-loop-piece : goal.invariant-loop-piece
invariant-loop-piece l = IsCutSoFar (flat_map (λ (piece : List ℕ). piece) (take l.piece-index l.pieces)) l.pdus l.feed l.fault
