use Rattle.std.proofs.Common.{◌≡◌, ◌+◌, ◌*◌, [], map, drop}
use Rattle.ndr_agree.specs.Views.{types_in, call_of}
use Rattle.ndr_model.specs.Written as spec
use Rattle.ndr_write.specs.Views.{behind_of, followed, piece_of}
use Rattle.ndr_write.proofs.whole.+whole.Given as goal

abbrev pub decreases-put_whole : goal.decreases-put_whole
decreases-put_whole l = 2 * l.levels

abbrev pub decreases-put_behind : goal.decreases-put_behind
decreases-put_behind l = 2 * l.levels + 1

-- what is left, behind what is written, is what all is behind what was written before
abbrev pub invariant-put_behind-loop-pending : goal.invariant-put_behind-loop-pending
invariant-put_behind-loop-pending l =
    let go = spec.whole (types_in l.writer.call) l.writer.order (call_of l.writer.call) l.levels in
    let all = spec.each_behind (types_in l.writer.call) l.writer.order (call_of l.writer.call) go in
    followed (piece_of l.out []) (all (map behind_of (drop l.pending-index l.behind))) ≡ followed (piece_of l.initial.out []) (all (map behind_of l.behind))
