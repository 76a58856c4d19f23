use Rattle.std.proofs.Common.{◌≡◌, drop}
use Rattle.ndr_value.specs.Forms.{form}
use Rattle.ndr_value.specs.Values.{vals, bytes}
use Rattle.ndr_agree.specs.Views.{types_in, call_of}
use Rattle.ndr_model.specs.Written as spec
use Rattle.ndr_write.specs.Views.{followed, piece_of}
use Rattle.ndr_write.proofs.bytes.put_each.Given as goal

-- what is left, behind what is written, is what all is behind what was written before
abbrev pub invariant-loop-octet : goal.invariant-loop-octet
invariant-loop-octet l =
    let go = spec.flat (types_in l.writer.call) l.writer.order (call_of l.writer.call) l.fuel in
    let all = spec.elements (types_in l.writer.call) l.writer.order (call_of l.writer.call) go (vals l.body) (form l.inner) in
    followed (piece_of l.out l.behind.items) (all (bytes (drop l.octet-index l.octets))) ≡ followed (piece_of l.initial.out l.initial.behind.items) (all (bytes l.octets))
