use Rattle.std.proofs.Common.{◌≡◌, ◌++◌, take}
use Rattle.std.specs.List.{flat_map}
use Rattle.pdu_codec.specs.Pdus.{element_octets}
use Rattle.pdu_codec.proofs.writing.put_elements.Given as goal

abbrev pub invariant-loop-element : goal.invariant-loop-element
invariant-loop-element l = l.into.items ≡ l.initial.into.items ++ flat_map (element_octets l.order 0) (take l.element-index l.elements)
