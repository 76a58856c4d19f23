use Rattle.std.proofs.Common.{◌≡◌, ◌++◌, drop}
use Rattle.ndr_value.specs.Values.{bytes}
use Rattle.value_text.specs.Texts.{more_text}
use Rattle.value_text.proofs.print.put_more_octets.Given as goal

abbrev pub invariant-loop-octet : goal.invariant-loop-octet
invariant-loop-octet l = l.into.items ++ more_text (bytes (drop l.octet-index l.octets)) ≡ l.initial.into.items ++ more_text (bytes l.octets)
