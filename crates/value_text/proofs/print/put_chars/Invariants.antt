use Rattle.std.proofs.Common.{◌≡◌, ◌++◌, drop}
use Rattle.std.specs.List.{flat_map}
use Rattle.value_text.specs.Texts.{char_text}
use Rattle.value_text.proofs.print.put_chars.Given as goal

abbrev pub invariant-loop-octet : goal.invariant-loop-octet
invariant-loop-octet l = l.into.items ++ flat_map char_text (drop l.octet-index l.octets) ≡ l.initial.into.items ++ flat_map char_text l.octets
