use Rattle.std.proofs.Common.{◌≡◌, ◌++◌, drop}
use Rattle.ndr_value.specs.Values.{vals}
use Rattle.manager_api.specs.Arguments.{bytes_in}
use Rattle.manager_api.proofs.arguments.collected.Given as goal

-- with the bytes that are left it is the whole
abbrev pub invariant-loop-byte : goal.invariant-loop-byte
invariant-loop-byte l = l.octets ++ bytes_in (vals (drop l.byte-index l.bytes)) ≡ bytes_in (vals l.bytes)
