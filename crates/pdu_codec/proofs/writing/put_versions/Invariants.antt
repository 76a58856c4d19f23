use Rattle.std.proofs.Common.{◌≡◌, ◌++◌, take}
use Rattle.std.specs.List.{flat_map}
use Rattle.pdu_codec.specs.Pdus.{version_octets}
use Rattle.pdu_codec.proofs.writing.put_versions.Given as goal

abbrev pub invariant-loop-version : goal.invariant-loop-version
invariant-loop-version l = l.into.items ≡ l.initial.into.items ++ flat_map version_octets (take l.version-index l.versions)
