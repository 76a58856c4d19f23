use Rattle.std.proofs.Common.{◌≡◌, ◌++◌, drop, map}
use Rattle.idl_rules.specs.Duplicate.{name_of}
use Rattle.idl_rules.proofs.duplicates.add_names.Given as goal

abbrev pub invariant-loop-one : goal.invariant-loop-one
invariant-loop-one l = l.names ++ map name_of (drop l.one-index l.declared) ≡ l.initial.names ++ map name_of l.declared
