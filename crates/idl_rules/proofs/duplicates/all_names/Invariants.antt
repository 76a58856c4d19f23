use Rattle.std.proofs.Common.{◌≡◌, ◌++◌, drop}
use Rattle.idl_rules.specs.Duplicate.{names_of}
use Rattle.idl_rules.proofs.duplicates.all_names.Given as goal

abbrev pub invariant-loop-field : goal.invariant-loop-field
invariant-loop-field l = l.names ++ names_of (drop l.field-index l.fields) ≡ names_of l.fields
