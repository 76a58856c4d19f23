use Rattle.std.proofs.Common.{◌≡◌, drop}
use Rattle.idl_outline.specs.Parts.{names_past}
use Rattle.idl_walk.proofs.used.enum_names.Given as goal

abbrev pub invariant-loop-name : goal.invariant-loop-name
invariant-loop-name l = record {
  counted : l.number ≡ l.name-index;
  past : names_past l.number (drop l.name-index l.list) l.outline ≡ names_past 0 l.list l.initial.outline;
}
