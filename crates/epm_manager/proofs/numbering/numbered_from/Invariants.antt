use Rattle.std.proofs.Common.{◌≡◌}
use Rattle.epm_manager.specs.Entries.{numbered_from, last_of}
use Rattle.epm_manager.specs.Wholes.{AllTyped}
use Rattle.epm_manager.proofs.numbering.numbered_from.Given as goal

abbrev pub invariant-loop-entry : goal.invariant-loop-entry
invariant-loop-entry l = record { typed : AllTyped l.numbered.items; entries : l.numbered.items ≡ numbered_from l.last l.yielded; last : l.number ≡ last_of l.last l.yielded }
