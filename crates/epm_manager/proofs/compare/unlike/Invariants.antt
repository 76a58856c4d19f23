use Rattle.std.proofs.Common.{◌≡◌, take}
use Rattle.epm_manager.specs.Entries.{unlike}
use Rattle.epm_manager.proofs.compare.unlike.Given as goal

abbrev pub invariant-loop-numbered : goal.invariant-loop-numbered
invariant-loop-numbered l = l.rest.items ≡ unlike l.how l.others (take l.numbered-index l.entries)
