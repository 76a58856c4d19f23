use Rattle.std.proofs.Common.{◌≡◌, take}
use Rattle.epm_manager.specs.Found.{last_number}
use Rattle.epm_manager.proofs.finding.last_number.Given as goal

abbrev pub invariant-loop-numbered : goal.invariant-loop-numbered
invariant-loop-numbered l = l.last ≡ last_number l.before (take l.numbered-index l.entries)
