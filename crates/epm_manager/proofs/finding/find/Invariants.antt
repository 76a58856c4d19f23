use Rattle.std.proofs.Common.{take}
use Rattle.epm_manager.specs.Found.{found}
use Rattle.epm_manager.proofs.Filters.{Picked}
use Rattle.epm_manager.proofs.finding.find.Given as goal

abbrev pub invariant-loop-numbered : goal.invariant-loop-numbered
invariant-loop-numbered l = Picked (found l.wanted l.after (take l.numbered-index l.entries)) l.given.items l.most l.more
