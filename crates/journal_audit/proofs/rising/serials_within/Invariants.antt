use Rattle.std.proofs.Common.{◌≡◌, drop}
use Rattle.handle_model.specs.Bases.{serials_of}
use Rattle.handle_model.specs.Sound.{at_most}
use Rattle.journal_audit.proofs.rising.serials_within.Given as goal

-- what is left decides
abbrev pub invariant-loop-item : goal.invariant-loop-item
invariant-loop-item l = at_most l.most (serials_of l.items) ≡ at_most l.most (serials_of (drop l.item-index l.items))
