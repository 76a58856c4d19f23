use Rattle.std.proofs.Common.{◌≡◌, drop}
use Rattle.handle_model.specs.Bases.{serials_of}
use Rattle.handle_model.specs.Sound.{rise_above}
use Rattle.journal_audit.proofs.rising.serials_rise.Given as goal

-- what is left decides
abbrev pub invariant-loop-item : goal.invariant-loop-item
invariant-loop-item l = rise_above 0 (serials_of l.items) ≡ rise_above l.last (serials_of (drop l.item-index l.items))
