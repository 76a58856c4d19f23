use Rattle.std.proofs.Common.{◌≡◌, drop}
use Rattle.desk_kit.specs.Rows.{vals_then}
use Rattle.mgmt_manager.specs.Fits.{AreSyntaxes}
use Rattle.mgmt_manager.specs.Steps as spec
use Rattle.mgmt_manager.proofs.answers.heap.Given as goal

-- with the items that are left it is the whole, and all fit where these do
abbrev pub invariant-loop-id : goal.invariant-loop-id
invariant-loop-id l = (vals_then l.heap.items (spec.syntax_values (drop l.id-index l.ids)) ≡ spec.heap l.ids) × (AreSyntaxes (drop l.id-index l.ids) → AreSyntaxes l.ids)
