use Rattle.std.proofs.Common.{◌+◌, length, map, if◌then◌else◌}
use Rattle.ndr_value.specs.Forms.{types_of}
use Rattle.client_texts.specs.Heaps.{Aims}
use Rattle.client_texts.specs.Pointers.{aim_of, HasFirsts}
use Rattle.client_texts.specs.Renaming.{is_none}
use Rattle.client_texts.proofs.Listed.{Came}
use Rattle.client_texts.proofs.heaps.read_items.Given as goal

abbrev pub invariant-loop-rest : goal.invariant-loop-rest
invariant-loop-rest l = (met : Aims) × HasFirsts l.firsts met × Came (types_of l.types.items) (map aim_of l.before) l.text l.items.items met l.rest

abbrev pub decreases-loop-rest : goal.decreases-loop-rest
decreases-loop-rest l = length l.rest + (if is_none l.items.items then 1 else 0)
