use Rattle.std.proofs.Common.{◌≡◌, ◌++◌, drop, map}
use Rattle.client_texts.specs.Heaps.{Aims}
use Rattle.client_texts.specs.Pointers.{aim_of, HasFirsts}
use Rattle.client_texts.proofs.heaps.note.Given as goal

abbrev pub invariant-loop-aim : goal.invariant-loop-aim
invariant-loop-aim l = (before : Aims) → HasFirsts l.initial.firsts before → (seen : Aims) × HasFirsts l.firsts seen × (seen ++ map aim_of (drop l.aim-index l.aims) ≡ before ++ map aim_of l.aims)
