use Rattle.std.proofs.Common.{◌≡◌, drop}
use Rattle.idl_outline.specs.Parts.{sizes_past}
use Rattle.idl_outline.proofs.declarators.sizes_used.Given as goal

abbrev pub invariant-loop-dtor : goal.invariant-loop-dtor
invariant-loop-dtor l = sizes_past (drop l.dtor-index l.dtors) l.outline ≡ sizes_past l.dtors l.initial.outline
