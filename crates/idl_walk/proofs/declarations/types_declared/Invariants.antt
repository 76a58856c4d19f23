use Rattle.std.proofs.Common.{◌≡◌, drop}
use Rattle.idl_outline.specs.Outline.{types_past}
use Rattle.idl_walk.proofs.declarations.types_declared.Given as goal

abbrev pub invariant-loop-one : goal.invariant-loop-one
invariant-loop-one l = types_past (drop l.one-index l.declared) l.outline ≡ types_past l.declared l.initial.outline
