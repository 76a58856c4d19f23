use Rattle.std.proofs.Common.{◌≡◌, ◌++◌, drop}
use Rattle.idl_outline.specs.Names.{each_declared}
use Rattle.idl_outline.proofs.declarators.each_declared.Given as goal

abbrev pub invariant-loop-dtor : goal.invariant-loop-dtor
invariant-loop-dtor l = l.all ++ each_declared l.outline l.handle l.kind l.manner l.ty (drop l.dtor-index l.dtors) ≡ each_declared l.outline l.handle l.first l.manner l.ty l.dtors
