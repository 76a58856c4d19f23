use Rattle.std.proofs.Common.{◌≡◌, ◌++◌, []}
use Rattle.idl_outline.specs.Types.{chain}
use Rattle.idl_outline.proofs.types.add_chain.Given as goal

abbrev pub invariant-loop-made : goal.invariant-loop-made
invariant-loop-made l = l.layers ≡ l.initial.layers ++ chain l.class l.made []
