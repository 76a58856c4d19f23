use Rattle.std.proofs.Common.{◌≡◌, drop}
use Rattle.idl_names.specs.Symbols.{symbols, with_names}
use Rattle.idl_names.proofs.symbols.SymbolTable.with_names.Given as goal

abbrev pub invariant-loop-name : goal.invariant-loop-name
invariant-loop-name g l = record { place : l.number ≡ l.name-index; rest : with_names l.number (drop l.name-index l.names) (symbols l.self) ≡ with_names 0 l.names (symbols l.initial.self) }
