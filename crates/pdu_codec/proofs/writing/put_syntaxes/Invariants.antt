use Rattle.std.proofs.Common.{◌≡◌, ◌++◌, take}
use Rattle.std.specs.List.{flat_map}
use Rattle.rpc_base.specs.Fields.{syntax_octets}
use Rattle.pdu_codec.proofs.writing.put_syntaxes.Given as goal

abbrev pub invariant-loop-syntax : goal.invariant-loop-syntax
invariant-loop-syntax l = l.into.items ≡ l.initial.into.items ++ flat_map (syntax_octets l.order) (take l.syntax-index l.syntaxes)
