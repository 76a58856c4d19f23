use Rattle.std.proofs.Common.{◌+◌, ◌≤◌, List, [], ◌++◌, length}
use Rattle.idl_tokens.specs.declared.kinds.Token.{Token}
use Rattle.idl_tokens.specs.Contexts.{TellsContext, kinds_behind}
use Rattle.idl_tokens.specs.Tokens.{Cut}
use Rattle.idl_tokens.proofs.lexer.tokens.Given as goal

abbrev pub invariant-tokens : goal.invariant-tokens
invariant-tokens l = record {
  tells : TellsContext l.context (kinds_behind [] l.tokens.items);
  room : l.context.depth + length l.rest ≤ length l.text;
  cut : (ts : List Token) → Cut (length l.text) (kinds_behind [] l.tokens.items) l.rest ts → Cut (length l.text) [] l.text (l.tokens.items ++ ts);
}

abbrev pub decreases-tokens : goal.decreases-tokens
decreases-tokens l = length l.rest
