-- Laws of interface texts.
use Rattle.std.specs.Prelude.{◌≡◌, ◌↔◌, List, [], Bool}
use Rattle.idl_tokens.specs.Ebnf.{Terminal, Matches}
use Rattle.idl_tokens.specs.declared.kinds.Token.{Token}
use Rattle.idl_tokens.specs.Terminals.{terminals}
use Rattle.idl_tree.specs.Grammar.{rule, file}
use Rattle.idl_tree.specs.Idl.{FirstDeparture}
use Rattle.idl_laws.specs.AsWritten.{written_rule}

abbrev pub MatchesAsWritten : Type 0
MatchesAsWritten = (ks : List Terminal) → Matches rule file ks [] ↔ Matches written_rule file ks []

abbrev pub DepartsOnce : Type 0
DepartsOnce = (tokens : List Token) (s t : Token) (o p : Bool) → FirstDeparture tokens s o → FirstDeparture tokens t p → (s ≡ t) × (o ≡ p)

abbrev pub TakenDoNotDepart : Type 0
TakenDoNotDepart = (tokens : List Token) (t : Token) (o : Bool) → Matches rule file (terminals tokens) [] → FirstDeparture tokens t o → ⊥
