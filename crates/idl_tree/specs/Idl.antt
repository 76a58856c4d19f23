-- Which tree a text has, and where a text departs from the grammar (C706, "Interface Definition Language").
use Rattle.std.specs.Prelude.{◌≡◌, ℕ, List, [], ◌∷◌, ◌++◌, ◌↔◌, Bool, true}
use Rattle.idl_tokens.specs.Ebnf.{Terminal, Matches}
use Rattle.idl_tokens.specs.declared.kinds.Token.{Token}
use Rattle.idl_tokens.specs.Terminals.{terminal, terminals}
use Rattle.idl_tokens.specs.Tokens.{AreTokens}
use Rattle.idl_tree.specs.Grammar.{rule, file}
use Rattle.idl_tree.specs.Pieces.{Written}
use Rattle.idl_tree.specs.Files.{ast_pieces}
use Rattle.idl_tree.specs.declared.declaration.Ast.{Ast}

-- The tokens are those that the tree spells, and the grammar takes them.
pub record IsTree (tokens : List Token) (tree : Ast) : Type 0 where
  pub spelled : Written (ast_pieces tree) tokens []
  pub taken : Matches rule file (terminals tokens) []

-- The text has this tree.
pub record IsIdl (text : List ℕ) (tree : Ast) : Type 0 where
  pub tokens : List Token
  pub cut : AreTokens text tokens
  pub tree_is : IsTree tokens tree

-- The tokens begin some text of the grammar.
abbrev pub BeginsText : List Terminal → Type 0
BeginsText ks = (more : List Terminal) × Matches rule file (ks ++ more) []

-- the same token, as small as can be: a number 0, or an opening bracket that no limit refuses
abbrev pub least : Terminal → Terminal
least k = record { class = k.class; size = 0 }

-- The tokens before this one begin some text of the grammar, and with it they begin none. It is oversized where a smaller
-- one of its class may stand there.
pub record FirstDeparture (tokens : List Token) (token : Token) (oversized : Bool) : Type 0 where
  pub before : List Token
  pub behind : List Token
  pub cut : tokens ≡ before ++ token ∷ behind
  pub begins : BeginsText (terminals before)
  pub no_further : BeginsText (terminals before ++ terminal token.kind ∷ []) → ⊥
  pub smaller : (oversized ≡ true) ↔ BeginsText (terminals before ++ least (terminal token.kind) ∷ [])
