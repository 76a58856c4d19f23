-- What the lexer keeps of the tokens that it has read.
use Rattle.std.specs.Prelude.{◌≡◌, ℕ, ◌+◌, Bool, false, List, [], ◌∷◌, length}
use Rattle.idl_tokens.specs.declared.kinds.Kind.{Kind}
use Rattle.idl_tokens.specs.declared.kinds.Token.{Token}
use Rattle.idl_tokens.specs.declared.lexer.Context.{Context}
use Rattle.idl_tokens.specs.declared.lexer.Step.{Step}
use Rattle.idl_tokens.specs.declared.lexer.Step.TheVariants as steps
use Rattle.idl_tokens.specs.Tokens.{depth_of, is_uuid_word, wants_uuid, Gap, BeginsWith, Cut}

abbrev pub ends_in_uuid : List Kind → Bool
ends_in_uuid [] = false
ends_in_uuid (kind ∷ before) = is_uuid_word kind

-- The context is that behind tokens of these kinds, the last one first.
pub record TellsContext (context : Context) (before : List Kind) : Type 0 where
  pub depth : context.depth ≡ depth_of before
  pub after_uuid : context.after_uuid ≡ ends_in_uuid before
  pub wants : context.wants_uuid ≡ wants_uuid before

-- the kinds of tokens, the last one first, in front of these
abbrev pub kinds_behind : List Kind → List Token → List Kind
kinds_behind before [] = before
kinds_behind before (t ∷ ts) = kinds_behind (t.kind ∷ before) ts

-- Behind tokens of these kinds, a token stands next in the text, or the last one.
abbrev pub IsStep : ℕ → List Kind → List ℕ → Step → Type 0
IsStep total before text (steps.More t rest) = (here : List ℕ) × Gap here text × (t.at + length here ≡ total) × BeginsWith before here t.kind rest.now
IsStep total before text (steps.Last t) = Cut total before text (t ∷ [])
