-- Why a text is refused.
use Rattle.std.specs.Prelude.{◌≡◌, ◌≢◌, ℕ, List, Bool, true, false, Option}
use Rattle.idl_tokens.specs.declared.marks.Bracket.{Bracket}
use Rattle.idl_tokens.specs.declared.kinds.Kind.{Kind}
use Rattle.idl_tokens.specs.declared.kinds.Kind.TheVariants as kinds
use Rattle.idl_tokens.specs.declared.kinds.Token.{Token}
use Rattle.idl_tokens.specs.Tokens.{AreTokens}
use Rattle.idl_tree.specs.Idl.{FirstDeparture}
use Rattle.idl_reader.specs.declared.fault.IdlFault.{IdlFault}
use Rattle.idl_reader.specs.declared.fault.IdlFault.TheVariants.{BadToken, Expected, TooLarge, TooDeep, Memory}

-- The first departure of the tokens is one at this octet, of which the fact holds: of its kind, and of whether its size
-- alone is at fault.
pub record DepartsAt (tokens : List Token) (at : ℕ) (P : Kind → Bool → Type 0) : Type 0 where
  pub token : Token
  pub oversized : Bool
  pub first : FirstDeparture tokens token oversized
  pub place : token.at ≡ at
  pub kind_is : P token.kind oversized

abbrev pub IsNumber : Kind → Type 0
IsNumber kind = (n : Option ℕ) × (kind ≡ kinds.Number n)

abbrev pub IsOpening : Kind → Type 0
IsOpening kind = (bracket : Bracket) × (level : ℕ) × (kind ≡ kinds.Open bracket level)

-- the cause of each fault, by the tokens
abbrev pub Refuses : List Token → IdlFault → Type 0
Refuses tokens (BadToken at) = DepartsAt tokens at (λ kind oversized. kind ≡ kinds.Bad)
Refuses tokens (Expected at) = DepartsAt tokens at (λ kind oversized. (kind ≢ kinds.Bad) × (oversized ≡ false))
Refuses tokens (TooLarge at) = DepartsAt tokens at (λ kind oversized. IsNumber kind × (oversized ≡ true))
Refuses tokens (TooDeep at) = DepartsAt tokens at (λ kind oversized. IsOpening kind × (oversized ≡ true))
Refuses tokens Memory = Unit {0}

-- and by the text
abbrev pub IsCause : List ℕ → IdlFault → Type 0
IsCause text Memory = Unit {0}
IsCause text fault = (tokens : List Token) × AreTokens text tokens × Refuses tokens fault

-- the fault that a departure is called, by its token
abbrev pub IsCalled : Bool → Token → IdlFault → Type 0
IsCalled oversized token (BadToken at) = (token.at ≡ at) × (token.kind ≡ kinds.Bad)
IsCalled oversized token (Expected at) = (token.at ≡ at) × (token.kind ≢ kinds.Bad) × (oversized ≡ false)
IsCalled oversized token (TooLarge at) = (token.at ≡ at) × IsNumber token.kind × (oversized ≡ true)
IsCalled oversized token (TooDeep at) = (token.at ≡ at) × IsOpening token.kind × (oversized ≡ true)
IsCalled oversized token Memory = ⊥
