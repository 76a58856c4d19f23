-- What a reader of a part of the grammar says.
use Rattle.std.specs.Prelude.{◌≡◌, ℕ, ◌<◌, List, ◌∷◌, Result, Ok, Err}
use Rattle.idl_tokens.specs.Ebnf.{Terminal}
use Rattle.idl_tokens.specs.Machine.{Stuck}
use Rattle.idl_tokens.specs.declared.kinds.Token.{Token}
use Rattle.idl_tokens.specs.Terminals.{terminal, terminals}
use Rattle.idl_parts.specs.declared.stop.Stop.{Stop}
use Rattle.idl_parts.specs.declared.stop.Stop.TheVariants as stops

-- a reader stops where the machine does, unless memory ran out
abbrev pub Stops : Stop → Result (List Terminal) Stuck → Type 0
Stops stops.Memory r = Unit {0}
Stops (stops.At odd rest) r = r ≡ Err (record { odd = odd; rest = terminals rest.now })

-- What a reader returned, its rest seen by rest_of, is what the machine answers, unless memory ran out.
abbrev pub Gives : {X : Type 0} → (X → List Token) → Result X Stop → Result (List Terminal) Stuck → Type 0
Gives rest_of (Ok x) r = r ≡ Ok (terminals (rest_of x))
Gives rest_of (Err e) r = Stops e r

-- the token was taken
pub record IsTaken (class limit : ℕ) (token : Token) (ts rest : List Token) : Type 0 where
  pub first : ts ≡ token ∷ rest
  pub class_is : (terminal token.kind).class ≡ class
  pub size_is : (terminal token.kind).size < limit
