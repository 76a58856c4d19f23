-- What the types of interfaces' identifiers, and of numbers, hold.
use Rattle.std.specs.Prelude.{ℕ, ◌<◌, ◌^◌, List, [], ◌∷◌, slice_index}
use Rattle.rpc_base.specs.declared.identifiers.SyntaxId.{SyntaxId}
use Rattle.desk_kit.specs.Typed.{IsSyntax}

abbrev pub AreSyntaxes : List SyntaxId → Type 0
AreSyntaxes [] = Unit {0}
AreSyntaxes (s ∷ ss) = IsSyntax s × AreSyntaxes ss

-- each is below 2^32 (there is a 0 past the end)
abbrev pub AreWords : List ℕ → Type 0
AreWords ns = (i : ℕ) → slice_index ns i < 2 ^ 32
