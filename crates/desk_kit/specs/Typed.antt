-- What the types of identifiers hold.
use Rattle.std.specs.Prelude.{◌≡◌, ◌<◌, ◌^◌, ℕ, List, length}
use Rattle.rpc_base.specs.declared.identifiers.SyntaxId.{SyntaxId}
use Rattle.rpc_base.specs.Fields.{IsOctets}

-- a UUID has sixteen octets
pub record IsUuid (id : List ℕ) : Type 0 where
  pub size : length id ≡ 16
  pub octets : IsOctets id

-- the numbers of a version have 16 bits
pub record IsSyntax (s : SyntaxId) : Type 0 where
  pub id : IsUuid s.id
  pub major : s.major < 2 ^ 16
  pub minor : s.minor < 2 ^ 16
