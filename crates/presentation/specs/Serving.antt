-- Which interface serves a syntax that is asked for, and the transfer syntax of this runtime.
use Rattle.std.specs.Prelude.{ℕ, Bool, ◌&&◌, ◌==◌, nat_le, Option, List, [], ◌∷◌, bytes_eq}
use Rattle.std.specs.List.{position, list_any}
use Rattle.rpc_base.specs.declared.identifiers.SyntaxId.{SyntaxId}

-- the transfer syntax NDR, 8a885d04-1ceb-11c9-9fe8-08002b104860 version 2.0
abbrev pub ndr : SyntaxId
ndr = record { id = 0x8a ∷ 0x88 ∷ 0x5d ∷ 0x04 ∷ 0x1c ∷ 0xeb ∷ 0x11 ∷ 0xc9 ∷ 0x9f ∷ 0xe8 ∷ 0x08 ∷ 0x00 ∷ 0x2b ∷ 0x10 ∷ 0x48 ∷ 0x60 ∷ []; major = 2; minor = 0 }

-- the syntax of a rejected element: 20 zero octets
abbrev pub no_syntax : SyntaxId
no_syntax = record { id = 0 ∷ 0 ∷ 0 ∷ 0 ∷ 0 ∷ 0 ∷ 0 ∷ 0 ∷ 0 ∷ 0 ∷ 0 ∷ 0 ∷ 0 ∷ 0 ∷ 0 ∷ 0 ∷ []; major = 0; minor = 0 }

-- An interface serves one that is asked for: it has its UUID and its major version, and no lower
-- minor version.
abbrev pub serves : SyntaxId → SyntaxId → Bool
serves asked served = bytes_eq served.id asked.id && (served.major == asked.major && nat_le asked.minor served.minor)

-- the number of the interface that serves the syntax, the least of those that do
abbrev pub serving : List SyntaxId → SyntaxId → Option ℕ
serving ids asked = position (serves asked) ids

abbrev pub is_ndr : SyntaxId → Bool
is_ndr s = bytes_eq s.id ndr.id && (s.major == ndr.major && s.minor == ndr.minor)

-- NDR is among the transfer syntaxes
abbrev pub has_ndr : List SyntaxId → Bool
has_ndr transfers = list_any is_ndr transfers
