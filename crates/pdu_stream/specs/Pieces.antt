-- A stub in the pieces of its fragments (C706, "Connection-oriented RPC PDUs", fragmentation and reassembly).
use Rattle.std.specs.Prelude.{◌≡◌, ℕ, ◌-◌, ◌*◌, ◌/◌, ◌<◌, ◌≤◌, ◌==◌, ◌||◌, nat_lt, min, List, [], ◌∷◌, ◌++◌, length, take, drop, Option, Some, None, slice_get, if◌then◌else◌}
use Rattle.std.specs.List.{flat_map}

-- how many octets of a stub a fragment has that is not the last, given its most octets and those before the stub
abbrev pub piece_size : ℕ → ℕ → ℕ
piece_size most head = (most - head) / 8 * 8

-- The stub is these pieces, in order: each has that size but the last, which has no more. No piece is empty but that
-- of an empty stub.
abbrev pub ArePieces : ℕ → List ℕ → List (List ℕ) → Type 0
ArePieces size stub [] = ⊥
ArePieces size stub (piece ∷ []) = (stub ≡ piece) × (length piece ≤ size)
ArePieces size stub (piece ∷ next ∷ others) =
    (later : List ℕ) × (stub ≡ piece ++ later) × (length piece ≡ size) × (0 < length later) × ArePieces size later (next ∷ others)

-- where piece k of so many octets begins, and how many it has
abbrev pub piece_at : ℕ → ℕ → ℕ → Option (ℕ × ℕ)
piece_at size octets k =
    if k == 0 || nat_lt (k * size) octets then Some (k * size, min size (octets - k * size)) else None

-- the octets of the stub there
abbrev pub octets_at : List ℕ → Option (ℕ × ℕ) → Option (List ℕ)
octets_at stub None = None
octets_at stub (Some place) = Some (take place.1 (drop place.0 stub))

-- The pieces are the stub, one after the other, and `piece_at` has the place of each.
pub record IsCovered (size : ℕ) (stub : List ℕ) (pieces : List (List ℕ)) : Type 0 where
  pub whole : flat_map (λ piece. piece) pieces ≡ stub
  pub places : (k : ℕ) → octets_at stub (piece_at size (length stub) k) ≡ slice_get pieces k
