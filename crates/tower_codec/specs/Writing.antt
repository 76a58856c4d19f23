-- What stays where writing fails.
use Rattle.std.specs.Prelude.{◌≡◌, ℕ, List, length, take}

-- The old octets stand in front of the new.
abbrev pub KeepsFront : List ℕ → List ℕ → Type 0
KeepsFront old new = take (length old) new ≡ old
