-- What encoding answers.
use Rattle.std.specs.Prelude.{ℕ, ◌<◌, ◌≤◌, ◌^◌, Result, Ok, Err}
use Rattle.ndr_codec.specs.declared.written.EncodeFault.{EncodeFault}
use Rattle.ndr_codec.specs.declared.written.EncodeFault.TheVariants.{TooLong, Memory}

-- for canonical octets of that number: too long exactly where they are more than a stub may have, unless memory ran out
abbrev pub Encodes : {A : Type 0} → Result A EncodeFault → ℕ → Type 0
Encodes (Ok _) n = n ≤ 2 ^ 26
Encodes (Err TooLong) n = 2 ^ 26 < n
Encodes (Err Memory) n = Unit {0}
