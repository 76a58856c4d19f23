-- The numbers that integers hold.
use Rattle.std.specs.Prelude.{ℕ, ◌^◌, ◌==◌, Bool, false, ◌&&◌, if◌then◌else◌, ℤ, pos, neg_ℤ, int_le, int_lt}

-- low ≤ z < high
abbrev pub within : ℤ → ℤ → ℤ → Bool
within low high z = int_le low z && int_lt z high

-- an integer of 1, 2, 4 or 8 octets holds the number
abbrev pub unsigned_holds : ℕ → ℤ → Bool
unsigned_holds size z =
    if size == 1 then within (pos 0) (pos (2 ^ 8)) z else (if size == 2 then within (pos 0) (pos (2 ^ 16)) z
    else (if size == 4 then within (pos 0) (pos (2 ^ 32)) z else (if size == 8 then within (pos 0) (pos (2 ^ 64)) z else false)))

abbrev pub signed_holds : ℕ → ℤ → Bool
signed_holds size z =
    if size == 1 then within (neg_ℤ (pos (2 ^ 7))) (pos (2 ^ 7)) z else (if size == 2 then within (neg_ℤ (pos (2 ^ 15))) (pos (2 ^ 15)) z
    else (if size == 4 then within (neg_ℤ (pos (2 ^ 31))) (pos (2 ^ 31)) z else (if size == 8 then within (neg_ℤ (pos (2 ^ 63))) (pos (2 ^ 63)) z else false)))

abbrev pub int_holds : Bool → ℕ → ℤ → Bool
int_holds unsigned size z = if unsigned then unsigned_holds size z else signed_holds size z
