-- The numbers that a load is made of.
use Rattle.std.specs.Prelude.{ℕ, zero, suc, ◌+◌, ◌*◌, ◌/◌, ◌%◌, ◌^◌}

abbrev pub next_number : ℕ → ℕ
next_number x = (x * 6364136223846793005 + 1442695040888963407) % 2 ^ 64

-- the number that so many steps come to
abbrev pub number_at : ℕ → ℕ → ℕ
number_at number zero = number
number_at number (suc n) = next_number (number_at number n)

-- what a number draws are its upper 31 bits
abbrev pub drawn : ℕ → ℕ
drawn x = x / 2 ^ 33

-- The lowest three bits of a draw are the slot, from 0; the next three choose what happens there; and the others say with
-- which group or which slot's handle.
abbrev pub slot_of : ℕ → ℕ
slot_of y = y % 8

abbrev pub choice_of : ℕ → ℕ
choice_of y = y / 8 % 8

abbrev pub rest_of : ℕ → ℕ
rest_of y = y / 64
