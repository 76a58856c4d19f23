-- How many handles of a desk there are: issued, and neither closed nor run down.
use Rattle.std.specs.Prelude.{ℕ, ◌+◌, ◌-◌, ◌^◌, min, Option, Some, None}

-- one more is issued; the number stays within 64 bits
abbrev pub one_more : ℕ → ℕ
one_more n = min (n + 1) (2 ^ 64 - 1)

-- one is closed or run down
abbrev pub one_less : ℕ → ℕ
one_less n = n - 1

-- the handle of a cookie is closed; one that came as null was none
abbrev pub without : Option ℕ → ℕ → ℕ
without None handles = handles
without (Some cookie) handles = one_less handles
