-- The zeros of a gap.
use Rattle.std.proofs.Common.{◌≡◌, ◌≤◌, ℕ, take, replicate}
use Rattle.std.proofs.lemmas.List.{take-replicate}

pub gap_is : (n : ℕ) → n ≤ 7 → take {A = ℕ} n (replicate 7 0) ≡ replicate n 0
gap_is n le = take-replicate n 7 0 le
