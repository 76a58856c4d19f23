-- What a value that folds its history still lists.
use Rattle.std.proofs.Common.{ℕ, ◌<◌, ◌≤◌, List, arith}
use mathlib.Core.Logic.{dite}
use native.Mathlib.Decide.{dec_le}
use Rattle.turn_lock.specs.Histories.{times, Tied, Closed}

-- The first `count` entries of the log were folded, and each of those that satisfies `heads` has one that is tied to it.
-- Then an own entry that satisfies it, and to which no own entry is tied, was not folded.
pub own_listed : {E : Type 0} (ties : List E → E → ℕ → Type 0) (heads : ℕ → Type 0) (log : List E) (own : List ℕ) (count p : ℕ) → Closed ties log own
    → ((k : ℕ) → k < count → heads k → (q : ℕ) × Tied ties log q k) → 0 < times p own → heads p → ((q : ℕ) → Tied ties log q p → 0 < times q own → ⊥) → count ≤ p
own_listed ties heads log own count p closed folded mine head alone = dite (dec_le count p) (λ l. l)
    (λ gone. let f = folded p (omega arith) head in absurd (alone f.0 f.1 (closed f.0 p f.1 mine)))
