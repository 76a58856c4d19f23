-- Histories of entries, and places in them. A history is a list that grows at its end. A place is the number of an entry, from 0.
use Rattle.std.specs.Prelude.{◌≡◌, ℕ, zero, suc, ◌+◌, ◌<◌, ◌≤◌, ◌==◌, nat_lt, nat_le, if◌then◌else◌, List, [], ◌∷◌, ◌++◌, length, take}
use mathlib.Core.Option.{some}
use lib.ListN.{get_elem?}

-- how often p stands in the list
abbrev pub times : ℕ → List ℕ → ℕ
times p [] = 0
times p (q ∷ qs) = (if p == q then 1 else 0) + times p qs

-- f of each, added up
abbrev pub total : {A : Type 0} → (A → ℕ) → List A → ℕ
total f [] = 0
total f (x ∷ xs) = f x + total f xs

abbrev pub once_below : ℕ → ℕ → ℕ
once_below p n = if nat_lt p n then 1 else 0

-- the k places from n on
abbrev pub places : ℕ → ℕ → List ℕ
places n zero = []
places n (suc k) = n ∷ places (suc n) k

-- each of those places is below n
abbrev pub Within : List ℕ → ℕ → Type 0
Within own n = (p : ℕ) → 0 < times p own → p < n

-- no place stands there twice
abbrev pub AtMostOnce : List ℕ → Type 0
AtMostOnce own = (p : ℕ) → times p own ≤ 1

module _ {E : Type 0} where
  -- the history begins with the front
  abbrev pub StartsWith : List E → List E → Type 0
  StartsWith history front = (rest : List E) × (history ≡ front ++ rest)

  abbrev pub longer : List E → List E → List E
  longer xs ys = if nat_le (length xs) (length ys) then ys else xs

  abbrev pub shorter : List E → List E → List E
  shorter xs ys = if nat_le (length xs) (length ys) then xs else ys

  -- `ties before e p` says that the entry e, which is entered behind those before it, is tied to the one at p.
  module _ (ties : List E → E → ℕ → Type 0) where
    -- the entry at q is tied to the one at p, which is earlier
    abbrev pub Tied : List E → ℕ → ℕ → Type 0
    Tied history q p = (p < q) × ((e : E) × (get_elem? history q ≡ some e) × ties (take q history) e p)

    -- what is tied to an own entry is own
    abbrev pub Closed : List E → List ℕ → Type 0
    Closed history own = (q p : ℕ) → Tied history q p → 0 < times p own → 0 < times q own
