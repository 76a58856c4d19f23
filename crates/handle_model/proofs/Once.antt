-- What passes a test once.
use Rattle.std.proofs.Common.{◌≡◌, ◌≤◌, ◌+◌, Bool, true, false, List, [], ◌∷◌, length, refl, arith, inl, inr}
use Rattle.std.specs.List.{list_any, filter}
use Rattle.std.proofs.lemmas.Bool.{cases_Bool, or_parts}
use Rattle.handle_model.specs.declared.entry.Entry.{Entry}
use Rattle.handle_model.specs.Further.{once_where}

-- what passes at no entry is counted not at all
pub none_passes : {X : Type 0} (p : X → Bool) (xs : List X) → list_any p xs ≡ false → length (filter p xs) ≡ 0
none_passes p [] n = refl
none_passes p (x ∷ xs) n = let h = or_parts (p x) (list_any p xs) n in rw h.0 (none_passes p xs h.1)

-- a test passes at most once where it passes at no entry after one at which it passes
pub once_more : (p : Entry → Bool) (e : Entry) (past : List Entry) → (p e ≡ true → list_any p past ≡ false) → length (filter p past) ≤ 1 → length (filter p (e ∷ past)) ≤ 1
once_more p e past f le =
    elim (cases_Bool (p e)) [
      | inl t ↦ let none = none_passes p past (f t) in rw t (omega arith)
      | inr t ↦ rw t le
    ]

-- the same where a base counts beside the entries, and a test passes at none where the base has it
pub once_since : (b : Bool) (p : Entry → Bool) (e : Entry) (past : List Entry) → (p e ≡ true → b ≡ false) → (p e ≡ true → list_any p past ≡ false) → once_where b + length (filter p past) ≤ 1 → once_where b + length (filter p (e ∷ past)) ≤ 1
once_since b p e past g f le =
    elim (cases_Bool (p e)) [
      | inl t ↦ let none = none_passes p past (f t) in let no = g t in rw (t, no) (omega arith)
      | inr t ↦ rw t le
    ]

pub once_start : (b : Bool) → once_where b + 0 ≤ 1
once_start true = omega arith
once_start false = omega arith
