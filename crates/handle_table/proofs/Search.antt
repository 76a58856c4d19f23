-- A search among rising serials ends where the serial stands, or would stand.
use Rattle.std.proofs.Common.{◌≡◌, ◌≢◌, ℕ, zero, suc, ◌+◌, ◌≤◌, ◌<◌, Bool, true, false, nat_lt, List, [], ◌∷◌, length, get_or, refl, sym, ◌∙◌, ap, subst, arith, inl, inr}
use Rattle.std.proofs.lemmas.Grind.{common_steps}
use Rattle.std.specs.List.Sorted.{IsPartitionedBy, IsPartitionPoint}
use Rattle.std.proofs.lemmas.List.{get_or_default}
use Rattle.std.proofs.lemmas.Bool.{cases_lt, ltb-true, ltb-false, lt-ltb}
use Rattle.handle_table.specs.Cells.{Cell, Climb, IsPlace, IsGap}

pub no_cell : Cell
no_cell = record { item = record { serial = 0; kind = 0; cookie = 0 }; live = false }

-- the serials from a place on are not below the least that may stand there
pub climb_low : (low : ℕ) (cells : List Cell) (j : ℕ) (d : Cell) → Climb low cells → j < length cells → low ≤ (get_or cells j d).item.serial
climb_low low [] j d r lt = absurd (omega arith)
climb_low low (c ∷ cells) zero d r lt = r.0
climb_low low (c ∷ cells) (suc j) d r lt = let more = climb_low (c.item.serial + 1) cells j d r.2 (omega arith) in let first = r.0 in omega arith

climb_order : (low : ℕ) (cells : List Cell) (j k : ℕ) (d : Cell) → Climb low cells → j < k → k < length cells → (get_or cells j d).item.serial < (get_or cells k d).item.serial
climb_order low [] j k d r lt l = absurd (omega arith)
climb_order low (c ∷ cells) zero zero d r lt l = absurd (omega arith)
climb_order low (c ∷ cells) zero (suc k) d r lt l = let more = climb_low (c.item.serial + 1) cells k d r.2 (omega arith) in omega arith
climb_order low (c ∷ cells) (suc j) zero d r lt l = absurd (omega arith)
climb_order low (c ∷ cells) (suc j) (suc k) d r lt l = climb_order (c.item.serial + 1) cells j k d r.2 (omega arith) (omega arith)

-- the place of a serial that is not there, by what was read at the place
pub gap_read : (cells : List Cell) (h i : ℕ) (e : Cell) → Climb 0 cells → IsPlace cells h i → (i < length cells → (get_or cells i e).item.serial ≢ h) → IsGap cells h i
gap_read cells h i e r p n =
    record {
      within = p.within;
      low = p.low;
      high = λ j d le lt.
          elim (cases_lt i j) [
            | inl below ↦ let least = p.high i d (omega arith) (omega arith) in let more = climb_order 0 cells i j d r below lt in omega arith
            | inr same ↦
                let at : j ≡ i = omega arith in
                let in_range : i < length cells = omega arith in
                let least = p.high j d le lt in
                let other = n in_range in
                let read : (get_or cells i e).item.serial ≡ (get_or cells j d).item.serial =
                ap (λ (x : Cell). x.item.serial) (get_or_default cells i e d in_range) ∙ subst (λ (m : ℕ). (get_or cells i d).item.serial ≡ (get_or cells m d).item.serial) (sym at) refl in
                elim (cases_lt h (get_or cells j d).item.serial) [
                  | inl up ↦ up
                  | inr down ↦ let is : (get_or cells j d).item.serial ≡ h = omega arith in absurd (other (read ∙ is))
                ]
          ];
    }
