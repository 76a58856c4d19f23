-- A search among the rising serials of an index.
use Rattle.std.proofs.Common.{◌≡◌, ℕ, zero, suc, ◌+◌, ◌-◌, ◌<◌, ◌≤◌, Bool, true, false, List, [], ◌∷◌, length, map, get_or, refl, sym, ◌∙◌, ap, subst, arith, inl, inr}
use Rattle.std.specs.Prelude.{nat_lt}
use Rattle.std.specs.List.{AllByRecursion}
use Rattle.std.specs.List.Sorted.{IsPartitionedBy, IsPartitionPoint}
use Rattle.std.proofs.lemmas.List.{get_or_default}
use Rattle.std.proofs.lemmas.Bool.{cases_lt, ltb-true, ltb-false, lt-ltb}
use Rattle.slab.specs.Slab.{Slab}
use Rattle.handle_model.specs.declared.entry.DueItem.{DueItem}
use Rattle.handle_table.specs.declared.places.Place.{Place}
use Rattle.handle_table.specs.Cells.{Cell, Climb, IsPlace}
use Rattle.handle_table.specs.Places.{cell_at, cells_in, Stands, PlacesRise, IsSerialPlace}
use Rattle.handle_table.proofs.Placed.{cell_serial, size_in, serial_read}

pub places_rise : (low : ℕ) (s : Slab DueItem) (ps : List Place) → AllByRecursion (Stands s) ps → Climb low (cells_in s ps) → PlacesRise low ps
places_rise low s [] h r = tt
places_rise low s (p ∷ ps) h r =
    let e = cell_serial s p h.0 in
    let more : PlacesRise ((cell_at s p).item.serial + 1) ps = places_rise ((cell_at s p).item.serial + 1) s ps h.1 r.2 in
    (subst (λ n. low ≤ n) e r.0, subst (λ n. PlacesRise (n + 1) ps) e more)

rise_at : (low : ℕ) (ps : List Place) (j : ℕ) (d : Place) → PlacesRise low ps → j < length ps → low ≤ (get_or ps j d).serial
rise_at low [] j d r lt = absurd (omega arith)
rise_at low (p ∷ ps) zero d r lt = r.0
rise_at low (p ∷ ps) (suc j) d r lt = let more = rise_at (p.serial + 1) ps j d r.1 (omega arith) in let first = r.0 in omega arith

rise_order : (low : ℕ) (ps : List Place) (i j : ℕ) (d : Place) → PlacesRise low ps → i < j → j < length ps → (get_or ps i d).serial < (get_or ps j d).serial
rise_order low [] i j d r lt l = absurd (omega arith)
rise_order low (p ∷ ps) zero zero d r lt l = absurd (omega arith)
rise_order low (p ∷ ps) zero (suc j) d r lt l = let more = rise_at (p.serial + 1) ps j d r.1 (omega arith) in omega arith
rise_order low (p ∷ ps) (suc i) zero d r lt l = absurd (omega arith)
rise_order low (p ∷ ps) (suc i) (suc j) d r lt l = rise_order (p.serial + 1) ps i j d r.1 (omega arith) (omega arith)

abbrev pub is_low : ℕ → Place → Bool
is_low n p = nat_lt p.serial n

-- what a search for a place asks, and what it answers
pub parted : (ps : List Place) (n : ℕ) → PlacesRise 0 ps → IsPartitionedBy (is_low n) ps
parted ps n r i j d le lt p =
    elim (cases_lt i j) [
      | inl below ↦
          let less = rise_order 0 ps i j d r below lt in
          let low : (get_or ps j d).serial < n = ltb-true _ _ p in lt-ltb (get_or ps i d).serial n (omega arith)
      | inr same ↦ let e : j ≡ i = omega arith in subst (λ (m : ℕ). is_low n (get_or ps m d) ≡ true) e p
    ]

pub placed : (ps : List Place) (n i : ℕ) → i ≤ length ps → IsPartitionPoint (λ y. is_low n y ≡ true) (λ y. is_low n y ≡ false) ps i → IsSerialPlace ps n i
placed ps n i le p =
    record {
      within = le;
      low = λ j d lt. ltb-true _ _ (p.0 j d (omega arith) lt);
      high = λ j d le' lt. ltb-false _ _ (p.1 j d le' lt);
    }

abbrev pub no_place : Place
no_place = record { serial = 0; key = 0 }

-- a place is that of a serial, by the two beside it
pub split_place : (ps : List Place) (n i : ℕ) → PlacesRise 0 ps → i ≤ length ps → (0 < i → (get_or ps (i - 1) no_place).serial < n) → (i < length ps → n ≤ (get_or ps i no_place).serial) → IsSerialPlace ps n i
split_place ps n i r le before here =
    record {
      within = le;
      low = λ j d lt.
          let top : (get_or ps (i - 1) d).serial < n = subst (λ (x : Place). x.serial < n) (get_or_default ps (i - 1) no_place d (omega arith)) (before (omega arith)) in
          elim (cases_lt j (i - 1)) [
            | inl below ↦ let less = rise_order 0 ps j (i - 1) d r below (omega arith) in omega arith
            | inr same ↦ let e : i - 1 ≡ j = omega arith in subst (λ (m : ℕ). (get_or ps m d).serial < n) e top
          ];
      high = λ j d from lt.
          let least : n ≤ (get_or ps i d).serial = subst (λ (x : Place). n ≤ x.serial) (get_or_default ps i no_place d (omega arith)) (here (omega arith)) in
          elim (cases_lt i j) [
            | inl above ↦ let more = rise_order 0 ps i j d r above lt in omega arith
            | inr same ↦ let e : i ≡ j = omega arith in subst (λ (m : ℕ). n ≤ (get_or ps m d).serial) e least
          ];
    }

serial_in : (s : Slab DueItem) (ps : List Place) (j : ℕ) (c : Cell) → AllByRecursion (Stands s) ps → j < length ps → (get_or (cells_in s ps) j c).item.serial ≡ (get_or ps j no_place).serial
serial_in s ps j c h lt = serial_read s ps j (get_or ps j no_place) c h lt (get_or_default ps j no_place (get_or ps j no_place) lt)

pub place_in : (s : Slab DueItem) (ps : List Place) (n i : ℕ) → AllByRecursion (Stands s) ps → IsSerialPlace ps n i → IsPlace (cells_in s ps) n i
place_in s ps n i h p =
    let size = size_in s ps in
    let le = p.within in
    record {
      within = omega arith;
      low = λ j d lt. subst (λ m. m < n) (sym (serial_in s ps j d h (omega arith))) (p.low j no_place lt);
      high = λ j d l lt. subst (λ m. n ≤ m) (sym (serial_in s ps j d h (omega arith))) (p.high j no_place l (omega arith));
    }
