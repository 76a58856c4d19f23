-- Octets one by one.
use Rattle.std.proofs.Common.{◌≡◌, ℕ, zero, suc, ◌+◌, ◌<◌, ◌≤◌, Bool, true, false, List, [], ◌∷◌, length, take, drop, None, Ok, Err, refl, ap, ◌∙◌, arith}
use Rattle.std.specs.Prelude.{nat_lt, slice_index}
use Rattle.std.proofs.lemmas.Bool.{lt-ltb, le-ltb, ltb-true, ltb-false}
use Rattle.std.proofs.lemmas.Grind.{common_steps}
use Rattle.rpc_base.specs.declared.identifiers.Order.{Order}
use Rattle.ndr_value.specs.Forms.{Form, OfByte}
use Rattle.ndr_scalars.specs.Scalars.{up, number_at}
use Rattle.ndr_arrays.specs.Bind.{◌>>=◌}
use Rattle.ndr_model.specs.declared.departure.Departure.TheVariants.{Short, TooDeep}
use Rattle.ndr_model.specs.Places.{Place, past}
use Rattle.ndr_model.specs.Reading.{number}
use Rattle.ndr_model.specs.Scan.{Scanned, scan, times}

pub octet_is : (octets : List ℕ) (i : ℕ) → i < length octets → slice_index (take 1 (drop i octets)) 0 ≡ slice_index octets i
octet_is [] i lt = absurd (omega (arith, lt))
octet_is (x ∷ xs) zero lt = refl
octet_is (x ∷ xs) (suc i) lt = octet_is xs i (grind (arith, common_steps, lt))

up_one : (i : ℕ) → up i 1 ≡ i
up_one i = omega arith

module _ (types : List Form) (order : Order) (octets : List ℕ) where
  pub octet_read : (i : ℕ) → i < length octets → number order octets 1 i ≡ Ok (slice_index octets i, i + 1)
  unfolding number_at
  octet_read i lt =
      let u = up_one i in
      let f : nat_lt (length octets) (i + 1) ≡ false = le-ltb _ _ (omega (arith, lt)) in
      let o = octet_is octets i lt in
      rw (u, f, o) refl

  pub octet_short : (i : ℕ) → length octets ≤ i → number order octets 1 i ≡ Err (Short (length octets))
  unfolding number_at
  octet_short i le =
      let u = up_one i in
      let f : nat_lt (length octets) (i + 1) ≡ true = lt-ltb _ _ (omega (arith, le)) in
      rw (u, f) refl

  byte_past : (n room : ℕ) (p : Place) → p.at < length octets → scan types order octets (suc n) room None OfByte p ≡ Ok (past p (p.at + 1))
  unfolding scan
  byte_past n room p lt = ap (λ r. r >>= λ x. Ok (past p x.1)) (octet_read p.at lt)

  byte_short : (n room : ℕ) (p : Place) → length octets ≤ p.at → scan types order octets (suc n) room None OfByte p ≡ Err (Short (length octets))
  unfolding scan
  byte_short n room p le = ap (λ r. r >>= λ x. Ok (past p x.1)) (octet_short p.at le)

  pub bytes_past : (n room m : ℕ) (p : Place) → p.at + m ≤ length octets → times (scan types order octets (suc n) room None OfByte) m p ≡ Ok (past p (p.at + m))
  bytes_past n room zero p le = let e : p.at + 0 ≡ p.at = omega arith in rw e refl
  bytes_past n room (suc m) p le =
      let e : p.at + 1 + m ≡ p.at + suc m = omega arith in
      ap (λ (r : Scanned). r >>= λ h. times (scan types order octets (suc n) room None OfByte) m h) (byte_past n room p (omega (arith, le)))
      ∙ bytes_past n room m (past p (p.at + 1)) (omega (arith, le)) ∙ ap (λ (j : ℕ). Ok (past p j)) e

  bytes_end : (n room m : ℕ) (p : Place) (b : Bool) → nat_lt p.at (length octets) ≡ b
      → (p.at < length octets → times (scan types order octets (suc n) room None OfByte) m (past p (p.at + 1)) ≡ Err (Short (length octets)))
      → times (scan types order octets (suc n) room None OfByte) (suc m) p ≡ Err (Short (length octets))
  bytes_end n room m p true e more =
      let lt : p.at < length octets = ltb-true _ _ e in
      ap (λ (r : Scanned). r >>= λ h. times (scan types order octets (suc n) room None OfByte) m h) (byte_past n room p lt) ∙ more lt
  bytes_end n room m p false e more = ap (λ (r : Scanned). r >>= λ h. times (scan types order octets (suc n) room None OfByte) m h) (byte_short n room p (ltb-false _ _ e))

  pub bytes_short : (n room m : ℕ) (p : Place) → length octets < p.at + suc m → times (scan types order octets (suc n) room None OfByte) (suc m) p ≡ Err (Short (length octets))
  bytes_short n room zero p le = bytes_end n room zero p (nat_lt p.at (length octets)) refl (λ lt. absurd (omega (arith, le, lt)))
  bytes_short n room (suc m) p le = bytes_end n room (suc m) p (nat_lt p.at (length octets)) refl (λ lt. bytes_short n room m (past p (p.at + 1)) (omega (arith, le)))

  -- ---- as the code tests it
  pub many_past : (n room m : ℕ) (p : Place) → (n ≡ 0 → ⊥) → p.at + m ≤ length octets → times (scan types order octets n room None OfByte) m p ≡ Ok (past p (p.at + m))
  many_past zero room m p some le = absurd (some refl)
  many_past (suc n) room m p some le = bytes_past n room m p le

  pub many_short : (n room m : ℕ) (p : Place) → (n ≡ 0 → ⊥) → (m ≡ 0 → ⊥) → length octets < p.at + m → times (scan types order octets n room None OfByte) m p ≡ Err (Short (length octets))
  many_short zero room m p some any lt = absurd (some refl)
  many_short (suc n) room zero p some any lt = absurd (any refl)
  many_short (suc n) room (suc m) p some any lt = bytes_short n room m p lt

  pub many_deep : (n room m : ℕ) (p : Place) → n ≡ 0 → (m ≡ 0 → ⊥) → times (scan types order octets n room None OfByte) m p ≡ Err (TooDeep p.at)
  unfolding scan
  many_deep zero room zero p none any = absurd (any refl)
  many_deep zero room (suc m) p none any = refl
  many_deep (suc n) room m p none any = absurd (omega (arith, none))
