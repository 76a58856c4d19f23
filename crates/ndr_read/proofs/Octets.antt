-- Octets one by one.
use Rattle.std.proofs.Common.{◌≡◌, ℕ, zero, suc, ◌+◌, ◌<◌, ◌≤◌, Bool, true, false, List, ◌∷◌, length, take, drop, None, Ok, Err, refl, sym, ap, ◌∙◌, add-one, drop-cons, arith}
use Rattle.std.specs.Prelude.{nat_lt, slice_index}
use Rattle.std.proofs.lemmas.Bool.{ltb-true, ltb-false}
use Rattle.rpc_base.specs.declared.identifiers.Order.{Order}
use Rattle.ndr_value.specs.Forms.{Form, OfByte}
use Rattle.ndr_arrays.specs.Bind.{◌>>=◌}
use Rattle.ndr_model.specs.declared.departure.Departure.TheVariants.{Short, TooDeep}
use Rattle.ndr_value.specs.Values.{VByte, VArray, Vals, then_val, bytes}
use Rattle.ndr_model.specs.Places.{Last}
use Rattle.ndr_model.specs.Build.{Cursor, ahead, ends, Built, Row, build, built_times, in_array}
use Rattle.ndr_pointers.proofs.Octets.{octet_read, octet_short}

module _ (types : List Form) (order : Order) (octets : List ℕ) where
  byte_built : (n room : ℕ) (a : Cursor) (q : Last) → a.at < length octets → build types order octets (suc n) room None OfByte a q ≡ Ok (VByte (slice_index octets a.at), ends (ahead a (a.at + 1)) q)
  unfolding build
  byte_built n room a q lt = ap (λ r. r >>= λ x. Ok (VByte x.0, ends (ahead a x.1) q)) (octet_read types order octets a.at lt)

  byte_ends : (n room : ℕ) (a : Cursor) (q : Last) → length octets ≤ a.at → build types order octets (suc n) room None OfByte a q ≡ Err (Short (length octets))
  unfolding build
  byte_ends n room a q le = ap (λ r. r >>= λ x. Ok (VByte x.0, ends (ahead a x.1) q)) (octet_short types order octets a.at le)

  cells_more : (i m : ℕ) → i < length octets → bytes (take (suc m) (drop i octets)) ≡ then_val (VByte (slice_index octets i)) (bytes (take m (drop (i + 1) octets)))
  cells_more i m lt = let e : drop i octets ≡ slice_index octets i ∷ drop (i + 1) octets = drop-cons octets i 0 lt ∙ ap (λ (k : ℕ). slice_index octets i ∷ drop k octets) (sym (add-one i)) in rw e refl

  bytes_built : (n room m : ℕ) (a : Cursor) (q : Last) → a.at + m ≤ length octets
      → built_times (build types order octets (suc n) room None OfByte) m a q ≡ Ok (bytes (take m (drop a.at octets)), ends (ahead a (a.at + m)) q)
  bytes_built n room zero a q le = let e : a.at + 0 ≡ a.at = omega arith in rw e refl
  bytes_built n room (suc m) a q le =
      let lt : a.at < length octets = omega (arith, le) in
      let e : a.at + 1 + m ≡ a.at + suc m = omega arith in
      let rest : built_times (build types order octets (suc n) room None OfByte) m (ahead a (a.at + 1)) q ≡ Ok (bytes (take m (drop (a.at + 1) octets)), ends (ahead a (a.at + 1 + m)) q) = bytes_built n room m (ahead a (a.at + 1)) q (omega (arith, le)) in
      ap (λ (r : Built). r >>= λ x. built_times (build types order octets (suc n) room None OfByte) m x.1.flat x.1.all >>= λ y. Ok (then_val x.0 y.0, y.1)) (byte_built n room a q lt)
      ∙ ap (λ (r : Row). r >>= λ y. Ok (then_val (VByte (slice_index octets a.at)) y.0, y.1)) rest
      ∙ ap (λ (vs : Vals). Ok (vs, ends (ahead a (a.at + 1 + m)) q)) (sym (cells_more a.at m lt)) ∙ ap (λ (j : ℕ). Ok (bytes (take (suc m) (drop a.at octets)), ends (ahead a j) q)) e

  bytes_cut : (n room m : ℕ) (a : Cursor) (q : Last) (b : Bool) → nat_lt a.at (length octets) ≡ b
      → (a.at < length octets → built_times (build types order octets (suc n) room None OfByte) m (ahead a (a.at + 1)) q ≡ Err (Short (length octets)))
      → built_times (build types order octets (suc n) room None OfByte) (suc m) a q ≡ Err (Short (length octets))
  bytes_cut n room m a q true e more =
      let lt : a.at < length octets = ltb-true _ _ e in
      ap (λ (r : Built). r >>= λ x. built_times (build types order octets (suc n) room None OfByte) m x.1.flat x.1.all >>= λ y. Ok (then_val x.0 y.0, y.1)) (byte_built n room a q lt)
      ∙ ap (λ (r : Row). r >>= λ y. Ok (then_val (VByte (slice_index octets a.at)) y.0, y.1)) (more lt)
  bytes_cut n room m a q false e more =
      ap (λ (r : Built). r >>= λ x. built_times (build types order octets (suc n) room None OfByte) m x.1.flat x.1.all >>= λ y. Ok (then_val x.0 y.0, y.1)) (byte_ends n room a q (ltb-false _ _ e))

  bytes_missing : (n room m : ℕ) (a : Cursor) (q : Last) → length octets < a.at + suc m → built_times (build types order octets (suc n) room None OfByte) (suc m) a q ≡ Err (Short (length octets))
  bytes_missing n room zero a q le = bytes_cut n room zero a q (nat_lt a.at (length octets)) refl (λ lt. absurd (omega (arith, le, lt)))
  bytes_missing n room (suc m) a q le = bytes_cut n room (suc m) a q (nat_lt a.at (length octets)) refl (λ lt. bytes_missing n room m (ahead a (a.at + 1)) q (omega (arith, le)))

  -- ---- as the code tests it
  pub many_built : (n room m : ℕ) (a : Cursor) (q : Last) (xs : List ℕ) → (n ≡ 0 → ⊥) → a.at + m ≤ length octets → xs ≡ take m (drop a.at octets)
      → in_array (built_times (build types order octets n room None OfByte) m a q) ≡ Ok (VArray (bytes xs), ends (ahead a (a.at + m)) q)
  many_built zero room m a q xs some le is = absurd (some refl)
  many_built (suc n) room m a q xs some le is =
      ap in_array (bytes_built n room m a q le) ∙ ap (λ (ys : List ℕ). Ok (VArray (bytes ys), ends (ahead a (a.at + m)) q)) (sym is)

  pub many_missing : (n room m : ℕ) (a : Cursor) (q : Last) → (n ≡ 0 → ⊥) → (m ≡ 0 → ⊥) → length octets < a.at + m
      → in_array (built_times (build types order octets n room None OfByte) m a q) ≡ Err (Short (length octets))
  many_missing zero room m a q some any lt = absurd (some refl)
  many_missing (suc n) room zero a q some any lt = absurd (any refl)
  many_missing (suc n) room (suc m) a q some any lt = ap in_array (bytes_missing n room m a q lt)

  pub many_too_deep : (n room m : ℕ) (a : Cursor) (q : Last) → n ≡ 0 → (m ≡ 0 → ⊥) → in_array (built_times (build types order octets n room None OfByte) m a q) ≡ Err (TooDeep a.at)
  unfolding build
  many_too_deep zero room zero a q none any = absurd (any refl)
  many_too_deep zero room (suc m) a q none any = refl
  many_too_deep (suc n) room m a q none any = absurd (omega (arith, none))
