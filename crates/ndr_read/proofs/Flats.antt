-- Values without referents and handles: nothing but their flat part is read.
use Rattle.std.proofs.Common.{◌≡◌, ℕ, zero, suc, ◌+◌, ◌<◌, ◌≤◌, Bool, true, false, List, length, take, drop, None, Result, Ok, Err, refl, sym, ap, subst, ◌∙◌, arith}
use Rattle.std.specs.Prelude.{nat_lt, not, ◌==◌}
use Rattle.std.proofs.lemmas.Bool.{ltb-true, ltb-false}
use Rattle.rpc_base.specs.declared.identifiers.Order.{Order}
use Rattle.ndr_value.specs.Forms.{Form, OfBool, OfByte, OfChar, OfInt, OfUint, OfEnum, OfNamed, OfStruct, OfUnion, OfArray, OfText, OfRef, OfUnique, OfFull, OfHandle}
use Rattle.ndr_value.specs.Values.{Val, VBool, VByte, VChar, VInt, VUint, VEnum, VText}
use Rattle.ndr_scalars.specs.Scalars.{signed}
use Rattle.ndr_arrays.specs.Bind.{◌>>=◌}
use Rattle.ndr_arrays.specs.declared.counts.Counts.{Counts}
use Rattle.ndr_model.specs.declared.departure.Departure.{Departure}
use Rattle.ndr_model.specs.declared.mark.Mark.{Mark}
use Rattle.ndr_model.specs.Part.{count_marks}
use Rattle.ndr_model.specs.Places.{Place, Last, past, onto, noting}
use Rattle.ndr_model.specs.Reading.{number, name_at, chars_at, array_at}
use Rattle.ndr_model.specs.Scan.{Scanned, scan, times}
use Rattle.ndr_model.specs.Build.{Cursor, PartEnds, cursor, ahead, ends, Built, Found, build, built_times, in_array, whole}
use Rattle.ndr_pointers.proofs.Octets.{many_past, many_short, many_deep}
use Rattle.ndr_read.specs.Alone.{is_byte, alone, ended}
use Rattle.ndr_read.proofs.Octets.{many_built, many_missing, many_too_deep}

abbrev passed : Place → ℕ → Scanned
passed p i = Ok (past p i)

abbrev at_end : Val → Cursor → ℕ → Last → Built
at_end v a i q = Ok (v, ends (ahead a i) q)

abbrev with_all : Val × PartEnds → Found
with_all x = Ok (x.0, x.1.all)

one_pass : {A : Type 0} → (r : Result (A × ℕ) Departure) (v : A → Val) (q : Last)
    → ((r >>= λ x. passed q.here x.1) >>= λ h. (r >>= λ x. at_end (v x.0) (cursor q.here) x.1 (onto h q)) >>= with_all) ≡ ended (r >>= λ x. at_end (v x.0) (cursor q.here) x.1 q)
one_pass (Ok x) v q = refl
one_pass (Err d) v q = refl

byte_is : (s : Form) → is_byte s ≡ true → s ≡ OfByte
byte_is OfByte e = refl
byte_is OfBool e = absurd cc
byte_is OfChar e = absurd cc
byte_is (OfInt _) e = absurd cc
byte_is (OfUint _) e = absurd cc
byte_is (OfEnum _) e = absurd cc
byte_is (OfNamed _ _) e = absurd cc
byte_is (OfStruct _) e = absurd cc
byte_is (OfUnion _ _) e = absurd cc
byte_is (OfArray _ _) e = absurd cc
byte_is (OfText _) e = absurd cc
byte_is (OfRef _) e = absurd cc
byte_is (OfUnique _) e = absurd cc
byte_is (OfFull _) e = absurd cc
byte_is (OfHandle _) e = absurd cc

module _ (types : List Form) (order : Order) (octets : List ℕ) where
  abbrev octets_scanned : ℕ → ℕ → ℕ → Place → Scanned
  octets_scanned n room m p = times (scan types order octets n room None OfByte) m p

  abbrev octets_built : ℕ → ℕ → ℕ → Cursor → Last → Built
  octets_built n room m a q = in_array (built_times (build types order octets n room None OfByte) m a q)

  abbrev octets_whole : ℕ → ℕ → ℕ → ℕ → List Mark → Last → Scanned → Found
  octets_whole n room m i ms q scanned = scanned >>= λ h. octets_built n room m (ahead (cursor q.here) i) (noting ms (onto h q)) >>= with_all

  octets_by : (n room m i : ℕ) (ms : List Mark) (q : Last) (b : Bool) → nat_lt (length octets) (i + suc m) ≡ b
      → octets_whole (suc n) room (suc m) i ms q (octets_scanned (suc n) room (suc m) (past q.here i)) ≡ ended (octets_built (suc n) room (suc m) (ahead (cursor q.here) i) (noting ms q))
  octets_by n room m i ms q true e =
      let lt : length octets < i + suc m = ltb-true _ _ e in
      ap (octets_whole (suc n) room (suc m) i ms q) (many_short types order octets (suc n) room (suc m) (past q.here i) (λ z. absurd (omega (arith, z))) (λ z. absurd (omega (arith, z))) lt)
      ∙ sym (ap ended (many_missing types order octets (suc n) room (suc m) (ahead (cursor q.here) i) (noting ms q) (λ z. absurd (omega (arith, z))) (λ z. absurd (omega (arith, z))) lt))
  octets_by n room m i ms q false e =
      let le : i + suc m ≤ length octets = ltb-false _ _ e in
      let a = ahead (cursor q.here) i in
      let h = past q.here (i + suc m) in
      ap (octets_whole (suc n) room (suc m) i ms q) (many_past types order octets (suc n) room (suc m) (past q.here i) (λ z. absurd (omega (arith, z))) le)
      ∙ ap (λ (r : Built). r >>= with_all) (many_built types order octets (suc n) room (suc m) a (noting ms (onto h q)) (take (suc m) (drop i octets)) (λ z. absurd (omega (arith, z))) le refl)
      ∙ sym (ap ended (many_built types order octets (suc n) room (suc m) a (noting ms q) (take (suc m) (drop i octets)) (λ z. absurd (omega (arith, z))) le refl))

  octets_pass : (n room m i : ℕ) (ms : List Mark) (q : Last)
      → octets_whole n room m i ms q (octets_scanned n room m (past q.here i)) ≡ ended (octets_built n room m (ahead (cursor q.here) i) (noting ms q))
  octets_pass n room zero i ms q = refl
  octets_pass zero room (suc m) i ms q =
      ap (octets_whole zero room (suc m) i ms q) (many_deep types order octets zero room (suc m) (past q.here i) refl (λ z. absurd (omega (arith, z))))
      ∙ sym (ap ended (many_too_deep types order octets zero room (suc m) (ahead (cursor q.here) i) (noting ms q) refl (λ z. absurd (omega (arith, z)))))
  octets_pass (suc n) room (suc m) i ms q = octets_by n room m i ms q (nat_lt (length octets) (i + suc m)) refl

  array_pass : (n room : ℕ) (r : Result (Counts × ℕ) Departure) (ms : Counts → ℕ → List Mark) (q : Last)
      → ((r >>= λ x. octets_scanned n room x.0.actual (past q.here x.1)) >>= λ h. (r >>= λ x. octets_built n room x.0.actual (ahead (cursor q.here) x.1) (noting (ms x.0 x.1) (onto h q))) >>= with_all)
      ≡ ended (r >>= λ x. octets_built n room x.0.actual (ahead (cursor q.here) x.1) (noting (ms x.0 x.1) q))
  array_pass n room (Ok x) ms q = octets_pass n room x.0.actual x.1 (ms x.0 x.1) q
  array_pass n room (Err d) ms q = refl

  -- a value without referents is read as its flat part
  pub alone_whole : (n room : ℕ) (s : Form) (q : Last) → alone s ≡ true → whole types order octets n room s q ≡ ended (build types order octets n room None s (cursor q.here) q)
  unfolding scan build
  alone_whole zero room s q e = refl
  alone_whole (suc n) room OfBool q e = one_pass (number order octets 1 q.here.at) (λ m. VBool (not (m == 0))) q
  alone_whole (suc n) room OfByte q e = one_pass (number order octets 1 q.here.at) VByte q
  alone_whole (suc n) room OfChar q e = one_pass (number order octets 1 q.here.at) VChar q
  alone_whole (suc n) room (OfInt size) q e = one_pass (number order octets size q.here.at) (λ m. VInt (signed size m)) q
  alone_whole (suc n) room (OfUint size) q e = one_pass (number order octets size q.here.at) VUint q
  alone_whole (suc n) room (OfEnum count) q e = one_pass (name_at order octets count q.here.at) VEnum q
  alone_whole (suc n) room (OfText size) q e = one_pass (chars_at order octets size None q.here.at) VText q
  alone_whole (suc n) room (OfArray kind s) q e =
      subst (λ (t : Form). whole types order octets (suc n) room (OfArray kind t) q ≡ ended (build types order octets (suc n) room None (OfArray kind t) (cursor q.here) q))
      (sym (byte_is s e)) (array_pass n room (array_at order octets kind None q.here.at) (λ c j. count_marks kind None c q.here.at j) q)
  alone_whole (suc n) room (OfNamed _ _) q e = absurd cc
  alone_whole (suc n) room (OfStruct _) q e = absurd cc
  alone_whole (suc n) room (OfUnion _ _) q e = absurd cc
  alone_whole (suc n) room (OfRef _) q e = absurd cc
  alone_whole (suc n) room (OfUnique _) q e = absurd cc
  alone_whole (suc n) room (OfFull _) q e = absurd cc
  alone_whole (suc n) room (OfHandle _) q e = absurd cc
