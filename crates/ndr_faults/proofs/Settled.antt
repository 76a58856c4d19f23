-- On grounded types one more level reads the same, whatever the octets.
use Rattle.std.proofs.Common.{◌≡◌, ℕ, zero, suc, ◌+◌, ◌*◌, ◌≤◌, ℤ, List, [], ◌∷◌, Option, Some, None, Ok, true, refl, ap, arith, suc-mul}
use Rattle.std.specs.Prelude.{slice_get}
use Rattle.rpc_base.specs.declared.identifiers.Order.{Order}
use Rattle.ndr_value.specs.Forms.{Form, OfBool, OfByte, OfChar, OfInt, OfUint, OfEnum, OfNamed, OfStruct, OfUnion, OfArray, OfText, OfRef, OfUnique, OfFull, OfHandle, Forms, no_form, then_form, Body, empty, holds}
use Rattle.ndr_value.specs.Fits.{arm_of}
use Rattle.ndr_value.specs.Values.{VUnion, then_val}
use Rattle.ndr_scalars.specs.Scalars.{up}
use Rattle.ndr_arrays.specs.Bind.{◌>>=◌}
use Rattle.ndr_model.specs.declared.mark.Mark.TheVariants.{Referent}
use Rattle.ndr_model.specs.Places.{Place, past, Last, onto, noting}
use Rattle.ndr_model.specs.Part.{for_last, in_place, tag_size, opened_marks, count_marks, tag_marks}
use Rattle.ndr_model.specs.Reading.{number, array_at, tag_at, struct_at}
use Rattle.ndr_model.specs.Scan.{Scanned, of_type, arm_scan, each, times, scan}
use Rattle.ndr_model.specs.Build.{Cursor, ahead, cursor, Built, Found, Row, referent, behind_ref, behind_unique, behind_full, built_each, built_times, in_struct, in_array, built_arm, build, whole}
use Rattle.ndr_laws.proofs.Grounded.{EachForm, HasForm, Shallow, Targets, EachTarget, Grounded, each_arm, arm_has}
use Rattle.ndr_faults.proofs.Same.{bind_same}

module _ (types : List Form) (order : Order) (octets : List ℕ) (deep : ℕ) (grounded : Grounded types deep) where
  abbrev S : ℕ → ℕ → Option ℕ → Form → Place → Scanned
  S n room moved s p = scan types order octets n room moved s p

  abbrev B : ℕ → ℕ → Option ℕ → Form → Cursor → Last → Built
  B n room moved s a q = build types order octets n room moved s a q

  abbrev Scans : ℕ → ℕ → Form → Type 0
  Scans n room s = (moved : Option ℕ) (p : Place) → S (suc n) room moved s p ≡ S n room moved s p

  abbrev Builds : ℕ → ℕ → Form → Type 0
  Builds n room s = (moved : Option ℕ) (a : Cursor) (q : Last) → B (suc n) room moved s a q ≡ B n room moved s a q

  abbrev Settled : ℕ → ℕ → Form → Type 0
  Settled n room s = Scans n room s × Builds n room s

  abbrev AllSettled : ℕ → Type 0
  AllSettled n = (room d : ℕ) (s : Form) → Shallow types d s → Targets types deep s → room * (deep + 1) + d ≤ n → Settled n room s

  each_scans : (n room d : ℕ) → AllSettled n → room * (deep + 1) + d ≤ n → (ss : Forms) → EachForm (Shallow types d) ss → EachTarget types deep ss
      → (own : Option ℕ) (p : Place) → each (scan types order octets (suc n) room) own ss p ≡ each (scan types order octets n room) own ss p
  each_scans n room d so le no_form sh tg own p = refl
  each_scans n room d so le (then_form s ss) sh tg own p =
      bind_same (S (suc n) room (for_last ss own) s p) (S n room (for_last ss own) s p) (λ h. each (scan types order octets (suc n) room) own ss h) (λ h. each (scan types order octets n room) own ss h)
      ((so room d s sh.0 tg.0 le).0 (for_last ss own) p) (λ h. each_scans n room d so le ss sh.1 tg.1 own h)

  each_builds : (n room d : ℕ) → AllSettled n → room * (deep + 1) + d ≤ n → (ss : Forms) → EachForm (Shallow types d) ss → EachTarget types deep ss
      → (own : Option ℕ) (a : Cursor) (q : Last) → built_each (build types order octets (suc n) room) own ss a q ≡ built_each (build types order octets n room) own ss a q
  each_builds n room d so le no_form sh tg own a q = refl
  each_builds n room d so le (then_form s ss) sh tg own a q =
      bind_same (B (suc n) room (for_last ss own) s a q) (B n room (for_last ss own) s a q)
      (λ x. built_each (build types order octets (suc n) room) own ss x.1.flat x.1.all >>= λ y. Ok (then_val x.0 y.0, y.1)) (λ x. built_each (build types order octets n room) own ss x.1.flat x.1.all >>= λ y. Ok (then_val x.0 y.0, y.1))
      ((so room d s sh.0 tg.0 le).1 (for_last ss own) a q)
      (λ x. ap (λ (r : Row). r >>= λ y. Ok (then_val x.0 y.0, y.1)) (each_builds n room d so le ss sh.1 tg.1 own x.1.flat x.1.all))

  times_scans : (n room : ℕ) (s : Form) → Scans n room s → (c : ℕ) (p : Place) → times (scan types order octets (suc n) room None s) c p ≡ times (scan types order octets n room None s) c p
  times_scans n room s h zero p = refl
  times_scans n room s h (suc c) p =
      bind_same (S (suc n) room None s p) (S n room None s p) (λ g. times (scan types order octets (suc n) room None s) c g) (λ g. times (scan types order octets n room None s) c g) (h None p) (λ g. times_scans n room s h c g)

  times_builds : (n room : ℕ) (s : Form) → Builds n room s → (c : ℕ) (a : Cursor) (q : Last) → built_times (build types order octets (suc n) room None s) c a q ≡ built_times (build types order octets n room None s) c a q
  times_builds n room s h zero a q = refl
  times_builds n room s h (suc c) a q =
      bind_same (B (suc n) room None s a q) (B n room None s a q)
      (λ x. built_times (build types order octets (suc n) room None s) c x.1.flat x.1.all >>= λ y. Ok (then_val x.0 y.0, y.1)) (λ x. built_times (build types order octets n room None s) c x.1.flat x.1.all >>= λ y. Ok (then_val x.0 y.0, y.1))
      (h None a q) (λ x. ap (λ (r : Row). r >>= λ y. Ok (then_val x.0 y.0, y.1)) (times_builds n room s h c x.1.flat x.1.all))

  type_settled : (n room d : ℕ) → AllSettled n → room * (deep + 1) + d ≤ n → (o : Option Form) → HasForm (Shallow types d) o → ((s : Form) → o ≡ Some s → Targets types deep s)
      → (moved : Option ℕ) (p : Place) (a : Cursor) (q : Last)
      → (of_type o p.at (λ s. S (suc n) room moved s p) ≡ of_type o p.at (λ s. S n room moved s p)) × (of_type o a.at (λ s. B (suc n) room moved s a q) ≡ of_type o a.at (λ s. B n room moved s a q))
  type_settled n room d so le None sh tg moved p a q = (refl, refl)
  type_settled n room d so le (Some s) sh tg moved p a q = let h = so room d s sh (tg s refl) le in (h.0 moved p, h.1 moved a q)

  arm_scans : (n room : ℕ) (b : Option Body) → ((s : Form) → b ≡ Some (holds s) → Settled n room s) → (i : ℕ) (p : Place)
      → arm_scan b i p (scan types order octets (suc n) room None) ≡ arm_scan b i p (scan types order octets n room None)
  arm_scans n room None h i p = refl
  arm_scans n room (Some empty) h i p = refl
  arm_scans n room (Some (holds s)) h i p = (h s refl).0 None p

  arm_builds : (n room : ℕ) (b : Option Body) → ((s : Form) → b ≡ Some (holds s) → Settled n room s) → (i : ℕ) (tag : ℤ) (a : Cursor) (q : Last)
      → built_arm b i tag a q (build types order octets (suc n) room None) ≡ built_arm b i tag a q (build types order octets n room None)
  arm_builds n room None h i tag a q = refl
  arm_builds n room (Some empty) h i tag a q = refl
  arm_builds n room (Some (holds s)) h i tag a q = ap (λ (r : Built). r >>= λ x. Ok (VUnion tag x.0, x.1)) ((h s refl).1 None a q)

  pub whole_settled : (n room : ℕ) (s : Form) (q : Last) → Settled n room s → whole types order octets (suc n) room s q ≡ whole types order octets n room s q
  whole_settled n room s q h =
      bind_same (S (suc n) room None s q.here) (S n room None s q.here)
      (λ g. B (suc n) room None s (cursor q.here) (onto g q) >>= λ x. Ok (x.0, x.1.all)) (λ g. B n room None s (cursor q.here) (onto g q) >>= λ x. Ok (x.0, x.1.all))
      (h.0 None q.here) (λ g. ap (λ (r : Built). r >>= λ x. Ok (x.0, x.1.all)) (h.1 None (cursor q.here) (onto g q)))

  pointed : (n room d place : ℕ) (s : Form) (q : Last) → AllSettled n → room * (deep + 1) + suc d ≤ suc n → Shallow types deep s → Targets types deep s
      → referent (scan types order octets (suc n)) (build types order octets (suc n)) room place s q ≡ referent (scan types order octets n) (build types order octets n) room place s q
  pointed n zero d place s q so le sh tg = refl
  pointed n (suc room) d place s q so le sh tg = whole_settled n room s q (so room deep s sh tg (omega (arith, le, suc-mul room (deep + 1))))

  one_settled : (n room d : ℕ) → AllSettled n → (s : Form) → Shallow types (suc d) s → Targets types deep s → room * (deep + 1) + suc d ≤ suc n → Settled (suc n) room s
  unfolding scan build
  one_settled n room d so OfBool sh tg le = (λ moved p. refl, λ moved a q. refl)
  one_settled n room d so OfByte sh tg le = (λ moved p. refl, λ moved a q. refl)
  one_settled n room d so OfChar sh tg le = (λ moved p. refl, λ moved a q. refl)
  one_settled n room d so (OfInt size) sh tg le = (λ moved p. refl, λ moved a q. refl)
  one_settled n room d so (OfUint size) sh tg le = (λ moved p. refl, λ moved a q. refl)
  one_settled n room d so (OfEnum count) sh tg le = (λ moved p. refl, λ moved a q. refl)
  one_settled n room d so (OfHandle kind) sh tg le = (λ moved p. refl, λ moved a q. refl)
  one_settled n room d so (OfText size) sh tg le = (λ moved p. refl, λ moved a q. refl)
  one_settled n room d so (OfNamed c switch) sh tg le =
      let h = type_settled n room d so (omega (arith, le)) (slice_get types c) sh (grounded c) in
      (λ moved p. (h moved p (cursor p) (record { here = p; items = []; marks = [] })).0, λ moved a q. (h moved q.here a q).1)
  one_settled n room d so (OfStruct ss) sh tg le = (
    λ moved p. bind_same (struct_at order octets types ss moved p.at) (struct_at order octets types ss moved p.at)
        (λ x. each (scan types order octets (suc n) room) x.0 ss (past p x.1)) (λ x. each (scan types order octets n room) x.0 ss (past p x.1)) refl (λ x. each_scans n room d so (omega (arith, le)) ss sh tg x.0 (past p x.1)),
    λ moved a q. bind_same (struct_at order octets types ss moved a.at) (struct_at order octets types ss moved a.at)
        (λ x. in_struct (built_each (build types order octets (suc n) room) x.0 ss (ahead a x.1) (noting (opened_marks moved x.0 a.at) q))) (λ x. in_struct (built_each (build types order octets n room) x.0 ss (ahead a x.1) (noting (opened_marks moved x.0 a.at) q))) refl
        (λ x. ap in_struct (each_builds n room d so (omega (arith, le)) ss sh tg x.0 (ahead a x.1) (noting (opened_marks moved x.0 a.at) q))),
  )
  one_settled n room d so (OfUnion t arms) sh tg le =
      let u = OfUnion t arms in
      let h : (tag : ℤ) (s : Form) → arm_of u tag ≡ Some (holds s) → Settled n room s = λ tag s e. so room d s (arm_has (Shallow types d) s t arms tag e sh) (arm_has (Targets types deep) s t arms tag e (each_arm types deep arms tg)) (omega (arith, le)) in (
        λ moved p. bind_same (tag_at order octets t arms (in_place types u p.at)) (tag_at order octets t arms (in_place types u p.at))
            (λ x. arm_scan (arm_of u x.0) (up (in_place types u p.at) (tag_size t)) (past p x.1) (scan types order octets (suc n) room None)) (λ x. arm_scan (arm_of u x.0) (up (in_place types u p.at) (tag_size t)) (past p x.1) (scan types order octets n room None)) refl
            (λ x. arm_scans n room (arm_of u x.0) (h x.0) (up (in_place types u p.at) (tag_size t)) (past p x.1)),
        λ moved a q. bind_same (tag_at order octets t arms (in_place types u a.at)) (tag_at order octets t arms (in_place types u a.at))
            (λ x. built_arm (arm_of u x.0) (up (in_place types u a.at) (tag_size t)) x.0 (ahead a x.1) (noting (tag_marks types t u x.0 a.at) q) (build types order octets (suc n) room None))
            (λ x. built_arm (arm_of u x.0) (up (in_place types u a.at) (tag_size t)) x.0 (ahead a x.1) (noting (tag_marks types t u x.0 a.at) q) (build types order octets n room None)) refl
            (λ x. arm_builds n room (arm_of u x.0) (h x.0) (up (in_place types u a.at) (tag_size t)) x.0 (ahead a x.1) (noting (tag_marks types t u x.0 a.at) q)),
      )
  one_settled n room d so (OfArray kind s) sh tg le =
      let h = so room d s sh tg (omega (arith, le)) in (
        λ moved p. bind_same (array_at order octets kind moved p.at) (array_at order octets kind moved p.at)
            (λ x. times (scan types order octets (suc n) room None s) x.0.actual (past p x.1)) (λ x. times (scan types order octets n room None s) x.0.actual (past p x.1)) refl (λ x. times_scans n room s h.0 x.0.actual (past p x.1)),
        λ moved a q. bind_same (array_at order octets kind moved a.at) (array_at order octets kind moved a.at)
            (λ x. in_array (built_times (build types order octets (suc n) room None s) x.0.actual (ahead a x.1) (noting (count_marks kind moved x.0 a.at x.1) q)))
            (λ x. in_array (built_times (build types order octets n room None s) x.0.actual (ahead a x.1) (noting (count_marks kind moved x.0 a.at x.1) q))) refl
            (λ x. ap in_array (times_builds n room s h.1 x.0.actual (ahead a x.1) (noting (count_marks kind moved x.0 a.at x.1) q))),
      )
  one_settled n room d so (OfRef s) sh tg le = (
    λ moved p. refl,
    λ moved a q. bind_same (number order octets 4 a.at) (number order octets 4 a.at)
        (λ x. behind_ref (ahead a x.1) (referent (scan types order octets (suc n)) (build types order octets (suc n)) room (up a.at 4) s q)) (λ x. behind_ref (ahead a x.1) (referent (scan types order octets n) (build types order octets n) room (up a.at 4) s q)) refl
        (λ x. ap (λ (f : Found). behind_ref (ahead a x.1) f) (pointed n room d (up a.at 4) s q so le tg.0 tg.1)),
  )
  one_settled n room d so (OfUnique s) sh tg le = (
    λ moved p. refl,
    λ moved a q. bind_same (number order octets 4 a.at) (number order octets 4 a.at)
        (λ x. behind_unique x.0 (ahead a x.1) q (referent (scan types order octets (suc n)) (build types order octets (suc n)) room (up a.at 4) s q)) (λ x. behind_unique x.0 (ahead a x.1) q (referent (scan types order octets n) (build types order octets n) room (up a.at 4) s q)) refl
        (λ x. ap (λ (f : Found). behind_unique x.0 (ahead a x.1) q f) (pointed n room d (up a.at 4) s q so le tg.0 tg.1)),
  )
  one_settled n room d so (OfFull s) sh tg le = (
    λ moved p. refl,
    λ moved a q. bind_same (number order octets 4 a.at) (number order octets 4 a.at)
        (λ x. behind_full x.0 (up a.at 4) (ahead a x.1) q (referent (scan types order octets (suc n)) (build types order octets (suc n)) room (up a.at 4) s (noting (Referent true ∷ []) q)))
        (λ x. behind_full x.0 (up a.at 4) (ahead a x.1) q (referent (scan types order octets n) (build types order octets n) room (up a.at 4) s (noting (Referent true ∷ []) q))) refl
        (λ x. ap (λ (f : Found). behind_full x.0 (up a.at 4) (ahead a x.1) q f) (pointed n room d (up a.at 4) s (noting (Referent true ∷ []) q) so le tg.0 tg.1)),
  )

  pub settled : (n room d : ℕ) (s : Form) → Shallow types d s → Targets types deep s → room * (deep + 1) + d ≤ n → Settled n room s
  settled n room zero s sh tg le = absurd sh
  settled zero room (suc d) s sh tg le = absurd (omega (arith, le))
  settled (suc n) room (suc d) s sh tg le = one_settled n room d (settled n) s sh tg le
