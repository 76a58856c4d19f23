-- A departure of a stub is the first of its values, or all of them stand.
use Rattle.std.proofs.Common.{◌≡◌, ℕ, zero, suc, ◌+◌, ◌*◌, ◌<◌, ◌≤◌, ℤ, List, [], ◌∷◌, ◌++◌, length, Option, Some, None, Result, Ok, Err, refl, sym, ap, subst, ◌∙◌, arith, inl}
use Rattle.std.proofs.lemmas.List.{append-nil}
use Rattle.rpc_base.specs.declared.identifiers.Order.{Order}
use Rattle.ndr_value.specs.Forms.{Form}
use Rattle.ndr_value.specs.Values.{Val, Vals, no_val, then_val, count_of, Msg}
use Rattle.ndr_table.specs.declared.operation.Bounds.{Bounds}
use Rattle.ndr_table.specs.Tables.{OpForm}
use Rattle.ndr_scalars.specs.Scalars.{up}
use Rattle.ndr_arrays.specs.Bind.{◌>>=◌}
use Rattle.ndr_arrays.proofs.Steps.{through}
use Rattle.ndr_model.specs.declared.departure.Departure.{Departure}
use Rattle.ndr_model.specs.declared.way.Way.{Way}
use Rattle.ndr_model.specs.declared.mark.Mark.{Mark}
use Rattle.ndr_model.specs.declared.mark.Mark.TheVariants.{Ranged}
use Rattle.ndr_model.specs.Places.{Last, noting}
use Rattle.ndr_model.specs.Part.{tag_size}
use Rattle.ndr_model.specs.Stub.{Entry, entries, Follow, ranged, range_marks, start, IsRead}
use Rattle.ndr_model.specs.Named.{Call, nth, number}
use Rattle.ndr_model.specs.Compare.{Check, sooner, compare, range_off, compare_range, compare_entries}
use Rattle.ndr_model.specs.Build.{read_values}
use Rattle.ndr_model.specs.Message.{enough, with_items, message_of, unless_off, compared, read_stub}
use Rattle.ndr_model.proofs.Mets.{Ext, ext_self, ext_then}
use Rattle.ndr_model.proofs.Stubs.{values_stand}
use Rattle.ndr_laws.proofs.Grounded.{Grounded, EachEntry}
use Rattle.ndr_laws.proofs.Grows.{part_grows}
use Rattle.ndr_laws.proofs.Levels.{plus, plus_is, tight, tight_is, types_grounded, op_entries}
use Rattle.ndr_laws.proofs.Stubs.{stub_found}
use Rattle.ndr_laws.proofs.Marks.{Noted, noted_then, part_notes}
use Rattle.ndr_laws.proofs.Kept.{In, Out, ext_le, out_first, out_second, part_leaves, kept_inner, has_nth}
use Rattle.ndr_model.specs.Stub.{item}
use Rattle.ndr_faults.specs.First.{IsOpOf, reads}
use Rattle.ndr_faults.specs.Asked.{a_number, AsksRange, asks_no_range, asks_range, AskTogether, no_entry_asks, entry_asks}
use Rattle.ndr_faults.specs.Off.{Disagrees, Departs, is_read, is_compared}
use Rattle.ndr_faults.proofs.Amisses.{is_amiss}
use Rattle.ndr_faults.proofs.Firsts.{Failed, at_once, later, failed, is_first}
use Rattle.ndr_faults.proofs.Compared.{At, Went, tied, known, at_own, tells_none, part_compared}
use Rattle.ndr_faults.proofs.Leasts.{bounds_off, off_then, least_is}
use Rattle.ndr_faults.proofs.Filled.{follow_fills, heaped}

-- ---- what follows leaves what was met, noted and kept

module _ (types : List Form) (order : Order) (octets : List ℕ) where
  follow_grows : (es : List Entry) (vs : Vals) (q q' : Last) → Follow types order octets es vs q q' → Ext q.here.met q'.here.met
  follow_grows [] no_val q q' f = subst (λ (x : Last). Ext q.here.met x.here.met) f (ext_self q.here.met)
  follow_grows [] (then_val v vs) q q' f = absurd f
  follow_grows (e ∷ es) no_val q q' f = absurd f
  follow_grows (e ∷ es) (then_val v vs) q q' f =
      let g = part_grows types order octets f.1.part in
      ext_then q.here.met f.0.here.met q'.here.met (ext_then q.here.met f.1.h.met f.0.here.met g.0 g.1) (follow_grows es vs (noting (range_marks e q.here.at) f.0) q' f.2)

  follow_notes : (es : List Entry) (vs : Vals) (q q' : Last) → Follow types order octets es vs q q' → Noted q.marks q'.marks
  follow_notes [] no_val q q' f = ([], sym (ap (λ (x : Last). x.marks) f) ∙ sym (append-nil q.marks))
  follow_notes [] (then_val v vs) q q' f = absurd f
  follow_notes (e ∷ es) no_val q q' f = absurd f
  follow_notes (e ∷ es) (then_val v vs) q q' f =
      let rm = range_marks e q.here.at in
      noted_then q.marks f.0.marks q'.marks (part_notes types order octets f.1.part) (noted_then f.0.marks (f.0.marks ++ rm) q'.marks (rm, refl) (follow_notes es vs (noting rm f.0) q' f.2))

  follow_leaves : (n : ℕ) (es : List Entry) (vs : Vals) (q q' : Last) → Follow types order octets es vs q q' → Out q.here q'.here n → item q'.items n ≡ item q.items n
  follow_leaves n [] no_val q q' f x = sym (ap (λ (y : Last). item y.items n) f)
  follow_leaves n [] (then_val v vs) q q' f x = absurd f
  follow_leaves n (e ∷ es) no_val q q' f x = absurd f
  follow_leaves n (e ∷ es) (then_val v vs) q q' f x =
      let g = part_grows types order octets f.1.part in
      let w = f.1.h in
      let a = ext_then q.here.met w.met f.0.here.met g.0 g.1 in
      let b = follow_grows es vs (noting (range_marks e q.here.at) f.0) q' f.2 in
      let own = out_first q.here f.0.here q'.here n (ext_le f.0.here.met q'.here.met b) x in
      follow_leaves n es vs (noting (range_marks e q.here.at) f.0) q' f.2 (out_second q.here f.0.here q'.here n (ext_le q.here.met f.0.here.met a) x)
      ∙ part_leaves types order octets n f.1.part (out_first q.here w f.0.here n (ext_le w.met f.0.here.met g.1) own) (out_second q.here w f.0.here n (ext_le q.here.met w.met g.0) own)

-- ---- the parameters, compared

module _ (all : List Mark) (types : List Form) (order : Order) (octets : List ℕ) (call : Call) (deep : ℕ) (grounded : Grounded types deep) (n : ℕ) (wide : 256 * (deep + 1) + deep ≤ n) where
  range_is : (b : Bounds) (z : Option ℤ) (i : ℕ) → range_off types call b z i ≡ bounds_off z b i
  range_is b None i = refl
  range_is b (Some z) i = refl

  range_compared : (o : Option Bounds) (v : Val) (i : ℕ) (pre : List Mark) (c : Check) → At all pre c → Noted (pre ++ ranged o i) all → Went all (AsksRange o v) (pre ++ ranged o i) c (compare_range types call o v c)
  range_compared None v i pre c a noted = record { demands = []; asks = asks_no_range; off = refl; place = at_own all pre c a }
  range_compared (Some b) v i pre c a noted =
      let x = tied all pre (Ranged i ∷ []) c.left a noted in
      known all (AsksRange (Some b) v) (compare_range types call (Some b) v) (pre ++ Ranged i ∷ []) c (Ranged i ∷ x.0) x.1
      (record { demands = a_number i (number v) b ∷ []; asks = asks_range; off = ap (sooner c.off) (range_is b (number v) i); place = x.2 })

  entries_compared : (es : List Entry) (vs : Vals) (q q' : Last) (c : Check) → Follow types order octets es vs q q' → At all q.marks c → Noted q'.marks all
      → ((k : ℕ) → In q.here q'.here k → item q'.items k ≡ nth call.said.heap k) → EachEntry types deep es → Went all (AskTogether types call es vs) q'.marks c (compare_entries types call n es vs c)
  entries_compared [] no_val q q' c f a noted kept sh = record { demands = []; asks = no_entry_asks; off = refl; place = subst (λ (x : Last). At all x.marks c) f a }
  entries_compared [] (then_val v vs) q q' c f a noted kept sh = absurd f
  entries_compared (e ∷ es) no_val q q' c f a noted kept sh = absurd f
  entries_compared (e ∷ es) (then_val v vs) q q' c f a noted kept sh =
      let h = f.0 in
      let w = f.1 in
      let rm = range_marks e q.here.at in
      let g = part_grows types order octets w.part in
      let ahead : Noted (h.marks ++ rm) all = noted_then (h.marks ++ rm) q'.marks all (follow_notes types order octets es vs (noting rm h) q' f.2) noted in
      let grown = follow_grows types order octets es vs (noting rm h) q' f.2 in
      let kept1 = λ (k : ℕ) (y : In q.here h.here k). sym (follow_leaves types order octets k es vs (noting rm h) q' f.2 (inl y.1)) ∙ kept k (y.0, (let le = ext_le h.here.met q'.here.met grown in omega (arith, y.1, le))) in
      let one = part_compared all types order octets call deep grounded deep n w.part no_val None (tells_none) c a (noted_then h.marks (h.marks ++ rm) all (rm, refl) ahead) (ext_self w.h.met)
      (kept_inner call.said.heap w.h q h g kept1) sh.0.0 sh.0.1 wide in
      let c1 = compare types call n 256 no_val None None e.shape v c in
      let two = range_compared e.range v (up q.here.at (tag_size e.shape)) h.marks c1 one.place ahead in
      let c2 = compare_range types call e.range v c1 in
      let rest = entries_compared es vs (noting rm h) q' c2 f.2 two.place noted
      (λ k y. kept k ((let le = ext_le q.here.met h.here.met (ext_then q.here.met w.h.met h.here.met g.0 g.1) in omega (arith, y.0, le)), y.1)) sh.1 in
      let c3 = compare_entries types call n es vs c2 in record {
        demands = one.demands ++ (two.demands ++ rest.demands);
        asks = entry_asks one.asks two.asks rest.asks;
        off = off_then c.off c1.off c3.off one.demands (two.demands ++ rest.demands) one.off (off_then c1.off c2.off c3.off two.demands rest.demands two.off rest.off);
        place = rest.place;
      }

nth_some : (heap : Vals) (n : ℕ) → n < count_of heap → (v : Val) × (nth heap n ≡ Some v)
nth_some no_val n lt = absurd (omega (arith, lt))
nth_some (then_val v vs) zero lt = (v, refl)
nth_some (then_val v vs) (suc n) lt = nth_some vs n (omega (arith, lt))

abbrev fails : Departure → Result Msg Departure
fails d = Err d

off_err : (m : Msg) (o : Option Departure) (d : Departure) → unless_off m o ≡ fails d → o ≡ Some d
off_err m None d e = absurd cc
off_err m (Some x) d e = let same : x ≡ d = cc in ap Some same

not_both : (r : Result Msg Departure) (m : Msg) (d : Departure) → r ≡ Ok m → r ≡ fails d → ⊥
not_both (Ok n) m d e f = absurd cc
not_both (Err x) m d e f = absurd cc

module _ (types : List Form) (op : OpForm) (way : Way) (order : Order) (asked : Option Msg) (octets : List ℕ) where
  -- between a pointer and the next stand less than 1024 constructs and names
  most_is : plus (suc (tight 256)) 255 ≤ 1023
  most_is = omega (arith, plus_is (suc (tight 256)) 255, tight_is 256)

  abbrev call : Msg → Call
  call m = record { op = op; way = way; asked = asked; said = m }

  -- the message of values that were read
  pub record Whole (x : Vals × Last) : Type 0 where
    pub said : Msg
    pub made : message_of x.0 x.1 ≡ Ok said
    pub values : said.values ≡ x.0
    pub read : IsRead types order octets (entries way op) said x.1

  whole : (x : Vals × Last) → reads types order (entries way op) octets ≡ Ok x → Whole x
  whole x e =
      let f = values_stand types order octets enough (entries way op) x e in
      let h = heaped x.1.items 0 (length x.1.here.met) (λ j le lt. follow_fills types order octets j (entries way op) x.0 start x.1 f.0 (omega arith, omega (arith, lt))) in
      let m : Msg = record { values = x.0; heap = h.heap; wires = x.1.here.wires } in
      record { said = m; made = ap (with_items x.0 x.1) h.found; values = refl; read = record { follow = f.0; rest = f.1; heap = (h.count, h.has); wires = refl } }

  disagree : (o : IsOpOf types op) (d : Departure) (x : Vals × Last) (w : Whole x) → compared types op way asked x.1.marks w.said ≡ Err d → read_stub types op way order asked octets ≡ Err d → Disagrees types op way order asked octets d
  disagree o d x w e all =
      let t = o.is in
      let end = x.1 in
      let grounded = types_grounded types t.ops (length types) refl t.table.types_are t.shallow.types_are 1023 most_is in
      let sh = op_entries types t.ops (length types) refl t.table.types_are t.shallow.types_are 1023 most_is way t.number op t.table.ops_are t.shallow.ops_are t.is in
      let heap = w.read.heap in
      let kept = λ (n : ℕ) (y : In start.here end.here n). (let v = nth_some w.said.heap n (omega (arith, y.1, heap.0)) in
      ap (item end.items) (let z : n ≡ 0 + n = omega arith in z) ∙ has_nth end.items 0 n w.said.heap v.0 heap.1 v.1 ∙ sym v.1) in
      let r = entries_compared end.marks types order octets (call w.said) 1023 grounded enough (omega arith) (entries way op) w.said.values start end (record { off = None; left = end.marks }) w.read.follow
      refl ([], sym (append-nil end.marks)) kept sh in
      let last = compare_entries types (call w.said) enough (entries way op) w.said.values (record { off = None; left = end.marks }) in
      let found = off_err w.said last.off d e in
      record {
        said = w.said;
        end = end;
        read = w.read;
        differ = λ left agree. not_both (read_stub types op way order asked octets) w.said d
            (stub_found types op way order asked octets w.said o.is (record { end = end; read = w.read; left = left; agree = agree })) all;
        left = last.left;
        demands = r.demands;
        asks = r.asks;
        least = least_is r.demands d (sym r.off ∙ found);
      }

  pub departs : (d : Departure) → IsOpOf types op → read_stub types op way order asked octets ≡ Err d → Departs types op way order asked octets d
  unfolding read_stub
  departs d o e = by (failed (read_values types order octets enough (entries way op)) (λ x. message_of x.0 x.1 >>= λ m. compared types op way asked x.1.marks m) d e)
    where
      by : Failed (read_values types order octets enough (entries way op)) (λ x. message_of x.0 x.1 >>= λ m. compared types op way asked x.1.marks m) d → Departs types op way order asked octets d
      by (at_once f) = is_read f (is_first types op way order octets d o f) (is_amiss types op way order octets d o f)
      by (later x f g) =
          let w = whole x f in
          is_compared (disagree o d x w (sym (through (message_of x.0 x.1) (λ m. compared types op way asked x.1.marks m) w.said w.made) ∙ g) e)
