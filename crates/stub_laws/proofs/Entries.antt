-- A departure of the values of a stub, by what stands in the octets, is the one that is read.
use Rattle.std.proofs.Common.{◌≡◌, ℕ, suc, ◌+◌, ◌-◌, ◌*◌, ◌<◌, ◌≤◌, List, ◌∷◌, length, Ok, Err, refl, ap, ◌∙◌, arith}
use Rattle.std.specs.Prelude.{nat_lt}
use Rattle.std.proofs.lemmas.Bool.{lt-ltb}
use Rattle.rpc_base.specs.declared.identifiers.Order.{Order}
use Rattle.ndr_value.specs.Forms.{Form}
use Rattle.ndr_value.specs.Values.{Vals, no_val, then_val}
use Rattle.ndr_table.specs.Tables.{OpForm}
use Rattle.ndr_arrays.specs.Bind.{◌>>=◌}
use Rattle.ndr_arrays.proofs.Steps.{through}
use Rattle.ndr_model.specs.declared.departure.Departure.{Departure}
use Rattle.ndr_model.specs.declared.departure.Departure.TheVariants.{Trailing}
use Rattle.ndr_model.specs.declared.way.Way.{Way}
use Rattle.ndr_model.specs.Places.{Last, noting}
use Rattle.ndr_model.specs.Stub.{Entry, entries, range_marks, start}
use Rattle.ndr_model.specs.Build.{whole, follows, no_more, read_values}
use Rattle.ndr_model.specs.Message.{enough}
use Rattle.ndr_laws.proofs.Grounded.{Grounded, EachEntry}
use Rattle.ndr_laws.proofs.Complete.{whole_found}
use Rattle.ndr_laws.proofs.Levels.{plus, plus_is, tight, tight_is, types_grounded, op_entries}
use Rattle.ndr_faults.specs.Amiss.{OneAmiss, this_entry, later_entry, more_behind}
use Rattle.ndr_faults.specs.First.{IsOpOf, reads}
use Rattle.ndr_faults.proofs.Clear.{AllClear, EntriesClear, types_clear, op_clear}
use Rattle.stub_laws.proofs.Cuts.{stopped, chosen}
use Rattle.stub_laws.proofs.Behind.{whole_told}

module _ (types : List Form) (order : Order) (octets : List ℕ) (clear : AllClear types) (deep : ℕ) (grounded : Grounded types deep) (n : ℕ) (wide : 256 * (deep + 1) + deep ≤ n) where
  -- one of the values departs, or more than seven octets stand behind them
  data Comes (es : List Entry) (q : Last) : Departure → Type 0 where
    stops : {d : Departure} → follows types order octets n es q ≡ Err d → Comes es q d
    has_more : {k : ℕ} (vs : Vals) (end : Last) → follows types order octets n es q ≡ Ok (vs, end) → end.here.at + k ≡ length octets → 7 < k → Comes es q (Trailing k)

  one_told : {es : List Entry} {q : Last} {d : Departure} → OneAmiss types order octets es q d → EachEntry types deep es → EntriesClear types es → Comes es q d
  one_told (this_entry {e = e} {es = es} {q = q} {d = d} w) sh cl =
      stops (stopped (whole types order octets n 256 e.shape q) (λ x. follows types order octets n es (noting (range_marks e q.here.at) x.1) >>= λ y. Ok (then_val x.0 y.0, y.1)) d
      (whole_told types order octets clear deep grounded n w sh.0.0 sh.0.1 cl.0 wide))
  one_told (later_entry {e = e} {es = es} {v = v} {q = q} {h = h} {d = d} w a) sh cl = by (one_told a sh.1 cl.1)
    where
      rest : Last
      rest = noting (range_marks e q.here.at) h

      first : follows types order octets n (e ∷ es) q ≡ (follows types order octets n es rest >>= λ y. Ok (then_val v y.0, y.1))
      first = through (whole types order octets n 256 e.shape q) (λ x. follows types order octets n es (noting (range_marks e q.here.at) x.1) >>= λ y. Ok (then_val x.0 y.0, y.1)) (v, h)
          (whole_found types order octets deep grounded n 256 e.shape v q h w sh.0.0 sh.0.1 wide)

      by : {d : Departure} → Comes es rest d → Comes (e ∷ es) q d
      by (stops {d = d} f) = stops (first ∙ stopped (follows types order octets n es rest) (λ y. Ok (then_val v y.0, y.1)) d f)
      by (has_more vs end f at lt) = has_more (then_val v vs) end (first ∙ through (follows types order octets n es rest) (λ y. Ok (then_val v y.0, y.1)) (vs, end) f) at lt
  one_told (more_behind {q = q} at lt) sh cl = has_more no_val q refl at lt

  values_told : (es : List Entry) (d : Departure) → Comes es start d → (follows types order octets n es start >>= λ x. no_more types order octets x) ≡ Err d
  values_told es d (stops f) = stopped (follows types order octets n es start) (λ x. no_more types order octets x) d f
  values_told es d (has_more {k = k} vs end f at lt) =
      let left : length octets - end.here.at ≡ k = omega (arith, at) in
      through (follows types order octets n es start) (λ x. no_more types order octets x) (vs, end) f
      ∙ chosen (nat_lt (end.here.at + 7) (length octets)) (Err (Trailing (length octets - end.here.at))) (Ok (vs, end)) (lt-ltb _ _ (omega (arith, at, lt)))
      ∙ ap (λ (m : ℕ). Err (Trailing m)) left

-- between a pointer and the next stand less than 1024 constructs and names
most_is : plus (suc (tight 256)) 255 ≤ 1023
most_is = omega (arith, plus_is (suc (tight 256)) 255, tight_is 256)

pub amiss_is_read : (types : List Form) (op : OpForm) (way : Way) (order : Order) (octets : List ℕ) (d : Departure) → IsOpOf types op → OneAmiss types order octets (entries way op) start d
    → reads types order (entries way op) octets ≡ Err d
unfolding read_values
amiss_is_read types op way order octets d o a =
    let t = o.is in
    let clear = types_clear types (length types) refl t.table.types_are o.sound.types_are in
    let grounded = types_grounded types t.ops (length types) refl t.table.types_are t.shallow.types_are 1023 most_is in
    values_told types order octets clear 1023 grounded enough (omega arith) (entries way op) d
    (one_told types order octets clear 1023 grounded enough (omega arith) a
    (op_entries types t.ops (length types) refl t.table.types_are t.shallow.types_are 1023 most_is way t.number op t.table.ops_are t.shallow.ops_are t.is)
    (op_clear types (length types) refl t.ops way t.number op t.table.ops_are o.sound.ops_are t.is))
