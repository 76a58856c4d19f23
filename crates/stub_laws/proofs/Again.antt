-- Values that stand in octets are read from them, and so is their message.
use Rattle.std.proofs.Common.{◌≡◌, ℕ, suc, ◌+◌, ◌*◌, ◌≤◌, Bool, false, List, [], ◌∷◌, length, Option, Some, Ok, Err, refl, sym, ap, ◌∙◌, arith}
use Rattle.std.specs.Prelude.{nat_lt, if◌then◌else◌}
use Rattle.std.proofs.lemmas.Bool.{le-ltb}
use Rattle.rpc_base.specs.declared.identifiers.Order.{Order}
use Rattle.ndr_value.specs.Forms.{Form}
use Rattle.ndr_value.specs.Values.{Val, Vals, no_val, then_val, count_of, Msg}
use Rattle.ndr_table.specs.Tables.{OpForm}
use Rattle.ndr_arrays.specs.Bind.{◌>>=◌}
use Rattle.ndr_arrays.proofs.Steps.{through}
use Rattle.ndr_model.specs.declared.departure.Departure.{Departure}
use Rattle.ndr_model.specs.declared.way.Way.{Way}
use Rattle.ndr_model.specs.Places.{Last, noting}
use Rattle.ndr_model.specs.Stub.{Entry, entries, range_marks, start, HasItems, Follow, IsRead}
use Rattle.ndr_model.specs.Build.{whole, follows, no_more, read_values}
use Rattle.ndr_model.specs.Message.{enough, front_of, heap_from, with_items, message_of}
use Rattle.ndr_laws.specs.Laws.{IsOp}
use Rattle.ndr_laws.proofs.Grounded.{Grounded, EachEntry}
use Rattle.ndr_laws.proofs.Complete.{whole_found}
use Rattle.ndr_laws.proofs.Levels.{plus, plus_is, tight, tight_is, types_grounded, op_entries}

heap_again : (items : List (ℕ × Val)) (n : ℕ) (heap : Vals) → HasItems items n heap → heap_from items n (count_of heap) ≡ Some heap
heap_again items n no_val h = refl
heap_again items n (then_val v vs) h = ap (λ (o : Option Val). front_of o (heap_from items (suc n) (count_of vs))) h.0 ∙ ap (front_of (Some v)) (heap_again items (suc n) vs h.1)

module _ (types : List Form) (order : Order) (octets : List ℕ) where
  pub message_again : (es : List Entry) (m : Msg) (q : Last) → IsRead types order octets es m q → message_of m.values q ≡ Ok m
  message_again es m q r =
      ap (λ (k : ℕ). with_items m.values q (heap_from q.items 0 k)) (sym r.heap.0) ∙ ap (with_items m.values q) (heap_again q.items 0 m.heap r.heap.1)
      ∙ ap (λ (ws : List _). Ok (record { values = m.values; heap = m.heap; wires = ws })) (sym r.wires)

  module _ (deep : ℕ) (grounded : Grounded types deep) (wide : 256 * (deep + 1) + deep ≤ enough) where
    follows_again : (es : List Entry) (vs : Vals) (q q' : Last) → EachEntry types deep es → Follow types order octets es vs q q' → follows types order octets enough es q ≡ Ok (vs, q')
    follows_again [] no_val q q' sh f = ap (λ (x : Last). Ok (no_val, x)) f
    follows_again [] (then_val v vs) q q' sh f = absurd f
    follows_again (e ∷ es) no_val q q' sh f = absurd f
    follows_again (e ∷ es) (then_val v vs) q q' sh f =
        let h = f.0 in
        through (whole types order octets enough 256 e.shape q) (λ x. follows types order octets enough es (noting (range_marks e q.here.at) x.1) >>= λ y. Ok (then_val x.0 y.0, y.1)) (v, h)
        (whole_found types order octets deep grounded enough 256 e.shape v q h f.1 sh.0.0 sh.0.1 wide)
        ∙ through (follows types order octets enough es (noting (range_marks e q.here.at) h)) (λ y. Ok (then_val v y.0, y.1)) (vs, q')
        (follows_again es vs (noting (range_marks e q.here.at) h) q' sh.1 f.2)

    ended : (b : Bool) (d : Departure) (x : Vals × Last) → b ≡ false → (if b then Err d else Ok x) ≡ Ok x
    ended b d x e = ap (λ (c : Bool). if c then Err d else Ok x) e

    values_again : (es : List Entry) (m : Msg) (end : Last) → EachEntry types deep es → IsRead types order octets es m end → read_values types order octets enough es ≡ Ok (m.values, end)
    unfolding read_values
    values_again es m end sh r =
        through (follows types order octets enough es start) (λ x. no_more types order octets x) (m.values, end) (follows_again es m.values start end sh r.follow)
        ∙ ended (nat_lt (end.here.at + 7) (length octets)) _ (m.values, end) (le-ltb _ _ r.rest)

  -- between a pointer and the next stand less than 1024 constructs and names
  most_is : plus (suc (tight 256)) 255 ≤ 1023
  most_is = omega (arith, plus_is (suc (tight 256)) 255, tight_is 256)

  pub read_again : (op : OpForm) (way : Way) (m : Msg) (end : Last) → IsOp types op → IsRead types order octets (entries way op) m end → read_values types order octets enough (entries way op) ≡ Ok (m.values, end)
  read_again op way m end o r =
      values_again 1023 (types_grounded types o.ops (length types) refl o.table.types_are o.shallow.types_are 1023 most_is) (omega arith) (entries way op) m end
      (op_entries types o.ops (length types) refl o.table.types_are o.shallow.types_are 1023 most_is way o.number op o.table.ops_are o.shallow.ops_are o.is) r
