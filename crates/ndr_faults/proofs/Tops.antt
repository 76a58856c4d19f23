-- Any number of levels more reads and compares the same.
use Rattle.std.proofs.Common.{◌≡◌, ℕ, zero, suc, ◌+◌, ◌-◌, ◌*◌, ◌≤◌, List, [], ◌∷◌, length, Option, None, Result, Ok, refl, ap, subst, ◌∙◌, arith}
use Rattle.rpc_base.specs.declared.identifiers.Order.{Order}
use Rattle.ndr_value.specs.Forms.{Form}
use Rattle.ndr_value.specs.Values.{Vals, no_val, then_val, Msg}
use Rattle.ndr_table.specs.Tables.{OpForm}
use Rattle.ndr_arrays.specs.Bind.{◌>>=◌}
use Rattle.ndr_model.specs.declared.departure.Departure.{Departure}
use Rattle.ndr_model.specs.declared.way.Way.{Way}
use Rattle.ndr_model.specs.Places.{Last, noting}
use Rattle.ndr_model.specs.Stub.{Entry, entries, range_marks, start}
use Rattle.ndr_model.specs.Named.{Call}
use Rattle.ndr_model.specs.Compare.{Check, compare, compare_range, compare_entries}
use Rattle.ndr_model.specs.Build.{whole, follows, no_more, read_values}
use Rattle.ndr_model.specs.Message.{enough, message_of, unless_off, read_stub}
use Rattle.ndr_laws.specs.Laws.{IsOp}
use Rattle.ndr_laws.proofs.Grounded.{Grounded, EachEntry}
use Rattle.ndr_laws.proofs.Levels.{plus, plus_is, tight, tight_is, types_grounded, op_entries}
use Rattle.ndr_faults.specs.Fuel.{compared_with, read_with}
use Rattle.ndr_faults.proofs.Same.{bind_same}
use Rattle.ndr_faults.proofs.Settled.{settled, whole_settled}
use Rattle.ndr_faults.proofs.Counted.{same}

module _ (types : List Form) (deep : ℕ) (grounded : Grounded types deep) (n : ℕ) (wide : 256 * (deep + 1) + deep ≤ n) where
  module _ (order : Order) (octets : List ℕ) where
    follows_same : (es : List Entry) (q : Last) → EachEntry types deep es → follows types order octets (suc n) es q ≡ follows types order octets n es q
    follows_same [] q sh = refl
    follows_same (e ∷ es) q sh =
        bind_same (whole types order octets (suc n) 256 e.shape q) (whole types order octets n 256 e.shape q)
        (λ x. follows types order octets (suc n) es (noting (range_marks e q.here.at) x.1) >>= λ y. Ok (then_val x.0 y.0, y.1)) (λ x. follows types order octets n es (noting (range_marks e q.here.at) x.1) >>= λ y. Ok (then_val x.0 y.0, y.1))
        (whole_settled types order octets deep grounded n 256 e.shape q (settled types order octets deep grounded n 256 deep e.shape sh.0.0 sh.0.1 wide))
        (λ x. ap (λ (r : Result (Vals × Last) Departure). r >>= λ y. Ok (then_val x.0 y.0, y.1)) (follows_same es (noting (range_marks e q.here.at) x.1) sh.1))

    values_same : (es : List Entry) → EachEntry types deep es → read_values types order octets (suc n) es ≡ read_values types order octets n es
    unfolding read_values
    values_same es sh = ap (λ (r : Result (Vals × Last) Departure). r >>= λ x. no_more types order octets x) (follows_same es start sh)

  module _ (call : Call) where
    entries_same : (es : List Entry) (vs : Vals) (c : Check) → EachEntry types deep es → compare_entries types call (suc n) es vs c ≡ compare_entries types call n es vs c
    entries_same [] no_val c sh = refl
    entries_same [] (then_val v vs) c sh = refl
    entries_same (e ∷ es) no_val c sh = refl
    entries_same (e ∷ es) (then_val v vs) c sh =
        ap (λ (x : Check). compare_entries types call (suc n) es vs (compare_range types call e.range v x)) (same types call deep grounded n 256 deep e.shape sh.0.0 sh.0.1 wide no_val None None v c)
        ∙ entries_same es vs (compare_range types call e.range v (compare types call n 256 no_val None None e.shape v c)) sh.1

module _ (types : List Form) (op : OpForm) (way : Way) (order : Order) (asked : Option Msg) (octets : List ℕ) where
  module _ (deep : ℕ) (grounded : Grounded types deep) (sh : EachEntry types deep (entries way op)) where
    one_more : (n : ℕ) → 256 * (deep + 1) + deep ≤ n → read_with (suc n) types op way order asked octets ≡ read_with n types op way order asked octets
    one_more n wide =
        bind_same (read_values types order octets (suc n) (entries way op)) (read_values types order octets n (entries way op))
        (λ x. message_of x.0 x.1 >>= λ m. compared_with (suc n) types op way asked x.1.marks m) (λ x. message_of x.0 x.1 >>= λ m. compared_with n types op way asked x.1.marks m)
        (values_same types deep grounded n wide order octets (entries way op) sh)
        (λ x. bind_same (message_of x.0 x.1) (message_of x.0 x.1) (λ m. compared_with (suc n) types op way asked x.1.marks m) (λ m. compared_with n types op way asked x.1.marks m) refl
        (λ m. ap (λ (c : Check). unless_off m c.off) (entries_same types deep grounded n wide (record { op = op; way = way; asked = asked; said = m }) (entries way op) m.values (record { off = None; left = x.1.marks }) sh)))

    some_more : (n k : ℕ) → 256 * (deep + 1) + deep ≤ n → read_with (plus n k) types op way order asked octets ≡ read_with n types op way order asked octets
    some_more n zero wide = refl
    some_more n (suc k) wide = one_more (plus n k) (omega (arith, plus_is n k, wide)) ∙ some_more n k wide

    more : (n : ℕ) → 256 * (deep + 1) + deep ≤ enough → enough ≤ n → read_with n types op way order asked octets ≡ read_with enough types op way order asked octets
    more n wide le =
        let is : plus enough (n - enough) ≡ n = omega (arith, plus_is enough (n - enough), le) in
        subst (λ (x : ℕ). read_with x types op way order asked octets ≡ read_with enough types op way order asked octets) is (some_more enough (n - enough) wide)

  -- between a pointer and the next stand less than 1024 constructs and names
  most_is : plus (suc (tight 256)) 255 ≤ 1023
  most_is = omega (arith, plus_is (suc (tight 256)) 255, tight_is 256)

  read_is : read_with enough types op way order asked octets ≡ read_stub types op way order asked octets
  unfolding read_stub
  read_is = refl

  pub suffices : (n : ℕ) → IsOp types op → enough ≤ n → read_with n types op way order asked octets ≡ read_stub types op way order asked octets
  suffices n o le =
      more 1023 (types_grounded types o.ops (length types) refl o.table.types_are o.shallow.types_are 1023 most_is)
      (op_entries types o.ops (length types) refl o.table.types_are o.shallow.types_are 1023 most_is way o.number op o.table.ops_are o.shallow.ops_are o.is) n (omega arith) le
      ∙ read_is
