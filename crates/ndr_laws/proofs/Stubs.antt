-- A message is read from octets exactly where they are a stub of it.
use Rattle.std.proofs.Common.{◌≡◌, ℕ, zero, suc, ◌+◌, ◌*◌, ◌≤◌, Bool, false, List, [], ◌∷◌, length, Option, Some, None, Ok, Err, refl, sym, ap, subst, ◌∙◌, arith}
use Rattle.std.specs.Prelude.{nat_lt, if◌then◌else◌}
use Rattle.std.proofs.lemmas.Bool.{le-ltb}
use Rattle.rpc_base.specs.declared.identifiers.Order.{Order}
use Rattle.ndr_value.specs.Forms.{Form}
use Rattle.ndr_value.specs.Values.{Val, Vals, no_val, then_val, count_of, Msg}
use Rattle.ndr_table.specs.Tables.{OpForm}
use Rattle.ndr_arrays.specs.Bind.{◌>>=◌}
use Rattle.ndr_arrays.proofs.Steps.{bind_ok, through, ok_is}
use Rattle.ndr_model.specs.declared.departure.Departure.{Departure}
use Rattle.ndr_model.specs.declared.way.Way.{Way}
use Rattle.ndr_model.specs.Places.{Last, noting}
use Rattle.ndr_model.specs.Stub.{Entry, entries, range_marks, start, item, HasItems, Follow, IsRead}
use Rattle.ndr_model.specs.Named.{Call}
use Rattle.ndr_model.specs.Compare.{Check, compare_entries}
use Rattle.ndr_model.specs.Build.{whole, follows, no_more, read_values}
use Rattle.ndr_model.specs.Message.{IsStub, enough, front_of, heap_from, with_items, message_of, unless_off, compared, read_stub}
use Rattle.ndr_model.proofs.Stubs.{values_stand}
use Rattle.ndr_laws.specs.Laws.{IsOp}
use Rattle.ndr_laws.proofs.Grounded.{Grounded, EachEntry}
use Rattle.ndr_laws.proofs.Complete.{whole_found}
use Rattle.ndr_laws.proofs.Agreeing.{entries_ok}
use Rattle.ndr_laws.proofs.Agreed.{clean, entries_clean}
use Rattle.ndr_laws.proofs.Levels.{plus, plus_is, tight, tight_is, types_grounded, op_entries}

-- ---- the heap, in order

front_ok : (o : Option Val) (p : Option Vals) (heap : Vals) → front_of o p ≡ Some heap → (v : Val) × (vs : Vals) × (o ≡ Some v) × (p ≡ Some vs) × (then_val v vs ≡ heap)
front_ok None p heap e = absurd (nothing p e)
  where
    nothing : (p : Option Vals) → front_of None p ≡ Some heap → ⊥
    nothing None e = absurd cc
    nothing (Some vs) e = absurd cc
front_ok (Some v) None heap e = absurd cc
front_ok (Some v) (Some vs) heap e = (v, vs, refl, refl, cc)

abbrev Filled : List (ℕ × Val) → ℕ → ℕ → Vals → Type 0
Filled items n k heap = (count_of heap ≡ k) × HasItems items n heap

heap_ok : (items : List (ℕ × Val)) (n k : ℕ) (heap : Vals) → heap_from items n k ≡ Some heap → Filled items n k heap
heap_ok items n zero heap e = let same : no_val ≡ heap = cc in subst (λ (h : Vals). Filled items n zero h) same (refl, tt)
heap_ok items n (suc k) heap e =
    let f = front_ok (item items n) (heap_from items (suc n) k) heap e in
    let r = heap_ok items (suc n) k f.1 f.3 in
    subst (λ (h : Vals). Filled items n (suc k) h) f.4 (ap suc r.0, (f.2, r.1))

heap_again : (items : List (ℕ × Val)) (n : ℕ) (heap : Vals) → HasItems items n heap → heap_from items n (count_of heap) ≡ Some heap
heap_again items n no_val h = refl
heap_again items n (then_val v vs) h = ap (λ (o : Option Val). front_of o (heap_from items (suc n) (count_of vs))) h.0 ∙ ap (front_of (Some v)) (heap_again items (suc n) vs h.1)

items_ok : (vs : Vals) (q : Last) (o : Option Vals) (m : Msg) → with_items vs q o ≡ Ok m → (heap : Vals) × (o ≡ Some heap) × (record { values = vs; heap = heap; wires = q.here.wires } ≡ m)
items_ok vs q None m e = absurd cc
items_ok vs q (Some heap) m e = (heap, refl, ok_is Departure (record { values = vs; heap = heap; wires = q.here.wires }) m e)

off_ok : (m n : Msg) (d : Option Departure) → unless_off m d ≡ Ok n → (d ≡ None) × (m ≡ n)
off_ok m n None e = (refl, ok_is Departure m n e)
off_ok m n (Some d) e = absurd cc

module _ (types : List Form) (op : OpForm) (way : Way) (order : Order) (asked : Option Msg) (octets : List ℕ) where
  abbrev call : Msg → Call
  call m = record { op = op; way = way; asked = asked; said = m }

  pub read_stands : (m : Msg) → read_stub types op way order asked octets ≡ Ok m → IsStub types op way order asked m octets
  unfolding read_stub
  read_stands m e =
      let a = bind_ok (read_values types order octets enough (entries way op)) (λ x. message_of x.0 x.1 >>= λ n. compared types op way asked x.1.marks n) m e in
      let b = bind_ok (message_of a.0.0 a.0.1) (λ n. compared types op way asked a.0.1.marks n) m a.2 in
      let c = off_ok b.0 m (compare_entries types (call b.0) enough (entries way op) b.0.values (clean a.0.1.marks)).off b.2 in
      let f = values_stand types order octets enough (entries way op) a.0 a.1 in
      let h = items_ok a.0.0 a.0.1 (heap_from a.0.1.items 0 (length a.0.1.here.met)) b.0 b.1 in
      let filled = heap_ok a.0.1.items 0 (length a.0.1.here.met) h.0 h.1 in
      let read : IsRead types order octets (entries way op) b.0 a.0.1 =
      subst (λ (n : Msg). IsRead types order octets (entries way op) n a.0.1) h.2 (record { follow = f.0; rest = f.1; heap = filled; wires = refl }) in
      let agree = entries_ok types (call b.0) enough (entries way op) b.0.values (clean a.0.1.marks) c.0 in
      subst (λ (n : Msg). IsStub types op way order asked n octets) c.1 (record { end = a.0.1; read = read; left = _; agree = agree.1 })

  module _ (deep : ℕ) (grounded : Grounded types deep) (wide : 256 * (deep + 1) + deep ≤ enough) where
    follows_found : (es : List Entry) (vs : Vals) (q q' : Last) → EachEntry types deep es → Follow types order octets es vs q q' → follows types order octets enough es q ≡ Ok (vs, q')
    follows_found [] no_val q q' sh f = ap (λ (x : Last). Ok (no_val, x)) f
    follows_found [] (then_val v vs) q q' sh f = absurd f
    follows_found (e ∷ es) no_val q q' sh f = absurd f
    follows_found (e ∷ es) (then_val v vs) q q' sh f =
        let h = f.0 in
        through (whole types order octets enough 256 e.shape q) (λ x. follows types order octets enough es (noting (range_marks e q.here.at) x.1) >>= λ y. Ok (then_val x.0 y.0, y.1)) (v, h)
        (whole_found types order octets deep grounded enough 256 e.shape v q h f.1 sh.0.0 sh.0.1 wide)
        ∙ through (follows types order octets enough es (noting (range_marks e q.here.at) h)) (λ y. Ok (then_val v y.0, y.1)) (vs, q')
        (follows_found es vs (noting (range_marks e q.here.at) h) q' sh.1 f.2)

    ended : (b : Bool) (d : Departure) (x : Vals × Last) → b ≡ false → (if b then Err d else Ok x) ≡ Ok x
    ended b d x e = ap (λ (c : Bool). if c then Err d else Ok x) e

    values_found : (es : List Entry) (m : Msg) (end : Last) → EachEntry types deep es → IsRead types order octets es m end → read_values types order octets enough es ≡ Ok (m.values, end)
    unfolding read_values
    values_found es m end sh r =
        through (follows types order octets enough es start) (λ x. no_more types order octets x) (m.values, end) (follows_found es m.values start end sh r.follow)
        ∙ ended (nat_lt (end.here.at + 7) (length octets)) _ (m.values, end) (le-ltb _ _ r.rest)

    message_found : (m : Msg) (q : Last) → Filled q.items 0 (length q.here.met) m.heap → m.wires ≡ q.here.wires → message_of m.values q ≡ Ok m
    message_found m q filled wires =
        ap (λ (k : ℕ). with_items m.values q (heap_from q.items 0 k)) (sym filled.0) ∙ ap (with_items m.values q) (heap_again q.items 0 m.heap filled.1)
        ∙ ap (λ (ws : List _). Ok (record { values = m.values; heap = m.heap; wires = ws })) (sym wires)

    pub stands_read : (m : Msg) → EachEntry types deep (entries way op) → IsStub types op way order asked m octets → read_stub types op way order asked octets ≡ Ok m
    unfolding read_stub
    stands_read m sh s =
        through (read_values types order octets enough (entries way op)) (λ x. message_of x.0 x.1 >>= λ n. compared types op way asked x.1.marks n) (m.values, s.end) (values_found (entries way op) m s.end sh s.read)
        ∙ through (message_of m.values s.end) (λ n. compared types op way asked s.end.marks n) m (message_found m s.end s.read.heap s.read.wires)
        ∙ ap (λ (c : Check). unless_off m c.off) (entries_clean types (call m) deep grounded enough s.agree sh wide)

  -- between a pointer and the next stand less than 1024 constructs and names
  most_is : plus (suc (tight 256)) 255 ≤ 1023
  most_is = omega (arith, plus_is (suc (tight 256)) 255, tight_is 256)

  pub stub_found : (m : Msg) → IsOp types op → IsStub types op way order asked m octets → read_stub types op way order asked octets ≡ Ok m
  stub_found m o s =
      stands_read 1023 (types_grounded types o.ops (length types) refl o.table.types_are o.shallow.types_are 1023 most_is) (omega arith) m
      (op_entries types o.ops (length types) refl o.table.types_are o.shallow.types_are 1023 most_is way o.number op o.table.ops_are o.shallow.ops_are o.is) s

  pub one_stub : (m n : Msg) → IsOp types op → IsStub types op way order asked m octets → IsStub types op way order asked n octets → m ≡ n
  one_stub m n o s t = ok_is Departure m n (sym (stub_found m o s) ∙ stub_found n o t)
