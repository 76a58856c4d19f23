-- Values of a stub, one after the other.
use Rattle.std.proofs.Common.{◌≡◌, ℕ, ◌+◌, ◌<◌, ◌≤◌, Bool, true, false, List, [], ◌∷◌, drop, length, get_or, map, Option, Ok, Err, refl, sym, ap, ◌∙◌}
use Rattle.std.proofs.lemmas.List.{drop_all}
use Rattle.rpc_base.specs.declared.identifiers.Order.{Order}
use Rattle.ndr_value.specs.Forms.{Form}
use Rattle.ndr_value.specs.Values.{Val, Vals, no_val, then_val}
use Rattle.ndr_table.specs.declared.operation.Param.{Param}
use Rattle.ndr_table.specs.Tables.{ParamForm, param_form}
use Rattle.ndr_arrays.specs.Bind.{◌>>=◌}
use Rattle.ndr_model.specs.declared.departure.Departure.{Departure}
use Rattle.ndr_model.specs.declared.way.Way.{Way}
use Rattle.ndr_model.specs.Places.{Last, noting}
use Rattle.ndr_model.specs.Stub.{Entry, goes, param_entry, entries_of, last_entry, range_marks}
use Rattle.ndr_model.specs.Build.{Found, whole, follows}
use Rattle.ndr_pointers.specs.declared.scan_fault.ReadError.{ReadError}
use Rattle.ndr_pointers.specs.declared.scan_fault.ReadError.TheVariants as errors
use Rattle.ndr_pointers.specs.Gives.{Fails}
use Rattle.ndr_read.specs.Readings.{join, Followed, before, param_at, entry_at}
use Rattle.ndr_pointers.proofs.Walks.{drop_more}
use Rattle.ndr_read.proofs.Rows.{join_none, join_one}

regroup : (front : Vals) (v : Val) (row : Followed) → before front (row >>= λ y. Ok (then_val v y.0, y.1)) ≡ before (join front (then_val v no_val)) row
regroup front v (Ok y) = ap (λ (vs : Vals). Ok (vs, y.1)) (sym (join_one front v y.0))
regroup front v (Err e) = refl

abbrev then_row : (Last → Followed) → Val × Last → Followed
then_row g x = g x.1 >>= λ y. Ok (then_val x.0 y.0, y.1)

abbrev moved_on : (Last → Last) → Val × Last → Found
moved_on f x = Ok (x.0, f x.1)

abbrev ok_of : Vals × Last → Followed
ok_of x = Ok x

ok_is : (x y : Vals × Last) → ok_of x ≡ ok_of y → x ≡ y
ok_is x y e = cc

off_is : (r : Found) (f : Val × Last → Vals × Last) (d : Departure) → (r >>= λ x. ok_of (f x)) ≡ Err d → r ≡ Err d
off_is (Ok x) f d e = absurd cc
off_is (Err a) f d e = cc

assoc : (r : Found) (f : Last → Last) (g : Last → Followed) → (r >>= λ x. then_row (λ l. g (f l)) x) ≡ ((r >>= λ x. moved_on f x) >>= λ x. then_row g x)
assoc (Ok x) f g = refl
assoc (Err d) f g = refl

module _ (types : List Form) (order : Order) (octets : List ℕ) (n : ℕ) where
  abbrev next : Entry → List Entry → Last → Followed
  next e es q = entry_at types order octets n e q >>= λ x. follows types order octets n es x.1 >>= λ y. Ok (then_val x.0 y.0, y.1)

  follow_step : (e : Entry) (es : List Entry) (q : Last) → follows types order octets n (e ∷ es) q ≡ next e es q
  follow_step e es q = assoc (whole types order octets n 256 e.shape q) (λ l. noting (range_marks e q.here.at) l) (λ l. follows types order octets n es l)

  -- one more
  pub entry_more : (front : Vals) (e : Entry) (es : List Entry) (q q' : Last) (v : Val) → entry_at types order octets n e q ≡ Ok (v, q')
      → before front (follows types order octets n (e ∷ es) q) ≡ before (join front (then_val v no_val)) (follows types order octets n es q')
  entry_more front e es q q' v is =
      ap (before front) (follow_step e es q)
      ∙ ap (λ (r : Found). before front (r >>= λ x. follows types order octets n es x.1 >>= λ y. Ok (then_val x.0 y.0, y.1))) is
      ∙ regroup front v (follows types order octets n es q')

  pub entry_fails : (front : Vals) (e : Entry) (es : List Entry) (q : Last) (d : Departure) → entry_at types order octets n e q ≡ Err d → before front (follows types order octets n (e ∷ es) q) ≡ Err d
  entry_fails front e es q d is =
      ap (before front) (follow_step e es q) ∙ ap (λ (r : Found). before front (r >>= λ x. follows types order octets n es x.1 >>= λ y. Ok (then_val x.0 y.0, y.1))) is

  -- ---- parameters

  module _ (way : Way) (params : List Param) (result : Option Form) (i : ℕ) (p : Param) (lt : i < length params) (is : p ≡ get_or params i p) where
    rest_is : map param_form (drop i params) ≡ param_form p ∷ map param_form (drop (i + 1) params)
    rest_is = ap (map param_form) (drop_more params i p lt is)

    entries_go : goes way (param_form p) ≡ true → entries_of way (map param_form (drop i params)) result ≡ param_entry (param_form p) ∷ entries_of way (map param_form (drop (i + 1) params)) result
    entries_go g = ap (λ (ps : List ParamForm). entries_of way ps result) rest_is ∙ rw g refl

    entries_stay : goes way (param_form p) ≡ false → entries_of way (map param_form (drop i params)) result ≡ entries_of way (map param_form (drop (i + 1) params)) result
    entries_stay g = ap (λ (ps : List ParamForm). entries_of way ps result) rest_is ∙ rw g refl

    param_true : (r : Found) (front front' : Vals) (q q' : Last) (total : Followed) → r ≡ entry_at types order octets n (param_entry (param_form p)) q → goes way (param_form p) ≡ true
        → (r >>= λ x. Ok (join front (then_val x.0 no_val), x.1)) ≡ ok_of (front', q') → before front (follows types order octets n (entries_of way (map param_form (drop i params)) result) q) ≡ total
        → before front' (follows types order octets n (entries_of way (map param_form (drop (i + 1) params)) result) q') ≡ total
    param_true (Ok x) front front' q q' total is g e so_far =
        let same : (join front (then_val x.0 no_val), x.1) ≡ (front', q') = ok_is (join front (then_val x.0 no_val), x.1) (front', q') e in
        ap (λ (y : Vals × Last). before y.0 (follows types order octets n (entries_of way (map param_form (drop (i + 1) params)) result) y.1)) (sym same)
        ∙ (sym (ap (λ (es : List Entry). before front (follows types order octets n es q)) (entries_go g) ∙ entry_more front (param_entry (param_form p)) (entries_of way (map param_form (drop (i + 1) params)) result) q x.1 x.0 (sym is)) ∙ so_far)
    param_true (Err d) front front' q q' total is g e so_far = absurd cc

    param_by : (b : Bool) (front front' : Vals) (q q' : Last) (total : Followed) → goes way (param_form p) ≡ b → param_at types order octets n b (param_entry (param_form p)) front q ≡ ok_of (front', q')
        → before front (follows types order octets n (entries_of way (map param_form (drop i params)) result) q) ≡ total
        → before front' (follows types order octets n (entries_of way (map param_form (drop (i + 1) params)) result) q') ≡ total
    param_by true front front' q q' total g e so_far = param_true (entry_at types order octets n (param_entry (param_form p)) q) front front' q q' total refl g e so_far
    param_by false front front' q q' total g e so_far =
        let same : (front, q) ≡ (front', q') = ok_is (front, q) (front', q') e in
        ap (λ (y : Vals × Last). before y.0 (follows types order octets n (entries_of way (map param_form (drop (i + 1) params)) result) y.1)) (sym same)
        ∙ (sym (ap (λ (es : List Entry). before front (follows types order octets n es q)) (entries_stay g)) ∙ so_far)

    pub param_next : (front front' : Vals) (q q' : Last) (total : Followed) → param_at types order octets n (goes way (param_form p)) (param_entry (param_form p)) front q ≡ Ok (front', q')
        → before front (follows types order octets n (entries_of way (map param_form (drop i params)) result) q) ≡ total
        → before front' (follows types order octets n (entries_of way (map param_form (drop (i + 1) params)) result) q') ≡ total
    param_next front front' q q' total e so_far = param_by (goes way (param_form p)) front front' q q' total refl e so_far

    param_off : (b : Bool) (front : Vals) (q : Last) (total : Followed) (d : Departure) → goes way (param_form p) ≡ b → param_at types order octets n b (param_entry (param_form p)) front q ≡ Err d
        → before front (follows types order octets n (entries_of way (map param_form (drop i params)) result) q) ≡ total → total ≡ Err d
    param_off true front q total d g e so_far =
        sym so_far ∙ ap (λ (es : List Entry). before front (follows types order octets n es q)) (entries_go g)
        ∙ entry_fails front (param_entry (param_form p)) (entries_of way (map param_form (drop (i + 1) params)) result) q d (off_is (entry_at types order octets n (param_entry (param_form p)) q) (λ x. (join front (then_val x.0 no_val), x.1)) d e)
    param_off false front q total d g e so_far = absurd cc

    pub param_fails : (err : ReadError) (front : Vals) (q : Last) (total : Followed) → Fails err (param_at types order octets n (goes way (param_form p)) (param_entry (param_form p)) front q)
        → before front (follows types order octets n (entries_of way (map param_form (drop i params)) result) q) ≡ total → Fails err total
    param_fails errors.Memory front q total e so_far = tt
    param_fails (errors.Departs d) front q total e so_far = param_off (goes way (param_form p)) front q total d refl e so_far

  -- ---- and the result

  pub last_is : (way : Way) (params : List Param) (result : Option Form) (i : ℕ) (front : Vals) (q : Last) (total : Followed) → length params ≤ i
      → before front (follows types order octets n (entries_of way (map param_form (drop i params)) result) q) ≡ total → before front (follows types order octets n (last_entry way result) q) ≡ total
  last_is way params result i front q total le so_far =
      sym (ap (λ (ps : List Param). before front (follows types order octets n (entries_of way (map param_form ps) result) q)) (drop_all i params le)) ∙ so_far

  module _ (front : Vals) (q : Last) (es : List Entry) where
    pub no_result : es ≡ [] → before front (follows types order octets n es q) ≡ Ok (front, q)
    no_result e = ap (λ (xs : List Entry). before front (follows types order octets n xs q)) e ∙ ap (λ (vs : Vals). Ok (vs, q)) (join_none front)

    pub a_result : (e : Entry) (v : Val) (q' : Last) → es ≡ e ∷ [] → entry_at types order octets n e q ≡ Ok (v, q') → before front (follows types order octets n es q) ≡ Ok (join front (then_val v no_val), q')
    a_result e v q' is f =
        ap (λ (xs : List Entry). before front (follows types order octets n xs q)) is ∙ entry_more front e [] q q' v f ∙ ap (λ (vs : Vals). Ok (vs, q')) (join_none (join front (then_val v no_val)))

    pub result_fails : (err : ReadError) (e : Entry) → es ≡ e ∷ [] → Fails err (entry_at types order octets n e q) → Fails err (before front (follows types order octets n es q))
    result_fails errors.Memory e is f = tt
    result_fails (errors.Departs d) e is f = ap (λ (xs : List Entry). before front (follows types order octets n xs q)) is ∙ entry_fails front e [] q d f
