-- A departure that is read is the first.
use Rattle.std.proofs.Common.{◌≡◌, ℕ, suc, ◌+◌, ◌-◌, ◌<◌, ◌≤◌, Bool, true, false, List, [], ◌∷◌, ◌++◌, length, Result, Ok, Err, refl, ap, subst, sym, ◌∙◌, arith}
use Rattle.std.specs.Prelude.{nat_lt, if◌then◌else◌}
use Rattle.std.proofs.lemmas.Bool.{ltb-true}
use Rattle.std.proofs.lemmas.List.{append-nil}
use Rattle.rpc_base.specs.declared.identifiers.Order.{Order}
use Rattle.ndr_value.specs.Forms.{Form}
use Rattle.ndr_value.specs.Values.{Vals, no_val, then_val}
use Rattle.ndr_table.specs.Tables.{OpForm}
use Rattle.ndr_arrays.specs.Bind.{◌>>=◌}
use Rattle.ndr_arrays.proofs.Steps.{bind_ok, ok_is}
use Rattle.ndr_model.specs.declared.departure.Departure.{Departure}
use Rattle.ndr_model.specs.declared.departure.Departure.TheVariants.{Short, Bound, Tag, Pointer, Text, TooDeep, Trailing}
use Rattle.ndr_model.specs.declared.way.Way.{Way}
use Rattle.ndr_model.specs.Places.{Last, noting}
use Rattle.ndr_model.specs.Stub.{Entry, entries, range_marks, start, Follow}
use Rattle.ndr_model.specs.Compare.{place_of}
use Rattle.ndr_model.specs.Build.{whole, follows, no_more, read_values}
use Rattle.ndr_model.specs.Message.{enough}
use Rattle.ndr_model.proofs.Sound.{whole_stands}
use Rattle.ndr_laws.proofs.Levels.{plus, plus_is, tight, tight_is, types_grounded, op_entries}
use Rattle.ndr_faults.specs.First.{IsOpOf, reads, EndUpTo, DepartsAt, EndsEarly, IsFirst}
use Rattle.ndr_faults.proofs.Cut.{Before, Cut, ended, alike, departed}
use Rattle.ndr_faults.proofs.Clear.{types_clear, op_clear}
use Rattle.ndr_faults.proofs.Fronts.{follows_cut}

-- the first fails, or what goes on with it
pub data Failed {A B : Type 0} (r : Result A Departure) (f : A → Result B Departure) (d : Departure) : Type 0 where
  at_once : r ≡ Err d → Failed r f d
  later : (x : A) → r ≡ Ok x → f x ≡ Err d → Failed r f d

pub failed : {A B : Type 0} (r : Result A Departure) (f : A → Result B Departure) (d : Departure) → (r >>= f) ≡ Err d → Failed r f d
failed (Ok x) f d e = later x refl e
failed (Err c) f d e = at_once (let same : c ≡ d = cc in ap Err same)

stopped : {A B : Type 0} (r : Result A Departure) (f : A → Result B Departure) (d : Departure) → r ≡ Err d → (r >>= f) ≡ Err d
stopped (Ok x) f d e = absurd cc
stopped (Err c) f d e = let same : c ≡ d = cc in ap Err same

-- a departure at a number
data AtNumber : Departure → Type 0 where
  at_bound : {i : ℕ} → AtNumber (Bound i)
  at_tag : {i : ℕ} → AtNumber (Tag i)
  at_pointer : {i : ℕ} → AtNumber (Pointer i)
  at_text : {i : ℕ} → AtNumber (Text i)
  at_level : {i : ℕ} → AtNumber (TooDeep i)

before_is : {k : ℕ} {d : Departure} → AtNumber d → Before k d → place_of d < k
before_is at_bound b = b
before_is at_tag b = b
before_is at_pointer b = b
before_is at_text b = b
before_is at_level b = b

abbrev pub fails : (A : Type 0) → Departure → Result A Departure
fails A d = Err d

err_is : (A : Type 0) (c d : Departure) → fails A c ≡ fails A d → c ≡ d
err_is A c d e = cc

ended_is : {k : ℕ} {A : Type 0} {r r' : Result A Departure} (d : Departure) → Cut k r r' → r ≡ Err d → (Before k d → ⊥) → r' ≡ Err (Short k)
ended_is d ended e not = refl
ended_is d alike e not = absurd cc
ended_is {k} {A = A} d (departed {d = c} b) e not = absurd (not (subst (Before k) (err_is A c d e) b))

not_short : (A : Type 0) {d : Departure} (k : ℕ) → AtNumber d → fails A (Short k) ≡ fails A d → ⊥
not_short A k at_bound e = absurd cc
not_short A k at_tag e = absurd cc
not_short A k at_pointer e = absurd cc
not_short A k at_text e = absurd cc
not_short A k at_level e = absurd cc

-- where the front departs by a number, so does the whole
whole_is : {k : ℕ} {A : Type 0} {r r' : Result A Departure} (d : Departure) → AtNumber d → Cut k r r' → r' ≡ Err d → (r ≡ Err d) × Before k d
whole_is {k} {A = A} d n ended e = absurd (not_short A k n e)
whole_is d n alike e = absurd cc
whole_is {k} {A = A} d n (departed {d = c} b) e = (e, subst (Before k) (err_is A c d e) b)

short_is : {k : ℕ} {A : Type 0} {r r' : Result A Departure} (n : ℕ) → Cut k r r' → r' ≡ Err (Short n) → n ≡ k
short_is n ended e = cc
short_is n alike e = absurd cc
short_is {k} {A = A} n (departed {d = c} b) e = absurd (subst (Before k) (err_is A c (Short n) e) b)

never_behind : {k : ℕ} {A : Type 0} {r r' : Result A Departure} (n : ℕ) → Cut k r r' → r' ≡ Err (Trailing n) → ⊥
never_behind n ended e = absurd cc
never_behind n alike e = absurd cc
never_behind {k} {A = A} n (departed {d = c} b) e = subst (Before k) (err_is A c (Trailing n) e) b

pub if_err : {A : Type 0} (b : Bool) (c d : Departure) (x : A) → (if b then Err c else Ok x) ≡ Err d → (b ≡ true) × (c ≡ d)
if_err {A = A} true c d x e = (refl, err_is A c d e)
if_err false c d x e = absurd cc

module _ (types : List Form) (order : Order) (octets : List ℕ) where
  follows_stand : (n : ℕ) (es : List Entry) (q : Last) (x : Vals × Last) → follows types order octets n es q ≡ Ok x → Follow types order octets es x.0 q x.1
  follows_stand n [] q x e = subst (λ (y : Vals × Last). Follow types order octets [] y.0 q y.1) (ok_is Departure (no_val, q) x e) refl
  follows_stand n (s ∷ es) q x e =
      let a = bind_ok (whole types order octets n 256 s.shape q) (λ y. follows types order octets n es (noting (range_marks s q.here.at) y.1) >>= λ z. Ok (then_val y.0 z.0, z.1)) x e in
      let b = bind_ok (follows types order octets n es (noting (range_marks s q.here.at) a.0.1)) (λ z. Ok (then_val a.0.0 z.0, z.1)) x a.2 in
      subst (λ (y : Vals × Last). Follow types order octets (s ∷ es) y.0 q y.1) (ok_is Departure (then_val a.0.0 b.0.0, b.0.1) x b.2)
      (a.0.1, whole_stands types order octets n 256 s.shape q a.0 a.1, follows_stand n es (noting (range_marks s q.here.at) a.0.1) b.0 b.1)

module _ (types : List Form) (order : Order) (es : List Entry) where
  abbrev walks : List ℕ → Result (Vals × Last) Departure
  walks octets = follows types order octets enough es start

  -- fronts go along with what they begin
  abbrev Cuts : Type 0
  Cuts = (front more : List ℕ) → Cut (length front) (walks (front ++ more)) (walks front)

  walks_fail : (octets : List ℕ) (d : Departure) → walks octets ≡ Err d → reads types order es octets ≡ Err d
  unfolding read_values
  walks_fail octets d e = stopped (walks octets) (λ x. no_more types order octets x) d e

  -- what a reading fails with
  data Told (octets : List ℕ) (d : Departure) : Type 0 where
    on_way : walks octets ≡ Err d → Told octets d
    at_end : (x : Vals × Last) → walks octets ≡ Ok x → x.1.here.at + 7 < length octets → d ≡ Trailing (length octets - x.1.here.at) → Told octets d

  told : (octets : List ℕ) (d : Departure) → reads types order es octets ≡ Err d → Told octets d
  unfolding read_values
  told octets d e = by (failed (walks octets) (λ x. no_more types order octets x) d e)
    where
      by : Failed (walks octets) (λ x. no_more types order octets x) d → Told octets d
      by (at_once f) = on_way f
      by (later x f g) =
          let h = if_err (nat_lt (x.1.here.at + 7) (length octets)) (Trailing (length octets - x.1.here.at)) d x g in
          at_end x f (ltb-true _ _ h.0) (sym h.1)

  module _ (cuts : Cuts) where
    -- a front that has no departure in it ends too early
    fronts_end : (octets : List ℕ) (d : Departure) (i : ℕ) → walks octets ≡ Err d → ((k : ℕ) → k ≤ i → Before k d → ⊥) → EndUpTo types order es octets i
    fronts_end octets d i e not = λ front more is le.
        walks_fail front (Short (length front)) (ended_is d (cuts front more) (ap walks is ∙ e) (not (length front) le))

    number_first : (octets : List ℕ) (d : Departure) → AtNumber d → walks octets ≡ Err d → DepartsAt types order es octets d
    number_first octets d n e =
        let own = whole_is d n (subst (λ (os : List ℕ). Cut (length octets) (walks os) (walks octets)) (append-nil octets) (cuts octets [])) e in record {
          within = before_is n own.1;
          before = fronts_end octets d (place_of d) e (λ k le b. let lt = before_is n b in omega (arith, le, lt));
          behind = λ more. walks_fail (octets ++ more) d (whole_is d n (cuts octets more) e).0;
        }

    short_first : (octets : List ℕ) (n : ℕ) → walks octets ≡ Err (Short n) → EndsEarly types order es octets n
    short_first octets n e =
        record { is = short_is n (cuts octets []) e; before = fronts_end octets (Short n) n e (λ k le b. b) }

    on_way_first : (octets : List ℕ) (d : Departure) → walks octets ≡ Err d → IsFirst types order es octets d
    on_way_first octets (Short n) e = short_first octets n e
    on_way_first octets (Bound i) e = number_first octets (Bound i) at_bound e
    on_way_first octets (Tag i) e = number_first octets (Tag i) at_tag e
    on_way_first octets (Pointer i) e = number_first octets (Pointer i) at_pointer e
    on_way_first octets (Text i) e = number_first octets (Text i) at_text e
    on_way_first octets (TooDeep i) e = number_first octets (TooDeep i) at_level e
    on_way_first octets (Trailing n) e = absurd (never_behind n (cuts octets []) e)

    told_first : (octets : List ℕ) (d : Departure) → Told octets d → IsFirst types order es octets d
    told_first octets d (on_way e) = on_way_first octets d e
    told_first octets d (at_end x e lt is) =
        subst (IsFirst types order es octets) (sym is)
        (record { values = x.0; end = x.1; stand = follows_stand types order octets enough es start x e; is = omega (arith, lt); many = omega (arith, lt) })

module _ (types : List Form) (op : OpForm) (way : Way) (order : Order) where
  -- between a pointer and the next stand less than 1024 constructs and names
  most_is : plus (suc (tight 256)) 255 ≤ 1023
  most_is = omega (arith, plus_is (suc (tight 256)) 255, tight_is 256)

  pub op_cuts : IsOpOf types op → Cuts types order (entries way op)
  op_cuts o front more =
      let t = o.is in
      follows_cut types order front more 1023 (types_grounded types t.ops (length types) refl t.table.types_are t.shallow.types_are 1023 most_is)
      (types_clear types (length types) refl t.table.types_are o.sound.types_are) enough (omega arith) (entries way op) start
      (op_entries types t.ops (length types) refl t.table.types_are t.shallow.types_are 1023 most_is way t.number op t.table.ops_are t.shallow.ops_are t.is)
      (op_clear types (length types) refl t.ops way t.number op t.table.ops_are o.sound.ops_are t.is)

  pub is_first : (octets : List ℕ) (d : Departure) → IsOpOf types op → reads types order (entries way op) octets ≡ Err d → IsFirst types order (entries way op) octets d
  is_first octets d o e = told_first types order (entries way op) (op_cuts o) octets d (told types order (entries way op) octets d e)
