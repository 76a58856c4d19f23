-- Uses in their order.
use Rattle.std.proofs.Common.{◌≡◌, ℕ, ◌<◌, ◌^◌, if◌then◌else◌, Bool, true, false, ◌&&◌, ◌||◌, not, ◌==◌, Option, Some, None, List, [], ◌∷◌, refl, sym, ◌∙◌, ap, subst, arith, inl, inr}
use Rattle.std.specs.Ordering.{nat_cmp, bool_cmp, ordering_then, is_eq, is_gt}
use Rattle.std.specs.declared.cmp.Ordering.{Ordering}
use Rattle.std.specs.declared.cmp.Ordering.TheVariants.{Less, Equal, Greater}
use Rattle.std.specs.declared.ops.Bound.TheVariants.{Included, Excluded}
use Rattle.std.specs.BTreeMap.{is_at}
use Rattle.std.specs.BTreeMap.Range.{IsInRange}
use Rattle.std.specs.BTreeSet.{BTreeSet, contains}
use Rattle.std.proofs.lemmas.Bool.{cases_order}
use Rattle.std.proofs.lemmas.Bool.Decides.{nat_tests}
use Rattle.rpc_base.specs.declared.identifiers.WireHandle.{WireHandle}
use Rattle.handle_model.specs.declared.entry.Slot.{Slot}
use Rattle.handle_model.specs.Slots.{same_wire}
use Rattle.call_table.specs.declared.row.Row.{Row}
use Rattle.call_table.specs.Rows.{is_left}
use Rattle.audit_tables.specs.Index.{pair_cmp, has_waiting, is_of}
use Rattle.audit_tables.specs.Users.{Use, use_cmp, has, agree, is_use, is_use_of, is_wire, used, uses_at, uses, uses_as, IsUsedBefore}
use Rattle.audit_tables.proofs.Keyed.{cmp_less, cmp_same, cmp_greater}

-- EQUAL USES

then_eq : (x y : Ordering) → is_eq (ordering_then x y) ≡ (is_eq x && is_eq y)
then_eq Less y = refl
then_eq Equal y = refl
then_eq Greater y = refl

pub nat_eq_is : (a b : ℕ) → is_eq (nat_cmp a b) ≡ (a == b)
nat_eq_is a b =
    elim (cases_order a b) [
      | inl same ↦ let t : (a == b) ≡ true = grind (arith, nat_tests) in rw (cmp_same a b same, t) refl
      | inr (inl lt) ↦ let t : (a == b) ≡ false = grind (arith, nat_tests) in rw (cmp_less a b lt, t) refl
      | inr (inr gt) ↦ let t : (a == b) ≡ false = grind (arith, nat_tests) in rw (cmp_greater a b gt, t) refl
    ]

bool_eq_is : (a b : Bool) → is_eq (bool_cmp a b) ≡ agree a b
bool_eq_is true true = refl
bool_eq_is true false = refl
bool_eq_is false true = refl
bool_eq_is false false = refl

and_assoc : (a b c : Bool) → ((a && b) && c) ≡ (a && (b && c))
and_assoc true b c = refl
and_assoc false b c = refl

pub same_use : (v w : WireHandle) (b c : Bool) (k m : ℕ) → is_at (use_cmp (v.attributes, v.id, b, k)) (w.attributes, w.id, c, m) ≡ is_use v b k w c m
same_use v w b c k m =
    let first = nat_cmp v.attributes w.attributes in
    let second = nat_cmp v.id w.id in
    let third = bool_cmp b c in
    then_eq (ordering_then (ordering_then first second) third) (nat_cmp k m) ∙ (ap (λ t. t && is_eq (nat_cmp k m)) (then_eq (ordering_then first second) third ∙ ap (λ t. t && is_eq third) (then_eq first second)) ∙ rw (nat_eq_is v.attributes w.attributes, nat_eq_is v.id w.id, bool_eq_is b c, nat_eq_is k m) (and_assoc (same_wire v w) (agree b c) (k == m)))

cond_or : (t x : Bool) → (if t then true else x) ≡ (t || x)
cond_or true x = refl
cond_or false x = refl

cond_not : (t x : Bool) → (if t then false else x) ≡ (not t && x)
cond_not true x = refl
cond_not false x = refl

pub added : (t u x y : Bool) → t ≡ u → y ≡ (if t then true else x) → y ≡ (u || x)
added t u x y e h = h ∙ (cond_or t x ∙ ap (λ b. b || x) e)

pub taken : (t u x y : Bool) → t ≡ u → y ≡ (if t then false else x) → y ≡ (not u && x)
taken t u x y e h = h ∙ (cond_not t x ∙ ap (λ b. not b && x) e)

-- A RANGE

zero_low : (m : ℕ) → is_gt (nat_cmp 0 m) ≡ false
zero_low m =
    elim (cases_order 0 m) [
      | inl same ↦ rw (cmp_same 0 m same) refl
      | inr (inl lt) ↦ rw (cmp_less 0 m lt) refl
      | inr (inr gt) ↦ absurd (omega (arith, gt))
    ]

-- from the first running call on to before the waiting call k
pub in_range : (users : BTreeSet Use) (w : WireHandle) (k : ℕ) (u : Use) → IsInRange use_cmp (Included (w.attributes, w.id, false, 0)) (Excluded (w.attributes, w.id, true, k)) u → contains use_cmp users u ≡ true → IsUsedBefore users w k
in_range users w k (x, y, b, m) r h =
    elim (cases_order w.attributes x) [
      | inl same_x ↦ elim (cases_order w.id y) [
        | inl same_y ↦
            let there : has users w b m ≡ true = rw (same_x, same_y) h in
            (b, m, there, λ t. earlier m k (let e = rw (cmp_same x w.attributes (sym same_x), cmp_same y w.id (sym same_y), t) at r.1 in e))
        | inr (inl lt) ↦ absurd (let e = rw (cmp_same x w.attributes (sym same_x), cmp_greater y w.id lt) at r.1 in cc)
        | inr (inr gt) ↦ absurd (let e = rw (cmp_same w.attributes x same_x, cmp_greater w.id y gt) at r.0 in cc)
      ]
      | inr (inl lt) ↦ absurd (let e = rw (cmp_greater x w.attributes lt) at r.1 in cc)
      | inr (inr gt) ↦ absurd (let e = rw (cmp_greater w.attributes x gt) at r.0 in cc)
    ]
  where
    earlier : (m k : ℕ) → nat_cmp m k ≡ Less → m < k
    earlier m k e =
        elim (cases_order m k) [
          | inl same ↦ absurd (let f = rw (cmp_same m k same) at e in cc)
          | inr (inl lt) ↦ lt
          | inr (inr gt) ↦ absurd (let f = rw (cmp_greater m k gt) at e in cc)
        ]

pub out_of_range : (users : BTreeSet Use) (w : WireHandle) (k : ℕ) → ((u : Use) → IsInRange use_cmp (Included (w.attributes, w.id, false, 0)) (Excluded (w.attributes, w.id, true, k)) u → contains use_cmp users u ≡ false) → IsUsedBefore users w k → ⊥
out_of_range users w k none (b, m, h, lt) =
    let out = none (w.attributes, w.id, b, m) (from b, upto b lt) in absurd (cc)
  where
    from : (b : Bool) → is_gt (use_cmp (w.attributes, w.id, false, 0) (w.attributes, w.id, b, m)) ≡ false
    from true = rw (cmp_same w.attributes w.attributes refl, cmp_same w.id w.id refl) refl
    from false = rw (cmp_same w.attributes w.attributes refl, cmp_same w.id w.id refl) (zero_low m)

    upto : (b : Bool) → (b ≡ true → m < k) → use_cmp (w.attributes, w.id, b, m) (w.attributes, w.id, true, k) ≡ Less
    upto true lt = rw (cmp_same w.attributes w.attributes refl, cmp_same w.id w.id refl, cmp_less m k (lt refl)) refl
    upto false lt = rw (cmp_same w.attributes w.attributes refl, cmp_same w.id w.id refl) refl

-- THE USES OF A CALL

use_of : (o : Option WireHandle) (waits : Bool) (k : ℕ) (w : WireHandle) (b : Bool) (m : ℕ) → is_use_of o waits k w b m ≡ ((is_wire w o && agree waits b) && (k == m))
use_of None waits k w b m = refl
use_of (Some v) waits k w b m = sym (and_assoc (same_wire v w) (agree waits b) (k == m))

more : (u us a e x : Bool) → (((u && a) && e) || (((us && a) && e) || x)) ≡ ((((u || us) && a) && e) || x)
more true us true true x = refl
more true true true false x = refl
more true false true false x = refl
more true true false e x = refl
more true false false e x = refl
more false us a e x = refl

pub all_more : (any : Bool) (s : Slot) (later : List Slot) (waits : Bool) (k : ℕ) (w : WireHandle) (b : Bool) (m : ℕ) (x : Bool) → (is_use_of (used any s) waits k w b m || (uses_as any later waits k w b m || x)) ≡ (uses_as any (s ∷ later) waits k w b m || x)
all_more any s later waits k w b m x =
    rw (use_of (used any s) waits k w b m) (more (uses_at any w s) (uses any w later) (agree waits b) (k == m) x)

less : (u us a e x : Bool) → (not ((u && a) && e) && (not ((us && a) && e) && x)) ≡ (not (((u || us) && a) && e) && x)
less true us true true x = refl
less true true true false x = refl
less true false true false x = refl
less true true false e x = refl
less true false false e x = refl
less false us a e x = refl

pub all_less : (any : Bool) (s : Slot) (later : List Slot) (waits : Bool) (k : ℕ) (w : WireHandle) (b : Bool) (m : ℕ) (x : Bool) → (not (is_use_of (used any s) waits k w b m) && (not (uses_as any later waits k w b m) && x)) ≡ (not (uses_as any (s ∷ later) waits k w b m) && x)
all_less any s later waits k w b m x =
    rw (use_of (used any s) waits k w b m) (less (uses_at any w s) (uses any w later) (agree waits b) (k == m) x)

-- WAITING CALLS

same_pair : (c d k m : ℕ) → is_at (pair_cmp (c, k)) (d, m) ≡ ((c == d) && (k == m))
same_pair c d k m = then_eq (nat_cmp c d) (nat_cmp k m) ∙ rw (nat_eq_is c d, nat_eq_is k m) refl

-- the waiting call of a row
waiting_use : (r : Row) (c k : ℕ) → r.runs ≡ false → is_at (pair_cmp (r.conn, r.call)) (c, k) ≡ is_of (is_left c) k r
waiting_use r c k f = same_pair r.conn c r.call k ∙ rw f refl

pub waiting_added : (waiting new : BTreeSet (ℕ × ℕ)) (r : Row) → r.runs ≡ false → ((q : ℕ × ℕ) → contains pair_cmp new q ≡ (if is_at (pair_cmp (r.conn, r.call)) q then true else contains pair_cmp waiting q)) → (c k : ℕ) → has_waiting new c k ≡ (is_of (is_left c) k r || has_waiting waiting c k)
waiting_added waiting new r f u c k = added (is_at (pair_cmp (r.conn, r.call)) (c, k)) (is_of (is_left c) k r) (has_waiting waiting c k) (has_waiting new c k) (waiting_use r c k f) (u (c, k))

pub waiting_taken : (waiting new : BTreeSet (ℕ × ℕ)) (r : Row) → r.runs ≡ false → ((q : ℕ × ℕ) → contains pair_cmp new q ≡ (if is_at (pair_cmp (r.conn, r.call)) q then false else contains pair_cmp waiting q)) → (c k : ℕ) → has_waiting new c k ≡ (not (is_of (is_left c) k r) && has_waiting waiting c k)
waiting_taken waiting new r f u c k = taken (is_at (pair_cmp (r.conn, r.call)) (c, k)) (is_of (is_left c) k r) (has_waiting waiting c k) (has_waiting new c k) (waiting_use r c k f) (u (c, k))

-- the calls of a connection, of at most 32 bits
pub pair_in_range : (c k : ℕ) → k < 2 ^ 32 → IsInRange pair_cmp (Included (c, 0)) (Included (c, 4294967295)) (c, k)
pair_in_range c k small = (from, upto)
  where
    from : is_gt (pair_cmp (c, 0) (c, k)) ≡ false
    from = rw (cmp_same c c refl) (zero_low k)

    upto : is_gt (pair_cmp (c, k) (c, 4294967295)) ≡ false
    upto = rw (cmp_same c c refl) (elim (cases_order k 4294967295) [
      | inl same ↦ rw (cmp_same k 4294967295 same) refl
      | inr (inl lt) ↦ rw (cmp_less k 4294967295 lt) refl
      | inr (inr gt) ↦ absurd (omega (arith, gt, small))
    ])
