-- The index of rows: as one comes and goes, and what it tells of blockers.
use Rattle.std.proofs.Common.{◌≡◌, ℕ, ◌<◌, ◌^◌, Bool, true, false, ◌&&◌, ◌||◌, not, ◌==◌, nat_lt, Option, Some, None, if◌then◌else◌, List, [], ◌∷◌, refl, sym, ◌∙◌, ap, subst, arith, inl, inr}
use Rattle.std.specs.List.{list_any}
use Rattle.std.specs.Map.{values_of}
use Rattle.std.specs.Option.{IsSome, MatchOption}
use Rattle.std.specs.BTreeMap.{BTreeMap, get, is_at, IsUpperBound}
use Rattle.std.specs.Ordering.{nat_cmp}
use Rattle.std.proofs.lemmas.Map.Keys.{ge_from_not_lt}
use Rattle.std.proofs.lemmas.Bool.{cases_Bool, or_cases, or_left, or_right, and_parts, and_from, false_from_ne_true, ltb-true, lt-ltb, eqb-true, eq-eqb}
use Rattle.rpc_base.specs.declared.identifiers.WireHandle.{WireHandle}
use Rattle.handle_model.specs.declared.entry.Slot.{Slot}
use Rattle.handle_model.specs.Slots.{named, is_null, same_wire, same_handle, is_exclusive, clash}
use Rattle.handle_model.specs.Journal.{any_clash}
use Rattle.handle_table.proofs.Wires.{wire_is}
use Rattle.handle_model.proofs.Apart.{same_wire_from}
use Rattle.call_table.specs.declared.row.Row.{Row}
use Rattle.call_table.specs.Kept.{Rises}
use Rattle.call_table.specs.Rows.{is_left, is_below, row_at, over, blocks_running, blocks_waiting, blocker_of}
use Rattle.audit_tables.specs.declared.index.Index.{Index}
use Rattle.std.specs.BTreeSet.{BTreeSet}
use Rattle.audit_tables.specs.Users.{Use, has, agree, used_as, is_wire, uses, claims, holds_in, IsUsedBefore}
use Rattle.audit_tables.specs.Index.{has_waiting, IsOf, is_of, Enters, Leaves, Before, AnyBefore}
use Rattle.audit_tables.specs.Keyed.{IsTable}
use Rattle.audit_tables.specs.Calls.{call_of, IsFirstWaiting}
use Rattle.audit_tables.proofs.Keyed.{found}
use Rattle.audit_tables.proofs.Using.{nat_eq_is}
use Rattle.audit_tables.proofs.Rows.{table_rises, any_row, row_any, row_number, row_low, free_blocker, no_runner, no_waiter}

-- A ROW COMES

-- at each number: the row that is put, and else the old one
abbrev pub PutsRow : List Row → Row → List Row → Type 0
PutsRow rows r new = (k : ℕ) → row_at new k ≡ (if r.call == k then Some r else row_at rows k)

entered_at : (p : Row → Bool) (rows new : List Row) (r : Row) (k : ℕ) (now was : Bool) → PutsRow rows r new → row_at rows r.call ≡ None → was ≡ holds_in p (row_at rows k) → now ≡ (is_of p k r || was) → now ≡ holds_in p (row_at new k)
entered_at p rows new r k now was put free w n =
    elim (cases_Bool (r.call == k)) [
      | inl t ↦
          let same = eqb-true r.call k t in
          let none : row_at rows k ≡ None = subst (λ m. row_at rows m ≡ None) same free in
          n ∙ (rw (put k, w, none, t) (plain (p r)))
      | inr f ↦ n ∙ (rw (put k, w, f) (off (p r) (holds_in p (row_at rows k))))
    ]
  where
    plain : (b : Bool) → ((b && true) || false) ≡ b
    plain true = refl
    plain false = refl

    off : (b c : Bool) → ((b && false) || c) ≡ c
    off true c = refl
    off false c = refl

pub index_put : (rows new : List Row) (old : Index) (r : Row) (now : Index) → IsOf rows old → Enters old r now → PutsRow rows r new → row_at rows r.call ≡ None → IsOf new now
index_put rows new old r now o e put free =
    record {
      any_are = λ w b k. entered_at (claims true w b) rows new r k (has now.any w b k) (has old.any w b k) put free (o.any_are w b k) (e.any_more w b k);
      exclusive_are = λ w b k. entered_at (claims false w b) rows new r k (has now.exclusive w b k) (has old.exclusive w b k) put free (o.exclusive_are w b k) (e.exclusive_more w b k);
      waiting_are = λ c k. entered_at (is_left c) rows new r k (has_waiting now.waiting c k) (has_waiting old.waiting c k) put free (o.waiting_are c k) (e.waiting_more c k);
    }

-- A ROW GOES

abbrev pub DropsRow : List Row → ℕ → List Row → Type 0
DropsRow rows m new = (k : ℕ) → row_at new k ≡ (if m == k then None else row_at rows k)

left_at : (p : Row → Bool) (rows new : List Row) (r : Row) (k : ℕ) (now was : Bool) → DropsRow rows r.call new → row_at rows r.call ≡ Some r → was ≡ holds_in p (row_at rows k) → now ≡ (not (is_of p k r) && was) → now ≡ holds_in p (row_at new k)
left_at p rows new r k now was gone here w n =
    elim (cases_Bool (r.call == k)) [
      | inl t ↦
          let same = eqb-true r.call k t in
          let row : row_at rows k ≡ Some r = subst (λ m. row_at rows m ≡ Some r) same here in
          n ∙ (rw (gone k, w, row, t) (none (p r)))
      | inr f ↦ n ∙ (rw (gone k, w, f) (off (p r) (holds_in p (row_at rows k))))
    ]
  where
    none : (b : Bool) → (not (b && true) && b) ≡ false
    none true = refl
    none false = refl

    off : (b c : Bool) → (not (b && false) && c) ≡ c
    off true c = refl
    off false c = refl

pub index_out : (rows new : List Row) (old : Index) (r : Row) (now : Index) → IsOf rows old → Leaves old r now → DropsRow rows r.call new → row_at rows r.call ≡ Some r → IsOf new now
index_out rows new old r now o e gone here =
    record {
      any_are = λ w b k. left_at (claims true w b) rows new r k (has now.any w b k) (has old.any w b k) gone here (o.any_are w b k) (e.any_less w b k);
      exclusive_are = λ w b k. left_at (claims false w b) rows new r k (has now.exclusive w b k) (has old.exclusive w b k) gone here (o.exclusive_are w b k) (e.exclusive_less w b k);
      waiting_are = λ c k. left_at (is_left c) rows new r k (has_waiting now.waiting c k) (has_waiting old.waiting c k) gone here (o.waiting_are c k) (e.waiting_less c k);
    }

-- BY NUMBER

-- a map has at each number the row of it
pub got : (rows : BTreeMap ℕ Row) (k : ℕ) → IsTable call_of rows.entries → get nat_cmp rows k ≡ row_at (values_of rows.entries) k
got rows k t = found call_of k rows.entries t.keyed

pub puts_row : (old new : BTreeMap ℕ Row) (r : Row) → IsTable call_of old.entries → IsTable call_of new.entries → ((q : ℕ) → get nat_cmp new q ≡ (if is_at (nat_cmp r.call) q then Some r else get nat_cmp old q)) → PutsRow (values_of old.entries) r (values_of new.entries)
puts_row old new r t u g k =
    sym (got new k u) ∙ (g k ∙ (ap (λ b. if b then Some r else get nat_cmp old k) (nat_eq_is r.call k) ∙ ap (λ o. if r.call == k then Some r else o) (got old k t)))

pub drops_row : (old new : BTreeMap ℕ Row) (m : ℕ) → IsTable call_of old.entries → IsTable call_of new.entries → ((q : ℕ) → get nat_cmp new q ≡ (if is_at (nat_cmp m) q then None else get nat_cmp old q)) → DropsRow (values_of old.entries) m (values_of new.entries)
drops_row old new m t u g k =
    sym (got new k u) ∙ (g k ∙ (ap (λ b. if b then None else get nat_cmp old k) (nat_eq_is m k) ∙ ap (λ (o : Option Row). if m == k then None else o) (got old k t)))

-- the last number tells whether all are below k
some_is : (o : Option Row) (x : Row) → o ≡ Some x → IsSome o
some_is None x e = absurd (cc)
some_is (Some y) x e = refl

pub last_tells : (rows : BTreeMap ℕ Row) (last : ℕ) (x : Row) (k : ℕ) → IsTable call_of rows.entries → get nat_cmp rows last ≡ Some x → IsUpperBound nat_cmp rows last → nat_lt last k ≡ over k (values_of rows.entries)
last_tells rows last x k t here most =
    let all : List Row = values_of rows.entries in
    let row : row_at all last ≡ Some x = sym (got rows last t) ∙ here in
    let number : x.call ≡ last = row_number all last x row in
    elim (cases_Bool (nat_lt last k)) [
      | inl low ↦
          let lt = ltb-true last k low in
          let none : list_any (λ r. not (is_below k r)) all ≡ false = false_from_ne_true (list_any (λ r. not (is_below k r)) all) (λ h.
          let s = any_row 0 (λ r. not (is_below k r)) all (table_rises rows.entries t) h in
          let up = ge_from_not_lt last s.row.call (most s.row.call (some_is (get nat_cmp rows s.row.call) s.row (got rows s.row.call t ∙ s.here))) in
          let b : nat_lt s.row.call k ≡ true = lt-ltb s.row.call k (omega arith) in
          let f = s.so in absurd (cc)) in
          rw (low, none) refl
      | inr high ↦
          let b : not (is_below k x) ≡ true = rw (number, high) refl in
          let some : list_any (λ r. not (is_below k r)) all ≡ true = row_any (λ r. not (is_below k r)) all last x row b in
          rw (high, some) refl
    ]

-- THE FIRST WAITING CALL OF A CONNECTION

pub none_waits : (rows : List Row) (index : Index) (c : ℕ) → IsOf rows index → Rises 0 rows → ((k : ℕ) → k < 2 ^ 32 → has_waiting index.waiting c k ≡ false) → list_any (is_left c) rows ≡ false
none_waits rows index c o r none =
    false_from_ne_true (list_any (is_left c) rows) (λ t.
    let s = any_row 0 (is_left c) rows r t in
    let small = (row_low 0 rows s.row.call s.row r s.here).1 in
    let there : has_waiting index.waiting c s.row.call ≡ true = o.waiting_are c s.row.call ∙ (ap (holds_in (is_left c)) s.here ∙ s.so) in
    let out = none s.row.call small in absurd (cc))

pub first_is : (rows : List Row) (index : Index) (c : ℕ) (o : Option ℕ) → IsOf rows index → Rises 0 rows → MatchOption o ((k : ℕ) → k < 2 ^ 32 → has_waiting index.waiting c k ≡ false) (λ k. has_waiting index.waiting c k ≡ true) → IsFirstWaiting rows c o
first_is rows index c None i r m = none_waits rows index c i r m
first_is rows index c (Some k) i r m = sym (i.waiting_are c k) ∙ m

-- WHAT TWO SLOTS SAY OF ONE HANDLE

turned_wire : (v w : WireHandle) → same_wire w v ≡ same_wire v w
turned_wire v w =
    elim (cases_Bool (same_wire v w)) [
      | inl t ↦ let same = wire_is v w t in rw t (subst (λ (x : WireHandle). same_wire x v ≡ true) same (same_wire_from v v refl refl))
      | inr f ↦ rw f (false_from_ne_true (same_wire w v) (λ t. let same = wire_is w v t in absurd (let own = subst (λ (x : WireHandle). same_wire x w ≡ true) same (same_wire_from w w refl refl) in cc)))
    ]

if_wire : (w v : WireHandle) (g : Bool) → is_wire w (if g then Some v else None) ≡ (g && same_wire v w)
if_wire w v true = refl
if_wire w v false = refl

-- a use that is found by its handle is one that clashes
one_handle : (w : WireHandle) (o : Option WireHandle) (x y : Bool) → (same_handle (Some w) o && (x || y)) ≡ is_wire w (used_as x y o)
one_handle w None x y = refl
one_handle w (Some v) x y =
    if_turned (elim (cases_Bool (same_wire v w)) [
      | inl t ↦
          let null : is_null w ≡ is_null v = ap is_null (sym (wire_is v w t)) in
          rw (turned_wire v w, t, null) (there (is_null v) (x || y))
      | inr f ↦ rw (turned_wire v w, f) (nowhere (is_null w) (not (is_null v) && (x || y)) (x || y))
    ])
  where
    if_turned : (same_handle (Some w) (Some v) && (x || y)) ≡ ((not (is_null v) && (x || y)) && same_wire v w) → (same_handle (Some w) (Some v) && (x || y)) ≡ is_wire w (used_as x y (Some v))
    if_turned h = h ∙ sym (if_wire w v (not (is_null v) && (x || y)))

    there : (n e : Bool) → ((not n && true) && e) ≡ ((not n && e) && true)
    there true e = refl
    there false true = refl
    there false false = refl

    nowhere : (n g e : Bool) → ((not n && false) && e) ≡ (g && false)
    nowhere true true e = refl
    nowhere true false e = refl
    nowhere false true e = refl
    nowhere false false e = refl

-- some slot clashes with a use of this handle
abbrev pub clashes : Bool → Option WireHandle → Slot → Bool
clashes e o y = same_handle o (named y) && (e || is_exclusive y)

any_uses : (e : Bool) (w : WireHandle) (ys : List Slot) → list_any (clashes e (Some w)) ys ≡ uses e w ys
any_uses e w [] = refl
any_uses e w (y ∷ ys) = rw (one_handle w (named y) e (is_exclusive y), any_uses e w ys) refl

no_uses : (e : Bool) (ys : List Slot) → list_any (clashes e None) ys ≡ false
no_uses e [] = refl
no_uses e (y ∷ ys) = no_uses e ys

-- WHO STANDS BEFORE

-- a call that runs, or waits and has a number below k
pub record Stops (rows : List Row) (k : ℕ) (p : Row → Bool) : Type 0 where
  pub row : Row
  pub here : row_at rows row.call ≡ Some row
  pub early : row.runs ≡ false → row.call < k
  pub so : p row ≡ true

agree_self : (b : Bool) → agree b b ≡ true
agree_self true = refl
agree_self false = refl

agree_is : (a b : Bool) → agree a b ≡ true → b ≡ a
agree_is true true h = refl
agree_is true false h = absurd (cc)
agree_is false true h = absurd (cc)
agree_is false false h = refl

waits_early : (r : Bool) (P : Type 0) → (r ≡ false → P) → not r ≡ true → P
waits_early true P f h = absurd (cc)
waits_early false P f h = f refl

used_before : (any : Bool) (rows : List Row) (users : BTreeSet Use) (k : ℕ) (w : WireHandle) (r : Row) → ((v : WireHandle) (b : Bool) (m : ℕ) → has users v b m ≡ holds_in (claims any v b) (row_at rows m)) → row_at rows r.call ≡ Some r → (r.runs ≡ false → r.call < k) → list_any (clashes any (Some w)) r.slots ≡ true → IsUsedBefore users w k
used_before any rows users k w r are here early h =
    let u : uses any w r.slots ≡ true = sym (any_uses any w r.slots) ∙ h in
    let found : has users w (not r.runs) r.call ≡ true =
    are w (not r.runs) r.call ∙ (ap (holds_in (claims any w (not r.runs))) here ∙ and_from (uses any w r.slots) (agree (not r.runs) (not r.runs)) u (agree_self (not r.runs))) in
    (not r.runs, r.call, found, waits_early r.runs (r.call < k) early)

stops_before : (rows : List Row) (index : Index) (k : ℕ) (e : Bool) (o : Option WireHandle) (r : Row) → IsOf rows index → row_at rows r.call ≡ Some r → (r.runs ≡ false → r.call < k) → list_any (clashes e o) r.slots ≡ true → Before index e o k
stops_before rows index k e None r i here early h = absurd (let f = no_uses e r.slots in cc)
stops_before rows index k true (Some w) r i here early h = used_before true rows index.any k w r i.any_are here early h
stops_before rows index k false (Some w) r i here early h = used_before false rows index.exclusive k w r i.exclusive_are here early h

any_stops : (rows : List Row) (index : Index) (k : ℕ) (ss : List Slot) (r : Row) → IsOf rows index → row_at rows r.call ≡ Some r → (r.runs ≡ false → r.call < k) → any_clash ss r.slots ≡ true → AnyBefore index ss k
any_stops rows index k [] r i here early h = absurd (cc)
any_stops rows index k (x ∷ xs) r i here early h =
    elim (or_cases (list_any (clash x) r.slots) (any_clash xs r.slots) h) [
      | inl t ↦ inl (stops_before rows index k (is_exclusive x) (named x) r i here early t)
      | inr t ↦ inr (any_stops rows index k xs r i here early t)
    ]

found_user : (any : Bool) (rows : List Row) (k : ℕ) (w : WireHandle) (b : Bool) (m : ℕ) (o : Option Row) → row_at rows m ≡ o → holds_in (claims any w b) o ≡ true → (b ≡ true → m < k) → Stops rows k (λ r. list_any (clashes any (Some w)) r.slots)
found_user any rows k w b m None e h lt = absurd (cc)
found_user any rows k w b m (Some r) e h lt =
    let parts = and_parts (uses any w r.slots) (agree (not r.runs) b) h in
    let stage : b ≡ not r.runs = agree_is (not r.runs) b parts.1 in
    let number : r.call ≡ m = row_number rows m r e in
    record {
      row = r;
      here = subst (λ n. row_at rows n ≡ Some r) (sym number) e;
      early = λ f. subst (λ n. n < k) (sym number) (lt (stage ∙ ap not f));
      so = any_uses any w r.slots ∙ parts.0;
    }

before_stops : (rows : List Row) (index : Index) (k : ℕ) (e : Bool) (o : Option WireHandle) → IsOf rows index → Before index e o k → Stops rows k (λ r. list_any (clashes e o) r.slots)
before_stops rows index k e None i b = absurd b
before_stops rows index k true (Some w) i b = found_user true rows k w b.0 b.1 (row_at rows b.1) refl (sym (i.any_are w b.0 b.1) ∙ b.2) b.3
before_stops rows index k false (Some w) i b = found_user false rows k w b.0 b.1 (row_at rows b.1) refl (sym (i.exclusive_are w b.0 b.1) ∙ b.2) b.3

any_before : (rows : List Row) (index : Index) (k : ℕ) (ss : List Slot) → IsOf rows index → AnyBefore index ss k → Stops rows k (λ r. any_clash ss r.slots)
any_before rows index k [] i b = absurd b
any_before rows index k (x ∷ xs) i (inl b) =
    let s = before_stops rows index k (is_exclusive x) (named x) i b in
    record { row = s.row; here = s.here; early = s.early; so = or_left (list_any (clash x) s.row.slots) (any_clash xs s.row.slots) s.so }
any_before rows index k (x ∷ xs) i (inr b) =
    let s = any_before rows index k xs i b in
    record { row = s.row; here = s.here; early = s.early; so = or_right (list_any (clash x) s.row.slots) (any_clash xs s.row.slots) s.so }

-- BLOCKERS

pub stopped : (rows : List Row) (index : Index) (k : ℕ) (ss : List Slot) → IsOf rows index → AnyBefore index ss k → blocker_of ss k rows ≡ None → ⊥
stopped rows index k ss i b e =
    let s = any_before rows index k ss i b in
    elim (cases_Bool s.row.runs) [
      | inl t ↦ no_runner ss k rows e (row_any (blocks_running ss) rows s.row.call s.row s.here (and_from s.row.runs (any_clash ss s.row.slots) t s.so))
      | inr f ↦
          let low : nat_lt s.row.call k ≡ true = lt-ltb s.row.call k (s.early f) in
          let waits : not s.row.runs ≡ true = ap not f in
          no_waiter ss k rows e (row_any (blocks_waiting ss k) rows s.row.call s.row s.here (and_from (not s.row.runs) (nat_lt s.row.call k && any_clash ss s.row.slots) waits (and_from (nat_lt s.row.call k) (any_clash ss s.row.slots) low s.so)))
    ]

pub free : (rows : List Row) (index : Index) (k : ℕ) (ss : List Slot) → IsOf rows index → Rises 0 rows → (AnyBefore index ss k → ⊥) → blocker_of ss k rows ≡ None
free rows index k ss i r none =
    free_blocker ss k rows
    (false_from_ne_true (list_any (blocks_running ss) rows) (λ t.
    let s = any_row 0 (blocks_running ss) rows r t in
    let parts = and_parts s.row.runs (any_clash ss s.row.slots) s.so in
    none (any_stops rows index k ss s.row i s.here (λ f. absurd (let u = parts.0 in cc)) parts.1)))
    (false_from_ne_true (list_any (blocks_waiting ss k) rows) (λ t.
    let s = any_row 0 (blocks_waiting ss k) rows r t in
    let parts = and_parts (not s.row.runs) (nat_lt s.row.call k && any_clash ss s.row.slots) s.so in
    let more = and_parts (nat_lt s.row.call k) (any_clash ss s.row.slots) parts.1 in
    none (any_stops rows index k ss s.row i s.here (λ f. ltb-true s.row.call k more.0) more.1)))

pub untold : (b : Bool) → not b ≡ true → b ≡ true → ⊥
untold true h t = absurd (cc)
untold false h t = absurd (cc)

pub untrue : (b : Bool) → (b ≡ true → ⊥) → not b ≡ true
untrue true f = absurd (f refl)
untrue false f = refl
