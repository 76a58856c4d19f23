-- The waiting calls by connection: a call starts or is marked, and what a connection leaves.
use Rattle.std.proofs.Common.{◌≡◌, ℕ, ◌+◌, ◌^◌, ◌<◌, Bool, true, false, ◌==◌, Option, Some, None, List, [], ◌∷◌, length, map, refl, sym, ◌∙◌, ap, arith, inl, inr}
use Rattle.std.proofs.lemmas.Bool.{cases_Bool, eqb-true, eq-eqb}
use Rattle.call_table.specs.declared.row.Row.{Row}
use Rattle.call_table.specs.Rows.{is_call, is_left, row_at, at_call, taken, with_start, without, left, owed_by, owed_of}
use Rattle.call_table.specs.Kept.{Rises}
use Rattle.call_table.specs.Tally.{total_of}
use Rattle.call_table.specs.Sorted.{OrderedKeys, held}
use Rattle.call_table.specs.Waits.{key_of, waits_under, HasWaiting, IsListed, IsFirstOf}
use Rattle.call_table.proofs.Marks.{others_kept}
use Rattle.call_table.proofs.Ordered.{one_same, keys_marked, keys_same}
use Rattle.call_table.proofs.Owed.{owed_without}

-- ROWS

pub listed_started : (rows : List Row) (ks ks' : List ℕ) (k : ℕ) (r : Row) → Rises 0 rows → row_at rows k ≡ Some r → HasWaiting rows ks → ((n : ℕ) → held n ks' + waits_under n r ≡ held n ks) → HasWaiting (with_start k rows) ks'
listed_started rows ks ks' k r s e h m =
    keys_marked waits_under taken rows ks ks' k r s e h (λ n.
    let off : waits_under n (taken r) ≡ 0 = refl in
    let less = m n in omega arith)

pub listed_marked : (g : Row → Row) (rows : List Row) (w : OrderedKeys) (room k : ℕ) → ((n : ℕ) (r : Row) → waits_under n (g r) ≡ waits_under n r) → IsListed rows w room → IsListed (map (at_call k g) rows) w room
listed_marked g rows w room k m i = record { has_waiting = keys_same waits_under g rows w.keys k m i.has_waiting; enough = i.enough }

-- WHAT A CONNECTION LEAVES

-- a call of another number has another key
other_key : (c k : ℕ) (x : Row) → x.call < 2 ^ 32 → k < 2 ^ 32 → (x.call ≡ k → ⊥) → waits_under (key_of c k) x ≡ 0
other_key c k x small fits ne =
    elim (cases_Bool x.runs) [
      | inl u ↦ rw u refl
      | inr u ↦ elim (cases_Bool (key_of x.conn x.call == key_of c k)) [
        | inl t ↦ absurd (let same = eqb-true (key_of x.conn x.call) (key_of c k) t in ne (omega arith))
        | inr f ↦ rw (u, f) refl
      ]
    ]

none_later : (low c k : ℕ) (rows : List Row) → Rises low rows → k < low → k < 2 ^ 32 → total_of (waits_under (key_of c k)) rows ≡ 0
none_later low c k [] s lt fits = refl
none_later low c k (x ∷ rows) s lt fits =
    let first = s.0 in
    let here = other_key c k x s.1 fits (λ e. omega arith) in
    let rest = none_later (x.call + 1) c k rows s.2 (omega arith) fits in omega arith

record FirstRow (rows : List Row) (c k : ℕ) : Type 0 where
  pub row : Row
  pub there : row_at rows k ≡ Some row
  pub waits_ : row.runs ≡ false
  pub own : row.conn ≡ c

first_row : (low c k : ℕ) (rows : List Row) → Rises low rows → k < 2 ^ 32 → 0 < total_of (waits_under (key_of c k)) rows → FirstRow rows c k
first_row low c k [] s fits h = absurd (omega arith)
first_row low c k (x ∷ rows) s fits h =
    let small = s.1 in
    elim (cases_Bool (is_call k x)) [
      | inl t ↦
          let same = eqb-true x.call k t in
          let none = none_later (x.call + 1) c k rows s.2 (omega arith) fits in
          elim (cases_Bool x.runs) [
            | inl u ↦ absurd (let here : waits_under (key_of c k) x ≡ 0 = rw u refl in omega arith)
            | inr u ↦ elim (cases_Bool (key_of x.conn x.call == key_of c k)) [
              | inl e ↦
                  let key = eqb-true (key_of x.conn x.call) (key_of c k) e in record { row = x; there = rw t refl; waits_ = u; own = omega arith }
              | inr f ↦ absurd (let here : waits_under (key_of c k) x ≡ 0 = rw (u, f) refl in omega arith)
            ]
          ]
      | inr f ↦
          let here = other_key c k x s.1 fits (λ e. let t = eq-eqb x.call k e in cc) in
          let more = first_row (x.call + 1) c k rows s.2 fits (omega arith) in
          record { row = more.row; there = rw f more.there; waits_ = more.waits_; own = more.own }
    ]

left_gone : (c low : ℕ) (rows : List Row) (k : ℕ) (r : Row) → Rises low rows → row_at rows k ≡ Some r → is_left c r ≡ true → left c (without k rows) ≡ left c rows
left_gone c low [] k r s e g = refl
left_gone c low (y ∷ rows) k r s e g =
    elim (cases_Bool (is_call k y)) [
      | inl t ↦
          let here : Some y ≡ Some r = rw t at e in
          let goes : is_left c y ≡ true = left_said c here g in
          let number = eqb-true y.call k t in
          rw (t, goes) (ap (left c) (others_kept (y.call + 1) k rows s.2 (omega arith)))
      | inr f ↦
          let more = left_gone c (y.call + 1) rows k r s.2 (rw f at e) g in
          elim (cases_Bool (is_left c y)) [ inl t ↦ rw (f, t) more | inr u ↦ rw (f, u) (ap (λ xs. y ∷ xs) more) ]
    ]
  where
    left_in : ℕ → Option Row → Bool
    left_in c None = false
    left_in c (Some x) = is_left c x

    left_said : (c : ℕ) {x r : Row} → Some x ≡ Some r → is_left c r ≡ true → is_left c x ≡ true
    left_said c e g = ap (left_in c) e ∙ g

one_fewer : (low : ℕ) (rows : List Row) (k : ℕ) (r : Row) → Rises low rows → row_at rows k ≡ Some r → length (without k rows) + 1 ≡ length rows
one_fewer low [] k r s e = absurd (cc)
one_fewer low (x ∷ rows) k r s e =
    elim (cases_Bool (is_call k x)) [
      | inl t ↦ let number = eqb-true x.call k t in rw (t, others_kept (x.call + 1) k rows s.2 (omega arith)) (omega arith)
      | inr t ↦ let more = one_fewer (x.call + 1) rows k r s.2 (rw t at e) in rw t (omega arith)
    ]

-- the first waiting call of the connection goes
pub record LeaveStep (rows : List Row) (c k : ℕ) : Type 0 where
  pub others : left c (without k rows) ≡ left c rows
  pub less : length (without k rows) + 1 ≡ length rows
  pub owed : owed_of (without k rows) + 4 ≡ owed_of rows

pub leave_step : (rows : List Row) (ks : List ℕ) (c k : ℕ) → Rises 0 rows → HasWaiting rows ks → IsFirstOf ks c (Some k) → LeaveStep rows c k
leave_step rows ks c k s h f =
    let some = f.1 in
    let is = h (key_of c k) in
    let r = first_row 0 c k rows s f.0 (omega arith) in
    let four : owed_by r.row ≡ 4 = (let w = r.waits_ in rw w refl) in
    let conn = eq-eqb r.row.conn c r.own in
    let gone : is_left c r.row ≡ true = (let w = r.waits_ in rw (w, conn) refl) in
    let owed = owed_without 0 rows k r.row s r.there in
    record {
      others = left_gone c 0 rows k r.row s r.there gone;
      less = one_fewer 0 rows k r.row s r.there;
      owed = omega (arith, owed, four);
    }

-- and where there is none, all stay
none_left : (low c : ℕ) (rows : List Row) → Rises low rows → ((k : ℕ) → k < 2 ^ 32 → total_of (waits_under (key_of c k)) rows ≡ 0) → left c rows ≡ rows
none_left low c [] s h = refl
none_left low c (x ∷ rows) s h =
    let rest = none_left (x.call + 1) c rows s.2 (λ k fits. let all = h k fits in omega arith) in
    elim (cases_Bool (is_left c x)) [
      | inl t ↦ absurd (let all = h x.call s.1 in let here = left_key c x t in omega arith)
      | inr f ↦ rw f (ap (λ xs. x ∷ xs) rest)
    ]
  where
    left_key : (c : ℕ) (x : Row) → is_left c x ≡ true → waits_under (key_of c x.call) x ≡ 1
    left_key c x t =
        elim (cases_Bool x.runs) [
          | inl u ↦ absurd (let f = rw u at t in cc)
          | inr u ↦ elim (cases_Bool (x.conn == c)) [
            | inl v ↦
                let own = eqb-true x.conn c v in
                let same = one_same (key_of c x.call) (key_of x.conn x.call) (ap (λ n. key_of n x.call) own) in rw u same
            | inr v ↦ absurd (let f = rw (u, v) at t in cc)
          ]
        ]

pub all_stay : (rows : List Row) (ks : List ℕ) (c : ℕ) → Rises 0 rows → HasWaiting rows ks → IsFirstOf ks c None → left c rows ≡ rows
all_stay rows ks c s h f = none_left 0 c rows s (λ k fits. sym (h (key_of c k)) ∙ f k fits)
