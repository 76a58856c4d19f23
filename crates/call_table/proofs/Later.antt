-- The greatest of the calls that pass: of two kinds, among the first rows, and of one queue.
use Rattle.std.proofs.Common.{◌≡◌, ℕ, zero, suc, ◌+◌, ◌≤◌, ◌<◌, max, Bool, true, false, ◌&&◌, ◌||◌, if◌then◌else◌, Option, Some, None, List, [], ◌∷◌, length, map, take, get_or, refl, sym, ◌∙◌, ap, subst, arith, inl, inr}
use Rattle.std.specs.List.{filter}
use Rattle.std.proofs.lemmas.Bool.{cases_Bool}
use Rattle.std.proofs.lemmas.List.{length-map, take_all}
use Rattle.handle_model.specs.declared.entry.Slot.{Slot}
use Rattle.call_table.specs.declared.row.Row.{Row}
use Rattle.call_table.specs.Rows.{calls}
use Rattle.call_table.specs.Kept.{IsRow}
use Rattle.call_table.specs.Queues.{QueuedCall, queued, is_in, IsNext, shares_one, shares}
use Rattle.call_table.specs.Ahead.{greater, greatest, greatest_of, is_ahead, with_row}
use Rattle.call_table.proofs.Nearest.{Came, row_in}

-- the greatest number of those that pass
abbrev pub greatest_call : (Row → Bool) → List Row → Option ℕ
greatest_call p rows = greatest (calls (filter p rows))

here : (p : Row → Bool) (x : Row) (rows : List Row) → p x ≡ true → greatest_call p (x ∷ rows) ≡ greater x.call (greatest_call p rows)
here p x rows t = rw t refl

later : (p : Row → Bool) (x : Row) (rows : List Row) → p x ≡ false → greatest_call p (x ∷ rows) ≡ greatest_call p rows
later p x rows t = rw t refl

-- NUMBERS

same_some : (a b : ℕ) → a ≡ b → Some a ≡ Some b
same_some a b e = ap (λ n. Some n) e

swapped : (a b : ℕ) (o : Option ℕ) → greater a (greater b o) ≡ greater b (greater a o)
swapped a b None = same_some (max a b) (max b a) (omega arith)
swapped a b (Some m) = same_some (max a (max b m)) (max b (max a m)) (omega arith)

both_greater : (c : ℕ) (a b : Option ℕ) → greatest_of (greater c a) (greater c b) ≡ greater c (greatest_of a b)
both_greater c None None = same_some (max c c) c (omega arith)
both_greater c None (Some n) = same_some (max c (max c n)) (max c n) (omega arith)
both_greater c (Some m) None = same_some (max (max c m) c) (max c m) (omega arith)
both_greater c (Some m) (Some n) = same_some (max (max c m) (max c n)) (max c (max m n)) (omega arith)

first_greater : (c : ℕ) (a b : Option ℕ) → greatest_of (greater c a) b ≡ greater c (greatest_of a b)
first_greater c None b = refl
first_greater c (Some m) None = refl
first_greater c (Some m) (Some n) = same_some (max (max c m) n) (max c (max m n)) (omega arith)

second_greater : (c : ℕ) (a b : Option ℕ) → greatest_of a (greater c b) ≡ greater c (greatest_of a b)
second_greater c None b = refl
second_greater c (Some m) None = same_some (max m c) (max c m) (omega arith)
second_greater c (Some m) (Some n) = same_some (max m (max c n)) (max c (max m n)) (omega arith)

-- TWO KINDS

pub greatest_either : (p q : Row → Bool) (rows : List Row) → greatest_of (greatest_call p rows) (greatest_call q rows) ≡ greatest_call (λ x. p x || q x) rows
greatest_either p q [] = refl
greatest_either p q (x ∷ rows) =
    let rest = greatest_either p q rows in
    elim (cases_Bool (p x)) [
      | inl t ↦
          let a = here p x rows t in
          let c = here (λ y. p y || q y) x rows (rw t refl) in
          elim (cases_Bool (q x)) [
            | inl u ↦
                let b = here q x rows u in
                ap (λ m. greatest_of m (greatest_call q (x ∷ rows))) a ∙ (ap (λ m. greatest_of (greater x.call (greatest_call p rows)) m) b
                ∙ (both_greater x.call (greatest_call p rows) (greatest_call q rows) ∙ (ap (greater x.call) rest ∙ sym c)))
            | inr u ↦
                let b = later q x rows u in
                ap (λ m. greatest_of m (greatest_call q (x ∷ rows))) a ∙ (ap (λ m. greatest_of (greater x.call (greatest_call p rows)) m) b
                ∙ (first_greater x.call (greatest_call p rows) (greatest_call q rows) ∙ (ap (greater x.call) rest ∙ sym c)))
          ]
      | inr t ↦
          let a = later p x rows t in
          elim (cases_Bool (q x)) [
            | inl u ↦
                let b = here q x rows u in
                let c = here (λ y. p y || q y) x rows (rw (t, u) refl) in
                ap (λ m. greatest_of m (greatest_call q (x ∷ rows))) a ∙ (ap (λ m. greatest_of (greatest_call p rows) m) b
                ∙ (second_greater x.call (greatest_call p rows) (greatest_call q rows) ∙ (ap (greater x.call) rest ∙ sym c)))
            | inr u ↦
                let b = later q x rows u in
                let c = later (λ y. p y || q y) x rows (rw (t, u) refl) in
                ap (λ m. greatest_of m (greatest_call q (x ∷ rows))) a ∙ (ap (λ m. greatest_of (greatest_call p rows) m) b ∙ (rest ∙ sym c))
          ]
    ]

greatest_as : (p q : Row → Bool) (rows : List Row) → ((r : Row) → p r ≡ q r) → greatest_call p rows ≡ greatest_call q rows
greatest_as p q rows h = ap (λ rs. greatest (calls rs)) (same p q rows h)
  where
    same : (p q : Row → Bool) (rows : List Row) → ((r : Row) → p r ≡ q r) → filter p rows ≡ filter q rows
    same p q [] h = refl
    same p q (x ∷ rows) h = rw (h x, same p q rows h) refl

pub none_sharing : (ss : List Slot) (k : ℕ) (rows : List Row) → greatest_call (λ r. shares [] r && is_ahead ss k r) rows ≡ None
none_sharing ss k [] = refl
none_sharing ss k (x ∷ rows) = none_sharing ss k rows

-- a call in the queue that is ahead
abbrev pub is_queued_ahead : ℕ → List Slot → ℕ → Row → Bool
is_queued_ahead q ss k r = is_in q (queued r) && is_ahead ss k r

-- the first slot has this queue
pub queue_more : (ss : List Slot) (k : ℕ) (o : Option ℕ) (q : ℕ) (later : List Slot) (rows : List Row) → o ≡ Some q
    → greatest_of (greatest_call (is_queued_ahead q ss k) rows) (greatest_call (λ r. shares later r && is_ahead ss k r) rows) ≡ greatest_call (λ r. (shares_one o r || shares later r) && is_ahead ss k r) rows
queue_more ss k o q later rows e =
    greatest_either (is_queued_ahead q ss k) (λ x. shares later x && is_ahead ss k x) rows
    ∙ (greatest_as (λ x. is_queued_ahead q ss k x || (shares later x && is_ahead ss k x)) (λ x. (is_in q (queued x) || shares later x) && is_ahead ss k x) rows (λ x. either (is_in q (queued x)) (shares later x) (is_ahead ss k x))
    ∙ ap (λ y. greatest_call (λ r. (shares_one y r || shares later r) && is_ahead ss k r) rows) (sym e))
  where
    either : (a b c : Bool) → ((a && c) || (b && c)) ≡ ((a || b) && c)
    either true true true = refl
    either true true false = refl
    either true false true = refl
    either true false false = refl
    either false true true = refl
    either false true false = refl
    either false false true = refl
    either false false false = refl

-- AMONG THE FIRST ROWS

abbrev pub greatest_first : (Row → Bool) → List Row → ℕ → Option ℕ
greatest_first p rows n = greatest_call p (take n rows)

-- that of a row, or the one so far
abbrev with_call : (Row → Bool) → Row → Option ℕ → Option ℕ
with_call p x o = if p x then greater x.call o else o

with_later : (p : Row → Bool) (x : Row) (n : ℕ) (o : Option ℕ) → greater n (with_call p x o) ≡ with_call p x (greater n o)
with_later p x n o =
    elim (cases_Bool (p x)) [
      | inl t ↦ rw t (swapped n x.call o)
      | inr t ↦ rw t refl
    ]

with_alone : (p : Row → Bool) (x : Row) → greatest_call p (x ∷ []) ≡ with_call p x None
with_alone p x = elim (cases_Bool (p x)) [ inl t ↦ rw t refl | inr t ↦ rw t refl ]

abbrev no_rows : List Row
no_rows = []

take_none : (n : ℕ) → take n no_rows ≡ no_rows
take_none zero = refl
take_none (suc n) = refl

none_more : (p : Row → Bool) (rows : List Row) (a b : ℕ) → a ≤ b → ((n : ℕ) (d : Row) → a ≤ n → n < b → n < length rows → p (get_or rows n d) ≡ false) → greatest_first p rows b ≡ greatest_first p rows a
none_more p [] a b le h = ap (greatest_call p) (take_none b ∙ sym (take_none a))
none_more p (x ∷ rows) zero zero le h = refl
none_more p (x ∷ rows) zero (suc b) le h =
    later p x (take b rows) (h 0 x (omega arith) (omega arith) (omega arith)) ∙ none_more p rows zero b (omega arith) (λ n d ge lt w. h (suc n) d (omega arith) (omega arith) (omega arith))
none_more p (x ∷ rows) (suc a) zero le h = absurd (omega arith)
none_more p (x ∷ rows) (suc a) (suc b) le h =
    let rest = none_more p rows a b (omega arith) (λ n d ge lt w. h (suc n) d (omega arith) (omega arith) (omega arith)) in
    elim (cases_Bool (p x)) [
      | inl t ↦ here p x (take b rows) t ∙ (ap (greater x.call) rest ∙ sym (here p x (take a rows) t))
      | inr t ↦ later p x (take b rows) t ∙ (rest ∙ sym (later p x (take a rows) t))
    ]

one_more : (p : Row → Bool) (rows : List Row) (i : ℕ) (x : Row) → i < length rows → x ≡ get_or rows i x → greatest_first p rows (suc i) ≡ with_call p x (greatest_first p rows i)
one_more p [] i x lt e = absurd (omega arith)
one_more p (y ∷ rows) zero x lt e = subst (λ z. greatest_call p (y ∷ []) ≡ with_call p z None) (sym e) (with_alone p y)
one_more p (y ∷ rows) (suc i) x lt e =
    let rest = one_more p rows i x (omega arith) e in
    elim (cases_Bool (p y)) [
      | inl t ↦
          here p y (take (suc i) rows) t
          ∙ (ap (greater y.call) rest ∙ (with_later p x y.call (greatest_first p rows i) ∙ ap (with_call p x) (sym (here p y (take i rows) t))))
      | inr t ↦ later p y (take (suc i) rows) t ∙ (rest ∙ ap (with_call p x) (sym (later p y (take i rows) t)))
    ]

-- ONE QUEUE

-- a walk goes on, and has looked at the row
pub looked_on : (q : ℕ) (ss : List Slot) (k : ℕ) (cs : List QueuedCall) (rows : List Row) (found from at : ℕ) (x : Row) (last : Option ℕ) → cs ≡ map queued rows → greatest_first (is_queued_ahead q ss k) rows from ≡ last
    → Came q cs rows found from at → IsRow rows found at → x ≡ get_or rows at x → greatest_first (is_queued_ahead q ss k) rows (at + 1) ≡ with_row ss k x last
looked_on q ss k cs rows found from at x last e h c w is =
    let p : Row → Bool = is_queued_ahead q ss k in
    let inside : is_in q (queued x) ≡ true = ap (λ (r : Row). is_in q (queued r)) is ∙ (ap (is_in q) (sym (row_in cs rows at x e w.within)) ∙ c.is_there.inside (queued x)) in
    let pass : p x ≡ is_ahead ss k x = ap (λ b. b && is_ahead ss k x) inside in
    let none = none_more p rows from at c.from_there (λ n d ge lt size. ap (λ b. b && is_ahead ss k (get_or rows n d)) (c.none_between n d ge lt size)) in
    let next : at + 1 ≡ suc at = omega arith in
    ap (greatest_first p rows) next ∙ (one_more p rows at x w.within is ∙ (ap (with_call p x) (none ∙ h) ∙ ap (λ b. if b then greater x.call last else last) pass))

-- and ends where none follows
pub looked_all : (q : ℕ) (ss : List Slot) (k : ℕ) (cs : List QueuedCall) (rows : List Row) (from : ℕ) (last : Option ℕ) → cs ≡ map queued rows → greatest_first (is_queued_ahead q ss k) rows from ≡ last → IsNext q cs from None
    → greatest_call (is_queued_ahead q ss k) rows ≡ last
looked_all q ss k cs rows from last e h none =
    let p : Row → Bool = is_queued_ahead q ss k in
    let size = ap (λ xs. length xs) e ∙ length-map rows queued in
    let all = take_all (from + length rows) rows (omega arith) in
    let more = none_more p rows from (from + length rows) (omega arith) (λ n d ge lt w. ap (λ b. b && is_ahead ss k (get_or rows n d)) (ap (is_in q) (sym (row_in cs rows n d e w)) ∙ none n (queued d) ge (omega arith))) in
    ap (greatest_call p) (sym all) ∙ (more ∙ h)
