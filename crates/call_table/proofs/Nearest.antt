-- The least blocker of all queues, and the first of one.
use Rattle.std.proofs.Common.{◌≡◌, ℕ, zero, suc, ◌+◌, ◌≤◌, ◌<◌, Bool, true, false, ◌&&◌, ◌||◌, min, Option, Some, None, List, [], ◌∷◌, ◌++◌, ◌-◌, length, map, take, drop, get_or, refl, sym, ◌∙◌, ap, subst, arith, inl, inr}
use Rattle.std.specs.List.{filter, list_any, remove}
use Rattle.std.proofs.lemmas.Bool.{cases_Bool, cases_lt}
use Rattle.std.proofs.lemmas.List.{get_or-map, length-map, map-append, get_or_default}
use Rattle.handle_model.specs.declared.entry.Slot.{Slot}
use Rattle.handle_model.specs.Journal.{least}
use Rattle.call_table.specs.declared.row.Row.{Row}
use Rattle.call_table.specs.declared.blocks.Blockers.{Blockers}
use Rattle.call_table.specs.Rows.{calls, is_call, at_call, left, stays}
use Rattle.call_table.specs.Kept.{Rises, IsRow}
use Rattle.call_table.specs.Queues.{QueuedCall, QueuedCalls, queues_of, IsQueued, queued, is_in, IsIn, IsNext, blocks, shares_one, shares, least_of}
use Rattle.call_table.proofs.Marks.{head_call, tail_row, first_least, least_low, Marks}
use Rattle.call_table.proofs.Search.{rises_order}
use Rattle.call_table.proofs.Walks.{map_remove}

-- the least number of those that pass
abbrev pub least_call : (Row → Bool) → List Row → Option ℕ
least_call p rows = least (calls (filter p rows))

here : (low : ℕ) (p : Row → Bool) (x : Row) (rows : List Row) → Rises low (x ∷ rows) → p x ≡ true → least_call p (x ∷ rows) ≡ Some x.call
here low p x rows r t = first_least low p (x ∷ rows) r ∙ rw t refl

later : (p : Row → Bool) (x : Row) (rows : List Row) → p x ≡ false → least_call p (x ∷ rows) ≡ least_call p rows
later p x rows t = rw t refl

-- TWO KINDS

least_first : (c : ℕ) (o : Option ℕ) → ((n : ℕ) → o ≡ Some n → c + 1 ≤ n) → least_of (Some c) o ≡ Some c
least_first c None h = refl
least_first c (Some n) h = let more = h n refl in let same : min c n ≡ c = omega arith in ap (λ m. Some m) same

least_last : (c : ℕ) (o : Option ℕ) → ((n : ℕ) → o ≡ Some n → c + 1 ≤ n) → least_of o (Some c) ≡ Some c
least_last c None h = refl
least_last c (Some n) h = let more = h n refl in let same : min n c ≡ c = omega arith in ap (λ m. Some m) same

pub least_either : (p q : Row → Bool) (low : ℕ) (rows : List Row) → Rises low rows → least_of (least_call p rows) (least_call q rows) ≡ least_call (λ x. p x || q x) rows
least_either p q low [] r = refl
least_either p q low (x ∷ rows) r =
    elim (cases_Bool (p x)) [
      | inl t ↦
          let a = here low p x rows r t in
          let c = here low (λ y. p y || q y) x rows r (rw t refl) in
          elim (cases_Bool (q x)) [
            | inl u ↦
                let b = here low q x rows r u in
                let same : min x.call x.call ≡ x.call = omega arith in
                ap (λ m. least_of m (least_call q (x ∷ rows))) a ∙ (ap (λ m. least_of (Some x.call) m) b ∙ (ap (λ m. Some m) same ∙ sym c))
            | inr u ↦
                let b = later q x rows u in
                ap (λ m. least_of m (least_call q (x ∷ rows))) a ∙ (ap (λ m. least_of (Some x.call) m) b ∙ (least_first x.call (least_call q rows) (λ n f. least_low (x.call + 1) q rows n r.2 f) ∙ sym c))
          ]
      | inr t ↦
          let a = later p x rows t in
          elim (cases_Bool (q x)) [
            | inl u ↦
                let b = here low q x rows r u in
                let c = here low (λ y. p y || q y) x rows r (rw (t, u) refl) in
                ap (λ m. least_of m (least_call q (x ∷ rows))) a ∙ (ap (λ m. least_of (least_call p rows) m) b ∙ (least_last x.call (least_call p rows) (λ n f. least_low (x.call + 1) p rows n r.2 f) ∙ sym c))
            | inr u ↦
                let b = later q x rows u in
                let c = later (λ y. p y || q y) x rows (rw (t, u) refl) in
                ap (λ m. least_of m (least_call q (x ∷ rows))) a ∙ (ap (λ m. least_of (least_call p rows) m) b ∙ (least_either p q (x.call + 1) rows r.2 ∙ sym c))
          ]
    ]

least_as : (p q : Row → Bool) (rows : List Row) → ((r : Row) → p r ≡ q r) → least_call p rows ≡ least_call q rows
least_as p q rows h = ap (λ rs. least (calls rs)) (same p q rows h)
  where
    same : (p q : Row → Bool) (rows : List Row) → ((r : Row) → p r ≡ q r) → filter p rows ≡ filter q rows
    same p q [] h = refl
    same p q (x ∷ rows) h = rw (h x, same p q rows h) refl

pub no_slots : (ss : List Slot) → length ss ≡ 0 → ss ≡ []
no_slots [] e = refl
no_slots (s ∷ ss) e = absurd (omega arith)

pub none_shared : (kind : Blockers) (ss : List Slot) (rows : List Row) → least_call (λ r. shares [] r && blocks kind ss r) rows ≡ None
none_shared kind ss [] = refl
none_shared kind ss (x ∷ rows) = none_shared kind ss rows

-- the first slot has this queue
pub one_queue : (kind : Blockers) (ss : List Slot) (o : Option ℕ) (q : ℕ) (later : List Slot) (rows : List Row) → Rises 0 rows → o ≡ Some q
    → least_of (least_call (λ r. is_in q (queued r) && blocks kind ss r) rows) (least_call (λ r. shares later r && blocks kind ss r) rows) ≡ least_call (λ r. (shares_one o r || shares later r) && blocks kind ss r) rows
one_queue kind ss o q later rows r e =
    least_either (λ x. is_in q (queued x) && blocks kind ss x) (λ x. shares later x && blocks kind ss x) 0 rows r
    ∙ (least_as (λ x. (is_in q (queued x) && blocks kind ss x) || (shares later x && blocks kind ss x)) (λ x. (is_in q (queued x) || shares later x) && blocks kind ss x) rows (λ x. either (is_in q (queued x)) (shares later x) (blocks kind ss x))
    ∙ ap (λ y. least_call (λ r. (shares_one y r || shares later r) && blocks kind ss r) rows) (sym e))
  where
    either : (a b c : Bool) → ((a && c) || (b && c)) ≡ ((a || b) && c)
    either true true true = refl
    either true true false = refl
    either true false true = refl
    either true false false = refl
    either false true true = refl
    either false true false = refl
    either false false true = refl
    either false false false = refl

-- ONE QUEUE

abbrev pub is_rival : ℕ → Blockers → List Slot → Row → Bool
is_rival q kind ss r = is_in q (queued r) && blocks kind ss r

-- none before place i
abbrev pub NoneBefore : (Row → Bool) → List Row → ℕ → Type 0
NoneBefore p rows i = (n : ℕ) (d : Row) → n < i → n < length rows → p (get_or rows n d) ≡ false

pub none_least : (p : Row → Bool) (rows : List Row) (i : ℕ) → NoneBefore p rows i → length rows ≤ i → least_call p rows ≡ None
none_least p [] i h le = refl
none_least p (x ∷ rows) i h le =
    later p x rows (h 0 x (omega arith) (omega arith)) ∙ none_least p rows (i - 1) (λ n d lt w. h (suc n) d (omega arith) (omega arith)) (omega arith)

pub first_call : (p : Row → Bool) (low : ℕ) (rows : List Row) (k i : ℕ) → Rises low rows → NoneBefore p rows i → IsRow rows k i → ((d : Row) → p (get_or rows i d) ≡ true) → least_call p rows ≡ Some k
first_call p low [] k i r h w t = let lt = w.within in absurd (omega arith)
first_call p low (x ∷ rows) k zero r h w t = here low p x rows r (t x) ∙ ap (λ n. Some n) (w.here x)
first_call p low (x ∷ rows) k (suc i) r h w t =
    let lt = w.within in
    later p x rows (h 0 x (omega arith) (omega arith)) ∙ first_call p (x.call + 1) rows k i r.2 (λ n d l v. h (suc n) d (omega arith) (omega arith)) (record { within = omega arith; here = w.here }) t

-- one place for each call
one_place : (rows : List Row) (k i j : ℕ) (d : Row) → Rises 0 rows → IsRow rows k i → IsRow rows k j → i ≡ j
one_place rows k i j d r a b =
    elim (cases_lt i j) [
      | inl lt ↦ let up = rises_order 0 rows i j d r lt b.within in let x = a.here d in let y = b.here d in absurd (omega arith)
      | inr ge ↦ elim (cases_lt j i) [
        | inl lt ↦ let up = rises_order 0 rows j i d r lt a.within in let x = a.here d in let y = b.here d in absurd (omega arith)
        | inr le ↦ omega arith
      ]
    ]

-- the row of a call that stands in the queue
pub in_row : (q : ℕ) (cs : List QueuedCall) (rows : List Row) (k i : ℕ) (d : Row) → cs ≡ map queued rows → IsIn q cs k i → IsRow rows k i
in_row q cs rows k i d e h =
    let size = ap (λ xs. length xs) e ∙ length-map rows queued in
    let lt : i < length rows = (let w = h.within in omega arith) in
    record { within = lt; here = λ d. ap (λ (c : QueuedCall). c.call) (sym (get_or-map queued rows i d (queued d) lt) ∙ ap (λ xs. get_or xs i (queued d)) (sym e)) ∙ h.here (queued d) }

-- the next in the queue is at the place of its row, and none comes between
pub record Came (q : ℕ) (cs : List QueuedCall) (rows : List Row) (k from at : ℕ) : Type 0 where
  pub from_there : from ≤ at
  pub is_there : IsIn q cs k at
  pub none_between : (n : ℕ) (d : Row) → from ≤ n → n < at → n < length rows → is_in q (queued (get_or rows n d)) ≡ false

pub row_in : (cs : List QueuedCall) (rows : List Row) (n : ℕ) (d : Row) → cs ≡ map queued rows → n < length rows → get_or cs n (queued d) ≡ queued (get_or rows n d)
row_in cs rows n d e lt = ap (λ xs. get_or xs n (queued d)) e ∙ get_or-map queued rows n d (queued d) lt

pub came : (q : ℕ) (cs : List QueuedCall) (rows : List Row) (k from at : ℕ) (d : Row) → Rises 0 rows → cs ≡ map queued rows → IsNext q cs from (Some k) → IsRow rows k at → Came q cs rows k from at
came q cs rows k from at d r e h w =
    let same = one_place rows k h.0 at d r (in_row q cs rows k h.0 d e h.2) w in
    let le = h.1 in
    record {
      from_there = omega arith;
      is_there = subst (λ j. IsIn q cs k j) same h.2;
      none_between = λ n d ge lt size. ap (is_in q) (sym (row_in cs rows n d e size)) ∙ h.3 n (queued d) ge (omega arith);
    }

pub there_called : (q : ℕ) (cs : List QueuedCall) (rows : List Row) (k from : ℕ) (d : Row) → cs ≡ map queued rows → IsNext q cs from (Some k) → (j : ℕ) × IsRow rows k j
there_called q cs rows k from d e h = (h.0, in_row q cs rows k h.0 d e h.2)

-- a call that comes next has a row
pub row_called : (rows : List Row) (k i : ℕ) → IsRow rows k i → list_any (is_call k) rows ≡ true
row_called [] k i w = absurd (let lt = w.within in omega arith)
row_called (x ∷ rows) k zero w = rw (head_call k x x rows w) refl
row_called (x ∷ rows) k (suc i) w = rw (row_called rows k i (tail_row k i x rows w)) (or_true (is_call k x))
  where
    or_true : (b : Bool) → (b || true) ≡ true
    or_true true = refl
    or_true false = refl

-- a walk goes on, where the call does not block
pub walked : (q : ℕ) (kind : Blockers) (ss : List Slot) (cs : List QueuedCall) (rows : List Row) (k from at : ℕ) (x : Row) → NoneBefore (is_rival q kind ss) rows from → Came q cs rows k from at → x ≡ get_or rows at x → blocks kind ss x ≡ false → NoneBefore (is_rival q kind ss) rows (at + 1)
walked q kind ss cs rows k from at x h c e b n d lt size =
    elim (cases_lt n from) [
      | inl below ↦ h n d below size
      | inr above ↦ elim (cases_lt n at) [
        | inl before ↦ ap (λ b. b && blocks kind ss (get_or rows n d)) (c.none_between n d above before size)
        | inr after ↦
            let same : n ≡ at = omega arith in
            let row : get_or rows n d ≡ x = ap (λ m. get_or rows m d) same ∙ (get_or_default rows at d x (omega arith) ∙ sym e) in
            let off : blocks kind ss (get_or rows n d) ≡ false = ap (blocks kind ss) row ∙ b in
            ap (λ b. is_in q (queued (get_or rows n d)) && b) off ∙ and_false (is_in q (queued (get_or rows n d)))
      ]
    ]
  where
    and_false : (b : Bool) → (b && false) ≡ false
    and_false true = refl
    and_false false = refl

-- and ends where it does
pub ends_there : (q : ℕ) (kind : Blockers) (ss : List Slot) (cs : List QueuedCall) (rows : List Row) (k from at : ℕ) (x : Row) → Rises 0 rows → cs ≡ map queued rows → NoneBefore (is_rival q kind ss) rows from → Came q cs rows k from at → IsRow rows k at → x ≡ get_or rows at x → blocks kind ss x ≡ true → least_call (is_rival q kind ss) rows ≡ Some k
ends_there q kind ss cs rows k from at x r e h c w i b =
    first_call (is_rival q kind ss) 0 rows k at r (λ n d lt size. elim (cases_lt n from) [
      | inl below ↦ h n d below size
      | inr above ↦ ap (λ b. b && blocks kind ss (get_or rows n d)) (c.none_between n d above lt size)
    ]) w (λ d.
    let row : get_or rows at d ≡ x = get_or_default rows at d x w.within ∙ sym i in
    let inside : is_in q (queued (get_or rows at d)) ≡ true = ap (is_in q) (sym (row_in cs rows at d e w.within)) ∙ c.is_there.inside (queued d) in
    ap (λ b. b && blocks kind ss (get_or rows at d)) inside ∙ (ap (blocks kind ss) row ∙ b))

-- or where none follows
pub ends_without : (q : ℕ) (kind : Blockers) (ss : List Slot) (cs : List QueuedCall) (rows : List Row) (from : ℕ) → cs ≡ map queued rows → NoneBefore (is_rival q kind ss) rows from → IsNext q cs from None → least_call (is_rival q kind ss) rows ≡ None
ends_without q kind ss cs rows from e h none =
    let size = ap (λ xs. length xs) e ∙ length-map rows queued in
    none_least (is_rival q kind ss) rows (length rows) (λ n d lt within. elim (cases_lt n from) [
      | inl below ↦ h n d below within
      | inr above ↦
          let off : is_in q (queued (get_or rows n d)) ≡ false = ap (is_in q) (sym (row_in cs rows n d e within)) ∙ none n (queued d) above (omega arith) in
          ap (λ b. b && blocks kind ss (get_or rows n d)) off
    ]) (omega arith)

-- A MARK

one_mark : (k : ℕ) (f : Row → Row) (x : Row) → Marks f → queued (at_call k f x) ≡ queued x
one_mark k f x m =
    elim (cases_Bool (is_call k x)) [
      | inl t ↦ rw t (ap (λ n. record { call = n; queues = queues_of (f x).slots }) (m.call x) ∙ ap (λ ss. record { call = x.call; queues = queues_of ss }) (m.slots x))
      | inr t ↦ rw t refl
    ]

pub mark_queued : (k : ℕ) (f : Row → Row) (rows : List Row) (queues : QueuedCalls) (room : ℕ) → Marks f → IsQueued rows queues room → IsQueued (map (at_call k f) rows) queues room
mark_queued k f rows queues room m s = record { calls_are = s.calls_are ∙ sym (same rows); enough = s.enough }
  where
    same : (rows : List Row) → map queued (map (at_call k f) rows) ≡ map queued rows
    same [] = refl
    same (x ∷ rows) = ap (λ c. c ∷ map queued (map (at_call k f) rows)) (one_mark k f x m) ∙ ap (λ cs. queued x ∷ cs) (same rows)

pub push_queued : (rows : List Row) (x : Row) (old new : QueuedCalls) (room room' : ℕ) → IsQueued rows old room → new.calls ≡ old.calls ++ queued x ∷ [] → new.room + 1 ≡ old.room → room' + 1 ≡ room → IsQueued (rows ++ x ∷ []) new room'
push_queued rows x old new room room' s e n m =
    let enough = s.enough in
    record { calls_are = e ∙ (ap (λ cs. cs ++ queued x ∷ []) s.calls_are ∙ sym (map-append queued rows (x ∷ []))); enough = omega arith }

pub remove_queued : (rows : List Row) (i : ℕ) (old new : QueuedCalls) (room : ℕ) → IsQueued rows old room → new.calls ≡ remove old.calls i → new.room ≡ old.room → IsQueued (remove rows i) new room
remove_queued rows i old new room s e n =
    let enough = s.enough in
    record { calls_are = e ∙ (ap (λ cs. remove cs i) s.calls_are ∙ sym (map_remove queued rows i)); enough = omega arith }

-- A CONNECTION LEAVES

pub left_kept : (c : ℕ) (old : List Row) (i : ℕ) (x : Row) → i < length old → x ≡ get_or (take (suc i) old ++ left c (drop (suc i) old)) i x → stays c x ≡ true → take (suc i) old ++ left c (drop (suc i) old) ≡ take i old ++ left c (drop i old)
left_kept c [] i x lt e s = absurd (omega arith)
left_kept c (y ∷ old) zero x lt e s = let here : stays c y ≡ true = ap (stays c) (sym e) ∙ s in rw here refl
left_kept c (y ∷ old) (suc i) x lt e s = ap (λ ys. y ∷ ys) (left_kept c old i x (omega arith) e s)

pub left_gone : (c : ℕ) (old : List Row) (i : ℕ) (x : Row) → i < length old → x ≡ get_or (take (suc i) old ++ left c (drop (suc i) old)) i x → stays c x ≡ false → remove (take (suc i) old ++ left c (drop (suc i) old)) i ≡ take i old ++ left c (drop i old)
left_gone c [] i x lt e s = absurd (omega arith)
left_gone c (y ∷ old) zero x lt e s = let here : stays c y ≡ false = ap (stays c) (sym e) ∙ s in rw here refl
left_gone c (y ∷ old) (suc i) x lt e s = ap (λ ys. y ∷ ys) (left_gone c old i x (omega arith) e s)

pub left_begun : (c : ℕ) (rows : List Row) → rows ≡ take (length rows) rows ++ left c (drop (length rows) rows)
left_begun c [] = refl
left_begun c (y ∷ rows) = ap (λ ys. y ∷ ys) (left_begun c rows)

pub left_within : (c : ℕ) (old : List Row) (i : ℕ) → i < length old → i < length (take (suc i) old ++ left c (drop (suc i) old))
left_within c [] i lt = absurd (omega arith)
left_within c (y ∷ old) zero lt = omega arith
left_within c (y ∷ old) (suc i) lt = let more = left_within c old i (omega arith) in omega arith
