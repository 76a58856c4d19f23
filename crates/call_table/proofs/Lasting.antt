-- The last call ahead of a waiting one, by its rows and by the journal.
use Rattle.std.proofs.Common.{◌≡◌, ℕ, ◌≤◌, max, Bool, true, false, ◌&&◌, ◌||◌, ◌==◌, nat_lt, if◌then◌else◌, Option, Some, None, List, [], ◌∷◌, ◌++◌, refl, sym, ◌∙◌, ap, subst, arith, inl, inr}
use Rattle.std.specs.List.{list_any, filter}
use Rattle.std.specs.Option.{option_or}
use Rattle.std.proofs.lemmas.Bool.{eq-eqb, ltb-true, ltb-false, cases_Bool}
use Rattle.std.proofs.lemmas.Bool.Decides.{eqb_tells}
use Rattle.std.proofs.lemmas.List.Folds.{list_any-append}
use Rattle.handle_model.specs.Bases.{is_number}
use Rattle.handle_model.specs.History.{History}
use Rattle.handle_model.specs.Journal.{Legal, asked, accepted, taken, slots_in, slots, waits, runs, waiting, running, any_clash, conflict, least, blocker}
use Rattle.handle_model.proofs.Tests.{or_right}
use Rattle.call_table.specs.declared.row.Row.{Row}
use Rattle.call_table.specs.Rows.{calls, blocks_running, blocks_waiting}
use Rattle.call_table.specs.Shown.{rows_of}
use Rattle.call_table.specs.Ahead.{greater, greatest, calls_ahead, last_ahead, is_ahead, last_of, ShowsLast, NoneAheadOfFree}
use Rattle.call_table.proofs.Calls.{number_taken}
use Rattle.call_table.proofs.Found.{has_number, is_of, number_filter, number_calls, taken_runs, waits_listed, running_numbers, waiting_numbers, slots_shown, none_least}

-- GREATEST NUMBERS

none_greatest : (xs : List ℕ) → greatest xs ≡ None → xs ≡ []
none_greatest [] e = refl
none_greatest (x ∷ xs) e = absurd (none_greater x (greatest xs) e)
  where
    none_greater : (n : ℕ) (o : Option ℕ) → greater n o ≡ None → ⊥
    none_greater n None e = cc
    none_greater n (Some m) e = cc

bounds_step : (x m n : ℕ) (xs : List ℕ) (o : Option ℕ) → ((p : ℕ) → o ≡ Some p → has_number n xs ≡ true → n ≤ p) → greatest xs ≡ o → greater x o ≡ Some m → has_number n (x ∷ xs) ≡ true → n ≤ m
bounds_step x m n xs None ih f g t =
    let none = none_greatest xs f in
    let here : x ≡ m = cc in
    elim (eqb_tells x n) [
      | inl q ↦ let same = q.1 in omega arith
      | inr q ↦ let k = rw q.0 at t in let none_there = rw none at k in absurd (cc)
    ]
bounds_step x m n xs (Some p) ih f g t =
    let here : max x p ≡ m = cc in
    elim (eqb_tells x n) [
      | inl q ↦ let same = q.1 in omega arith
      | inr q ↦ let low = ih p refl (rw q.0 at t) in omega arith
    ]

greatest_bounds : (xs : List ℕ) (m n : ℕ) → greatest xs ≡ Some m → has_number n xs ≡ true → n ≤ m
greatest_bounds [] m n e i = absurd (cc)
greatest_bounds (x ∷ xs) m n e i = bounds_step x m n xs (greatest xs) (λ p f t. greatest_bounds xs p n f t) refl e i

there_step : (x m : ℕ) (xs : List ℕ) (o : Option ℕ) → ((p : ℕ) → o ≡ Some p → has_number p xs ≡ true) → greater x o ≡ Some m → has_number m (x ∷ xs) ≡ true
there_step x m xs None ih g = let here : x ≡ m = cc in let q = eq-eqb x m here in rw q refl
there_step x m xs (Some p) ih g =
    let here : max x p ≡ m = cc in
    elim (cases_Bool (nat_lt x p)) [
      | inl lt ↦ let low = ltb-true x p lt in let same : p ≡ m = omega arith in or_right (x == m) (has_number m xs) (subst (λ n. has_number n xs ≡ true) same (ih p refl))
      | inr ge ↦ let high = ltb-false x p ge in let same : x ≡ m = omega arith in let q = eq-eqb x m same in rw q refl
    ]

greatest_there : (xs : List ℕ) (m : ℕ) → greatest xs ≡ Some m → has_number m xs ≡ true
greatest_there [] m e = absurd (cc)
greatest_there (x ∷ xs) m e = there_step x m xs (greatest xs) (λ p f. greatest_there xs p f) e

greatest_as : (xs ys : List ℕ) (a b : Option ℕ) → ((m : ℕ) → has_number m xs ≡ has_number m ys) → greatest xs ≡ a → greatest ys ≡ b → a ≡ b
greatest_as xs ys None None h e f = refl
greatest_as xs ys None (Some n) h e f = let none = none_greatest xs e in let t = greatest_there ys n f in let u = h n in let v = rw none at u in absurd (cc)
greatest_as xs ys (Some m) None h e f = let none = none_greatest ys f in let t = greatest_there xs m e in let u = h m in let v = rw none at u in absurd (cc)
greatest_as xs ys (Some m) (Some n) h e f =
    let up = greatest_bounds xs m n e (h n ∙ greatest_there ys n f) in
    let down = greatest_bounds ys n m f (sym (h m) ∙ greatest_there xs m e) in
    let same : m ≡ n = omega arith in ap (λ x. Some x) same

-- two lists of the same numbers have the same greatest
pub greatest_same : (xs ys : List ℕ) → ((m : ℕ) → has_number m xs ≡ has_number m ys) → greatest xs ≡ greatest ys
greatest_same xs ys h = greatest_as xs ys (greatest xs) (greatest ys) h refl refl

-- THE CALLS AHEAD

spread : (c a b x y : Bool) → ((c && (a || b)) || (x || y)) ≡ (((c && a) || x) || ((c && b) || y))
spread false a b x y = refl
spread true true b x y = refl
spread true false true true y = refl
spread true false false true y = refl
spread true false b false y = refl

any_either : (p q : Row → Bool) (m : ℕ) (rows : List Row) → list_any (is_of m (λ r. p r || q r)) rows ≡ (list_any (is_of m p) rows || list_any (is_of m q) rows)
any_either p q m [] = refl
any_either p q m (r ∷ rows) =
    ap (λ b. ((r.call == m) && (p r || q r)) || b) (any_either p q m rows) ∙ spread (r.call == m) (p r) (q r) (list_any (is_of m p) rows) (list_any (is_of m q) rows)

number_either : (p q : Row → Bool) (m : ℕ) (rows : List Row) → has_number m (calls (filter (λ r. p r || q r) rows)) ≡ (has_number m (calls (filter p rows)) || has_number m (calls (filter q rows)))
number_either p q m rows =
    let a = sym (number_calls p m rows) in
    let b = sym (number_calls q m rows) in
    number_calls (λ r. p r || q r) m rows ∙ (any_either p q m rows ∙ (λ i. a i || b i))

ahead_numbers : (j : History) (k m : ℕ) → Legal j → has_number m (calls (filter (is_ahead (slots j k) k) (rows_of j))) ≡ has_number m (calls_ahead j k)
ahead_numbers j k m l =
    number_either (blocks_running (slots j k)) (blocks_waiting (slots j k) k) m (rows_of j)
    ∙ ((λ i. running_numbers j k m l i || waiting_numbers j k m i)
    ∙ sym (list_any-append (is_number m) (filter (conflict j k) (running j)) (filter (λ n. nat_lt n k && conflict j k n) (waiting j))))

while_waiting : (j : History) (k : ℕ) → waits j k ≡ true → last_ahead j k ≡ greatest (calls_ahead j k)
while_waiting j k w = ap (λ b. if b then greatest (calls_ahead j k) else None) w

-- LAWS

pub last_shown : ShowsLast
last_shown j k l w =
    ap (λ ss. last_of ss k (rows_of j)) (slots_shown j k l (rw w refl))
    ∙ (greatest_same (calls (filter (is_ahead (slots j k) k) (rows_of j))) (calls_ahead j k) (λ m. ahead_numbers j k m l) ∙ sym (while_waiting j k w))

left_empty : (xs ys : List ℕ) → xs ++ ys ≡ [] → xs ≡ []
left_empty [] ys e = refl
left_empty (x ∷ xs) ys e = absurd (cc)

right_empty : (xs ys : List ℕ) → xs ++ ys ≡ [] → ys ≡ []
right_empty [] ys e = e
right_empty (x ∷ xs) ys e = absurd (cc)

or_first : (a b : Option ℕ) → option_or a b ≡ None → a ≡ None
or_first None b h = refl
or_first (Some n) b h = absurd (cc)

or_second : (a b : Option ℕ) → option_or a b ≡ None → b ≡ None
or_second None b h = h
or_second (Some n) b h = absurd (cc)

module _ (j : History) (k : ℕ) (w : waits j k ≡ true) where
  abbrev run : List ℕ
  run = filter (conflict j k) (running j)

  abbrev wait : List ℕ
  wait = filter (λ m. nat_lt m k && conflict j k m) (waiting j)

  none_blocks : last_ahead j k ≡ None → blocker j k ≡ None
  none_blocks e =
      let none = none_greatest (run ++ wait) (sym (while_waiting j k w) ∙ e) in
      λ i. option_or (least (left_empty run wait none i)) (least (right_empty run wait none i))

  none_ahead : blocker j k ≡ None → last_ahead j k ≡ None
  none_ahead e =
      let a = none_least run (or_first (least run) (least wait) e) in
      let b = none_least wait (or_second (least run) (least wait) e) in
      while_waiting j k w ∙ (λ i. greatest (a i ++ b i))

pub free_shown : NoneAheadOfFree
free_shown j k w = (none_blocks j k w, none_ahead j k w)

-- JOURNALS THAT SAY THE SAME

running_ahead : (j : History) (k m : ℕ) → has_number m (filter (conflict j k) (running j)) ≡ (runs j m && conflict j k m)
running_ahead j k m =
    number_filter (conflict j k) m (running j) ∙ (ap (λ b. b && conflict j k m) (number_filter (runs j) m (taken j) ∙ ap (λ b. b && runs j m) (number_taken j m)) ∙ taken_runs j m (conflict j k m))

waiting_ahead : (j : History) (k m : ℕ) → has_number m (filter (λ n. nat_lt n k && conflict j k n) (waiting j)) ≡ (waits j m && (nat_lt m k && conflict j k m))
waiting_ahead j k m =
    number_filter (λ n. nat_lt n k && conflict j k n) m (waiting j) ∙ (ap (λ b. b && (nat_lt m k && conflict j k m)) (number_filter (waits j) m (accepted j)) ∙ waits_listed j m (asked j m) (nat_lt m k && conflict j k m) refl)

ahead_number : (j : History) (k m : ℕ) → has_number m (calls_ahead j k) ≡ ((runs j m && conflict j k m) || (waits j m && (nat_lt m k && conflict j k m)))
ahead_number j k m =
    list_any-append (is_number m) (filter (conflict j k) (running j)) (filter (λ n. nat_lt n k && conflict j k n) (waiting j)) ∙ (λ i. running_ahead j k m i || waiting_ahead j k m i)

guarded : (r w l a b : Bool) → ((w || r) ≡ true → a ≡ b) → ((r && a) || (w && (l && a))) ≡ ((r && b) || (w && (l && b)))
guarded false false l a b h = refl
guarded false true l a b h = let e = h refl in ap (λ c. l && c) e
guarded true false l a b h = let e = h refl in ap (λ c. c || false) e
guarded true true l a b h = let e = h refl in ap (λ c. c || (l && c)) e

-- where the same calls wait and run, and ask the same, the same one is the last
pub last_alike : (x j : History) (k : ℕ) → ((m : ℕ) → waits x m ≡ waits j m) → ((m : ℕ) → runs x m ≡ runs j m) → ((m : ℕ) → (waits j m || runs j m) ≡ true → asked x m ≡ asked j m) → last_ahead x k ≡ last_ahead j k
last_alike x j k wx rx ask =
    elim (cases_Bool (waits j k)) [
      | inl t ↦
          let mine : asked x k ≡ asked j k = ask k (rw t refl) in
          let same : (m : ℕ) → has_number m (calls_ahead x k) ≡ has_number m (calls_ahead j k) =
          λ m. ahead_number x k m
          ∙ ((λ i. (rx m i && conflict x k m) || (wx m i && (nat_lt m k && conflict x k m)))
          ∙ (guarded (runs j m) (waits j m) (nat_lt m k) (conflict x k m) (conflict j k m) (λ h. let other = ask m h in λ i. any_clash (slots_in (mine i)) (slots_in (other i)))
          ∙ sym (ahead_number j k m))) in
          while_waiting x k (wx k ∙ t) ∙ (greatest_same (calls_ahead x k) (calls_ahead j k) same ∙ sym (while_waiting j k t))
      | inr f ↦ ap (λ b. if b then greatest (calls_ahead x k) else None) (wx k ∙ f) ∙ sym (ap (λ b. if b then greatest (calls_ahead j k) else None) f)
    ]
