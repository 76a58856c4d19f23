-- Numbers in order: a key comes, goes and is looked for, and those that rows have.
use Rattle.std.proofs.Common.{◌≡◌, ℕ, suc, ◌+◌, ◌<◌, ◌≤◌, Bool, true, false, ◌==◌, nat_lt, Some, None, List, [], ◌∷◌, ◌++◌, length, map, get_or, refl, sym, ◌∙◌, subst, arith, inl, inr}
use Rattle.std.specs.List.{remove}
use Rattle.std.specs.List.Sorted.{IsNonDecreasing, IsPartitionPoint}
use Rattle.std.proofs.lemmas.Bool.{cases_Bool, cases_lt, eqb-true, eq-eqb, ltb-true, ltb-false}
use Rattle.std.proofs.lemmas.List.Sums.{sum_by-remove}
use Rattle.std.proofs.lemmas.List.Edits.{length-remove, get_or-remove_below, get_or-remove_above}
use Rattle.call_table.specs.declared.row.Row.{Row}
use Rattle.call_table.specs.Rows.{row_at, at_call, without}
use Rattle.call_table.specs.Kept.{Rises}
use Rattle.call_table.specs.Sorted.{one, held, IsKeyIndex, IsLeastFrom, HasKeys}
use Rattle.call_table.proofs.Tallied.{total_push, total_without, total_marked, total_same}

-- KEYS

pub one_same : (n k : ℕ) → k ≡ n → one n k ≡ 1
one_same n k e = let t = eq-eqb k n e in rw t refl

held_cons : (n k : ℕ) (ks : List ℕ) → held n (k ∷ ks) ≡ held n ks + one n k
held_cons n k ks = sym (sum_by-remove (one n) (k ∷ ks) 0 0 (omega arith))

record KeyAt (n : ℕ) (ks : List ℕ) : Type 0 where
  pub at : ℕ
  pub within : at < length ks
  pub here : (d : ℕ) → get_or ks at d ≡ n

held_at : (n : ℕ) (ks : List ℕ) → 0 < held n ks → KeyAt n ks
held_at n [] h = absurd (omega arith)
held_at n (k ∷ ks) h =
    let more = held_cons n k ks in
    elim (cases_Bool (k == n)) [
      | inl t ↦ record { at = 0; within = omega arith; here = λ d. eqb-true k n t }
      | inr f ↦
          let none : one n k ≡ 0 = rw f refl in
          let s = held_at n ks (omega arith) in
          let lt = s.within in record { at = suc s.at; within = omega arith; here = s.here }
    ]

abbrev pub is_low : ℕ → ℕ → Bool
is_low n k = nat_lt k n

pub key_index : (ks : List ℕ) (n i : ℕ) → i ≤ length ks → IsPartitionPoint (λ y. is_low n y ≡ true) (λ y. is_low n y ≡ false) ks i → IsKeyIndex ks n i
key_index ks n i le p =
    record {
      within = le;
      low = λ j d lt. ltb-true _ _ (p.0 j d (omega arith) lt);
      high = λ j d le' lt. ltb-false _ _ (p.1 j d le' lt);
    }

-- a key that is among them is found
pub record IsFound (ks : List ℕ) (n i : ℕ) : Type 0 where
  pub within : i < length ks
  pub here : (d : ℕ) → get_or ks i d ≡ n

pub found : (ks : List ℕ) (n i : ℕ) → IsNonDecreasing ks → IsKeyIndex ks n i → 0 < held n ks → IsFound ks n i
found ks n i up p h =
    let s = held_at n ks h in
    let lt = s.within in
    let from : i ≤ s.at = elim (cases_lt s.at i) [ inl b ↦ absurd (let low = p.low s.at 0 b in let e = s.here 0 in omega arith) | inr le ↦ le ] in
    record {
      within = omega arith;
      here = λ d.
          let high = p.high i d (omega arith) (omega arith) in
          let rise = up i s.at d from lt in
          let e = s.here d in omega arith;
    }

pub sorted_remove : (ks : List ℕ) (i : ℕ) → i < length ks → IsNonDecreasing ks → IsNonDecreasing (remove ks i)
sorted_remove ks i lt up a b d le within =
    let len = length-remove ks i lt in
    elim (cases_lt b i) [
      | inl lb ↦
          let x = get_or-remove_below ks i d a (omega arith) lt in
          let y = get_or-remove_below ks i d b lb lt in
          let z = up a b d le (omega arith) in omega arith
      | inr gb ↦
          let y = get_or-remove_above ks i d b gb lt in
          elim (cases_lt a i) [
            | inl la ↦
                let x = get_or-remove_below ks i d a la lt in
                let z = up a (b + 1) d (omega arith) (omega arith) in omega arith
            | inr ga ↦
                let x = get_or-remove_above ks i d a ga lt in
                let z = up (a + 1) (b + 1) d (omega arith) (omega arith) in omega arith
          ]
    ]

pub held_remove : (n k i : ℕ) (ks : List ℕ) → IsFound ks k i → held n (remove ks i) + one n k ≡ held n ks
held_remove n k i ks f =
    let sum = sum_by-remove (one n) ks i 0 f.within in
    subst (λ m. held n (remove ks i) + one n m ≡ held n ks) (f.here 0) sum

-- THE LEAST KEY FROM A NUMBER ON

-- a key from that number on stands at its index or later
later_key : (ks : List ℕ) (low i n : ℕ) → IsKeyIndex ks low i → low ≤ n → 0 < held n ks → (j : ℕ) × (i ≤ j) × (j < length ks) × ((d : ℕ) → get_or ks j d ≡ n)
later_key ks low i n p le h =
    let s = held_at n ks h in
    let from : i ≤ s.at = elim (cases_lt s.at i) [ inl b ↦ absurd (let under = p.low s.at 0 b in let e = s.here 0 in omega arith) | inr up ↦ up ] in
    (s.at, from, s.within, s.here)

pub least_none : (ks : List ℕ) (low : ℕ) → IsKeyIndex ks low (length ks) → IsLeastFrom ks low None
least_none ks low p n le =
    elim (cases_lt 0 (held n ks)) [
      | inl h ↦ absurd (let s = later_key ks low (length ks) n p le h in let from = s.1 in let lt = s.2 in omega arith)
      | inr z ↦ omega arith
    ]

pub least_some : (ks : List ℕ) (low i k : ℕ) → IsNonDecreasing ks → IsKeyIndex ks low i → i < length ks → k ≡ get_or ks i k → IsLeastFrom ks low (Some k)
least_some ks low i k up p lt e =
    let high = p.high i k (omega arith) lt in
    let sum = sum_by-remove (one k) ks i k lt in
    let own = one_same k (get_or ks i k) (sym e) in (
      omega arith,
      omega (arith, sum, own),
      λ n le less.
          elim (cases_lt 0 (held n ks)) [
            | inl h ↦ absurd (
                let s = later_key ks low i n p le h in
                let rise = up i s.0 k s.1 s.2 in
                let here = s.3 k in omega arith)
            | inr z ↦ omega arith
          ],
    )

-- KEYS OF ROWS

pub keys_push : (f : ℕ → Row → ℕ) (rows : List Row) (ks ks' : List ℕ) (r : Row) → HasKeys f rows ks → ((n : ℕ) → held n ks' ≡ held n ks + f n r) → HasKeys f (rows ++ r ∷ []) ks'
keys_push f rows ks ks' r h m n = let total = total_push (f n) rows r in let is = h n in let more = m n in omega arith

pub keys_hold : (f : ℕ → Row → ℕ) (rows : List Row) (ks : List ℕ) (k : ℕ) (r : Row) → Rises 0 rows → row_at rows k ≡ Some r → HasKeys f rows ks → (n : ℕ) → f n r ≤ held n ks
keys_hold f rows ks k r s e h n = let total = total_without (f n) 0 rows k r s e in let is = h n in omega arith

pub keys_without : (f : ℕ → Row → ℕ) (rows : List Row) (ks ks' : List ℕ) (k : ℕ) (r : Row) → Rises 0 rows → row_at rows k ≡ Some r → HasKeys f rows ks → ((n : ℕ) → held n ks' + f n r ≡ held n ks) → HasKeys f (without k rows) ks'
keys_without f rows ks ks' k r s e h m n = let total = total_without (f n) 0 rows k r s e in let is = h n in let less = m n in omega arith

-- a mark that gives a row other keys
pub keys_marked : (f : ℕ → Row → ℕ) (g : Row → Row) (rows : List Row) (ks ks' : List ℕ) (k : ℕ) (r : Row) → Rises 0 rows → row_at rows k ≡ Some r → HasKeys f rows ks → ((n : ℕ) → held n ks' + f n r ≡ held n ks + f n (g r)) → HasKeys f (map (at_call k g) rows) ks'
keys_marked f g rows ks ks' k r s e h m n = let total = total_marked (f n) g 0 rows k r s e in let is = h n in let now = m n in omega arith

-- and one that gives none
pub keys_same : (f : ℕ → Row → ℕ) (g : Row → Row) (rows : List Row) (ks : List ℕ) (k : ℕ) → ((n : ℕ) (r : Row) → f n (g r) ≡ f n r) → HasKeys f rows ks → HasKeys f (map (at_call k g) rows) ks
keys_same f g rows ks k m h n = h n ∙ sym (total_same (f n) g rows k (m n))
